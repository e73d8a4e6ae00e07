pub mod Bytes
pub mod Stands
pub mod Reply
pub mod Asks
