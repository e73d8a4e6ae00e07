pub mod Texts
pub mod Fields
pub mod Ranges
pub mod Room
pub mod Examples
