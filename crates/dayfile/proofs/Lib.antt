pub mod Eating
pub mod Chunks
pub mod Fields
pub mod Numbers
pub mod Entries
pub mod Examples
