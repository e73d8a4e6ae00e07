pub mod Counts
pub mod Settles
