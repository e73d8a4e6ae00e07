pub mod Sets
pub mod Highest
