pub mod Writing
pub mod Steps
pub mod Endings
pub mod Eating
pub mod Morning
