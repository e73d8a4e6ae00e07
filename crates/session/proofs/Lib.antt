pub mod Stopping
pub mod Futures
pub mod Desks
pub mod Over
pub mod Behind
pub mod Unique
pub mod Theorem
