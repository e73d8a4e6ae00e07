pub mod Stops
pub mod Turns
pub mod Feeding
pub mod Session
