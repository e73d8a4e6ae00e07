pub mod Sizes
pub mod Layout
pub mod Holds
pub mod State
pub mod Needs
