pub mod Refusals
pub mod Settles
pub mod Alike
pub mod Terms
