pub mod Resolving
pub mod Resolves
