pub mod Limits
pub mod Tops
pub mod Positions
pub mod Finder
pub mod Resolve
