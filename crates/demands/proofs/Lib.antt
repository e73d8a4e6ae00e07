pub mod Codes
pub mod Settling
pub mod Demands
