pub mod Lines
pub mod Stages
pub mod Stands
