pub mod Sheet
pub mod Desk
pub mod States
