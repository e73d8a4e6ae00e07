pub mod Settling
pub mod Amounts
pub mod Kept
