pub mod Judging
pub mod Deposits
pub mod Submits
