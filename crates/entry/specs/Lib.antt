pub mod Deposit
pub mod Submit
