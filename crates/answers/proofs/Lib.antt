pub mod Judging
pub mod Outcomes
