pub mod Judging
pub mod Filled
pub mod Pairs
pub mod Opens
