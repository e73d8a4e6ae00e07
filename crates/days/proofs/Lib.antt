pub mod Links
pub mod Joins
pub mod Chains
pub mod Numbers
pub mod Demand3
pub mod Openings
pub mod Sums
pub mod ZeroGroup
