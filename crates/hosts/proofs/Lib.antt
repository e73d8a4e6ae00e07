pub mod Replies
pub mod Sizes
pub mod Past
pub mod Links
pub mod Chains
pub mod Demands
