pub mod Lengths
pub mod Back
pub mod Replies
pub mod Runs
