pub mod EndLines
pub mod Found
pub mod Kept
