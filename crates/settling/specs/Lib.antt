pub mod Release
pub mod Group
