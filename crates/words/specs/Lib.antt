pub mod Le
pub mod Row
