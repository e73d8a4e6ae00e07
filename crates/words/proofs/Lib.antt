pub mod Number
pub mod StdBytes
pub mod Row
pub mod RowTurns
