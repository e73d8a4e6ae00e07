pub mod Reading
pub mod Writing
pub mod Signs
pub mod RoundTrip
