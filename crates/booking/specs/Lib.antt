pub mod Booking
pub mod Steps
