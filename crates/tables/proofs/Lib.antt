pub mod Same
pub mod Tests
pub mod Every
pub mod Balances
pub mod Counting
pub mod States
pub mod Houses
