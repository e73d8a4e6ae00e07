pub mod Files
pub mod Forms
pub mod Printed
