pub mod Rows
pub mod Service
pub mod Stops
pub mod Whole
