pub mod Link
pub mod Served
pub mod Stops
pub mod Talk
