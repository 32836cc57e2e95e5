pub mod Intake
pub mod Leaving
pub mod Posts
pub mod Waiting
