pub mod Calls
pub mod Growth
pub mod Leaving
pub mod Left
pub mod Posts
pub mod Standing
