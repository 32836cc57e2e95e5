pub mod Clocks
pub mod Items
pub mod Laws
pub mod Session
pub mod Sources
pub mod Steps
pub mod Turns
