pub mod Held
pub mod Submitting
pub mod Worked
pub mod World
