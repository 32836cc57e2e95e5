pub mod AddSteps
pub mod Gaps
pub mod Lawful
pub mod TakeRows
