pub mod Keeping
pub mod Submitted
