pub mod Arguments
pub mod Commands
pub mod Layouts
pub mod Limits
pub mod Values
