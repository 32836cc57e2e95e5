pub mod Decide
pub mod OneReport
pub mod Rows
