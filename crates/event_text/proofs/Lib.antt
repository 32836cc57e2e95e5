pub mod GivenLines
pub mod Members
pub mod Ranked
