pub mod CodeBytes
pub mod Matching
pub mod Names
pub mod PatternText
