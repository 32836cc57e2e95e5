pub mod Decides
pub mod Examples
pub mod MatchingSteps
pub mod Names
pub mod OneList
pub mod PatternTexts
pub mod Plain
pub mod SameBytes
