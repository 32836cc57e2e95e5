pub mod Doubles
pub mod Index
pub mod Kept
pub mod Names
pub mod SpanRanks
pub mod Spots
pub mod Wholes
pub mod Windows
