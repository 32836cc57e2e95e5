pub mod Channels
pub mod Fields
pub mod Lines
pub mod Ranks
pub mod Spans
pub mod Texts
pub mod Walk
pub mod Windows
