pub mod Calling
pub mod Holding
pub mod Numbering
pub mod Once
pub mod Posting
pub mod Reopening
pub mod Worlds
