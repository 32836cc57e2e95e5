pub mod Counts
pub mod Outcomes
pub mod Posting
pub mod Setting
pub mod Stand
pub mod Visible
