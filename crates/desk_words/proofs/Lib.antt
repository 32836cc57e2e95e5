pub mod Isolated
pub mod PublicLines
pub mod SeenRows
pub mod SeenSpans
pub mod Through
pub mod Told
pub mod Users
