pub mod FollowSteps
pub mod HeardSteps
pub mod OneLink
pub mod RequestBytes
pub mod Visible
