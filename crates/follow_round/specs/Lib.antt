pub mod Following
pub mod Hearing
pub mod Laws
pub mod Requests
pub mod Rounds
pub mod Steps
