pub mod Answers
pub mod Challenge
pub mod Credentials
pub mod Items
pub mod Law
pub mod Nonces
pub mod Parts
pub mod Responses
