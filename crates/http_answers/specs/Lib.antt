pub mod Hearing
pub mod Laws
pub mod Reading
pub mod ReplyHeads
pub mod Requests
pub mod Sending
