pub mod Batches
pub mod Bodies
pub mod Format
pub mod Payload
pub mod Reading
pub mod Spelling
