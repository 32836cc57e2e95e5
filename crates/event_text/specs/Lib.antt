pub mod Events
pub mod Orders
pub mod Ranks
pub mod Texts
