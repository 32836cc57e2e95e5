pub mod Calls
pub mod Effects
pub mod Kept
pub mod Laws
pub mod Memory
pub mod Pieces
pub mod View
