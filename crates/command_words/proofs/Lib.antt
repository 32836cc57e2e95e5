pub mod Examples
pub mod Folds
pub mod Named
pub mod Plain
pub mod Refused
pub mod WrittenOut
