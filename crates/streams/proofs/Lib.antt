mod Examples
pub mod Giving
pub mod GoingOn
pub mod Grows
