pub mod Families
pub mod Globs
pub mod LiveLaw
pub mod Merging
pub mod Wide
pub mod Withdrawals
