pub mod Breaks
pub mod Faults
pub mod Fractions
pub mod Greater
pub mod InOrder
pub mod Mending
pub mod Only
pub mod Runs
