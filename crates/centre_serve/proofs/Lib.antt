pub mod Finish
pub mod Opening
pub mod Seating
pub mod Whole
