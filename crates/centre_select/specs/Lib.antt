pub mod Answers
pub mod Had
pub mod Intake
pub mod Limits
pub mod Output
pub mod Status
pub mod Table
pub mod Words
