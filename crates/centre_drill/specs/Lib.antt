pub mod Drill
pub mod Figures
pub mod History
pub mod Making
pub mod Records
