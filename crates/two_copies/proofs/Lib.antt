pub mod Next
pub mod Rises
