pub mod Decide
pub mod OneFetch
pub mod Rows
pub mod SomeFetch
