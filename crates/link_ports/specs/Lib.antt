pub mod Memory
pub mod Ports
