pub mod Paths
pub mod Routers
