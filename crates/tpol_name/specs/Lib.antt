pub mod Areas
pub mod Directories
pub mod Entities
pub mod Paths
pub mod Setups
