pub mod Wrappers
pub mod Limits
