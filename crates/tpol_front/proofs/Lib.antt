pub mod Losses
pub mod Prefixes
