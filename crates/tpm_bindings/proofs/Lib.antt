pub mod Agreeing
pub mod Merging
