pub mod Chains
pub mod Matching
pub mod Openings
pub mod Same
pub mod Tables
pub mod Windows
