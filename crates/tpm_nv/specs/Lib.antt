pub mod Contents
pub mod Counters
pub mod Indices
pub mod Rules
pub mod Tables
