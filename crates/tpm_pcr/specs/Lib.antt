pub mod Bank
pub mod Clock
pub mod Comparison
pub mod Pcrs
