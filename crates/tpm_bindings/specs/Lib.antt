pub mod Agreement
pub mod Facts
pub mod Held
pub mod Merged
pub mod State
