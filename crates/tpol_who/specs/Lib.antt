pub mod Begins
pub mod Lines
pub mod Who
