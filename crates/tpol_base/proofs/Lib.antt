pub mod Digests
mod Worked
pub mod Written
