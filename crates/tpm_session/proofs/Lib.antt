pub mod Bits
pub mod Changed
pub mod Keeping
pub mod Least
pub mod Numbered
pub mod Slots
