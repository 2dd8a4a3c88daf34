pub mod Kept
pub mod Numbered
pub mod Slots
pub mod Table
