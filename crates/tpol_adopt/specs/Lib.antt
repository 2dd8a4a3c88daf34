pub mod Words
pub mod Codes
pub mod Flags
pub mod Edits
pub mod Rules
pub mod Normal
pub mod Dropped
pub mod Laws
