pub mod Differences
pub mod Laws
pub mod Named
pub mod Rules
pub mod Spelling
pub mod Text
pub mod Values
