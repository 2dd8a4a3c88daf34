pub mod Begun
pub mod Manner
pub mod PathLines
pub mod Script
pub mod Told
pub mod WhoErased
