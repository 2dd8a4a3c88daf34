pub mod Filled
pub mod Kept
pub mod NoRequest
pub mod Positions
pub mod ReadFirst
mod Stands
pub mod WhoTold
