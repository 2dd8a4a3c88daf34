pub mod Bounds
pub mod Closed
pub mod ClosedErased
pub mod Elements
pub mod Erased
pub mod Facts
