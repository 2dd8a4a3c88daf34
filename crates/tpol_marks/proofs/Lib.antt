pub mod Branches
pub mod LastMark
pub mod MarksErased
pub mod Walked
