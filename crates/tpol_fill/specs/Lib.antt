pub mod Entities
pub mod Filling
pub mod Forms
pub mod Groups
pub mod Laws
pub mod Outcome
