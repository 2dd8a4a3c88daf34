pub mod Commands
pub mod Entities
pub mod Goals
pub mod Grants
