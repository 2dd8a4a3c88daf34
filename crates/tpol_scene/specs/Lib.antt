pub mod Clients
pub mod Goals
pub mod Scripts
pub mod Scenes
pub mod Conditions
