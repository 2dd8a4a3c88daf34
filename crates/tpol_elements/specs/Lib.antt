pub mod Publics
pub mod Wishes
pub mod Types
pub mod Rows
