pub mod Orders
pub mod Selections
pub mod Signs
