mod Counted
pub mod Driven
mod Outcomes
mod Table
