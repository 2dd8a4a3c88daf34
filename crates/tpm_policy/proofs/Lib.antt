pub mod Agreeing
mod Meeting
