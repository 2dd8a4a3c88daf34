pub mod Asserted
pub mod Judgments
