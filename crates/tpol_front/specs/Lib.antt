pub mod Commands
pub mod Input
pub mod Numbers
pub mod Outside
pub mod Reached
pub mod Report
pub mod Status
pub mod Told
