pub mod Behind
pub mod Courses
pub mod Drivers
pub mod Earned
pub mod PathBehind
pub mod Runs
pub mod State
pub mod Underway
