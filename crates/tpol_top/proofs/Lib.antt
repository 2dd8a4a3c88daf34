pub mod Checking
pub mod DeadPaths
pub mod Explaining
pub mod Imported
pub mod NoRequest
pub mod PathAnswers
pub mod ReadFirst
pub mod SceneTold
