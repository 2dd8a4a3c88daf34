mod Answered
mod BlindEnding
mod BlindLaws
mod Causes
mod Earned
mod GoalLaws
mod Mirror
mod MoveLaws
mod Numbers
mod TriedPaths
pub mod Ending
