pub mod AgreeingFacts
mod AllPaths
pub mod Certified
pub mod Chosen
pub mod ExplainedErased
mod FewPaths
mod Keeping
pub mod Masks
pub mod OpenedMeets
pub mod OpenedTold
pub mod OpeningErased
pub mod PathPcrs
pub mod PcrsAtUse
pub mod PerformanceErased
pub mod SoundFacts
pub mod Timeless
pub mod Told
mod TryLines
pub mod TurnSteps
