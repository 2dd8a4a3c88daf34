pub mod FilledErased
pub mod LimitTests
pub mod PathSteps
pub mod SameDigests
pub mod SameMemos
