pub mod GeneratedErased
pub mod GeneratedRuns
pub mod GeneratedScenarios
pub mod GeneratedSetups
