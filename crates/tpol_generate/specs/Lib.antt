pub mod FirstRun
pub mod Generate
