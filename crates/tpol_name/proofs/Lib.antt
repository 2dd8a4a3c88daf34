pub mod NamedLemmas
pub mod PathLemmas
mod Worked
