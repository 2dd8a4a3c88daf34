mod Worked
pub mod NameLemmas
pub mod NamesKept
pub mod ObjectLemmas
pub mod ReadLemmas
pub mod WorldLemmas
