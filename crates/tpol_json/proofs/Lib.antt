pub mod AllFound
mod BytesLemmas
pub mod ItemCounts
pub mod Limits
mod NumbersLemmas
mod SpellingLemmas
mod WordsLemmas
mod Worked
mod UnknownNames
