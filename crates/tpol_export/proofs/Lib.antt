mod Areas
mod Causes
mod Documents
pub mod ExportErased
pub mod Foretold
mod Keys
mod Leaves
mod Placed
mod SpelledFloats
mod Tree
mod Walks
