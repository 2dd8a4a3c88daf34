pub mod Answers
pub mod FieldKinds
pub mod HandleTypes
pub mod Kinds
pub mod Spellings
