pub mod BoundLemmas
pub mod EachFault
pub mod FilledErased
pub mod GroupLemmas
pub mod MaskLemmas
pub mod WellFormedLemmas
mod Worked
