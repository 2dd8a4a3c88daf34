pub mod CounterLemmas
pub mod FillLemmas
pub mod SceneIndices
pub mod TableLemmas
