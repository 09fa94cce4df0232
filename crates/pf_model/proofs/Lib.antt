pub mod BoxLemmas
pub mod DifferenceLemmas
pub mod EntryLemmas
mod EveryLemmas
pub mod GroupLemmas
pub mod LevelLemmas
mod ListLemmas
pub mod MomentLemmas
