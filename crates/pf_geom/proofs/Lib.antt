pub mod KeyBits
pub mod KeyLemmas
pub mod KeyLoops
pub mod CellLemmas
pub mod CornerLemmas
pub mod GapLemmas
