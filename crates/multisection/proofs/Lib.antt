pub mod OrderLemmas
pub mod RunLemmas
pub mod CutLemmas
pub mod BoxLemmas
