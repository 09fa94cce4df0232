pub mod SplitLemmas
pub mod TreeLemmas
pub mod SortingLemmas
pub mod SpanLemmas
pub mod ChildLemmas
pub mod KeyLemmas
pub mod GroupLemmas
pub mod CellsInOrder
