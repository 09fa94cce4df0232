pub mod SpanLemmas
pub mod PieceLemmas
pub mod EntryLemmas
pub mod ListingLemmas
pub mod KeyLemmas
