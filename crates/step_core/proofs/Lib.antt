pub mod RangeLemmas
pub mod CutLemmas
pub mod GroupingLemmas
pub mod ListingLemmas
pub mod ReachedLemmas
pub mod EndLemmas
pub mod CoreLemmas
