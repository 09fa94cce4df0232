pub mod ListingLemmas
pub mod TreeLemmas
