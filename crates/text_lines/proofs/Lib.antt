pub mod SplitLemmas
pub mod LineLemmas
pub mod FieldLemmas
pub mod NumberLemmas
pub mod WrittenLemmas
pub mod DecimalLemmas
pub mod FoundLemmas
