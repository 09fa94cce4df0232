pub mod BuildLemmas
pub mod FoundLemmas
pub mod MoveLemmas
pub mod PostLemmas
pub mod RankLemmas
pub mod ValueLemmas
pub mod ZipLemmas
