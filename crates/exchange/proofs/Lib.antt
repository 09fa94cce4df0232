pub mod PileLemmas
pub mod RankLemmas
pub mod TogetherLemmas
