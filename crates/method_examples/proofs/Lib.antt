pub mod Ids
pub mod Owned
pub mod Ranks
pub mod TwoRanks
