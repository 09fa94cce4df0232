pub mod Counts
pub mod Exchange
pub mod Parcels
pub mod Shared
pub mod Trees
