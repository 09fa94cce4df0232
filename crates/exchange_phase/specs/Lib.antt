pub mod Ranks
pub mod Packages
pub mod Leaving
pub mod Arriving
pub mod Laws
