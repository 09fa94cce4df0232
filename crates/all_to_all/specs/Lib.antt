pub mod Arrivals
pub mod Exchanging
pub mod Handed
pub mod Incoming
pub mod Laws
pub mod Opening
pub mod Outgoing
pub mod Posts
