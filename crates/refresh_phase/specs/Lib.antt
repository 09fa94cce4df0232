pub mod Exchange
pub mod Kept
pub mod Laws
pub mod Phases
pub mod Renewing
pub mod Values
