pub mod Laws
pub mod Outcome
pub mod Steps
pub mod Validity
