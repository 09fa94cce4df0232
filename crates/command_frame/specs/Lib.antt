pub mod Clauses
pub mod Effects
pub mod Output
pub mod Reading
pub mod Standing
pub mod Status
pub mod Verdict
