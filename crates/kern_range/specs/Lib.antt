pub mod Bodies
pub mod Intervals
pub mod Nodes
pub mod Operators
pub mod Verdicts
pub mod Walks
