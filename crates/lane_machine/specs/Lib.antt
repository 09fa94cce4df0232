pub mod Block
pub mod Columns
pub mod Contributions
pub mod Gathered
pub mod Machine
pub mod Sums
pub mod Total
