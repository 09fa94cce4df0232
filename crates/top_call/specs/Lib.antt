pub mod Bench
pub mod Inputs
pub mod Refusals
pub mod Run
pub mod Said
pub mod Status
pub mod Steps
pub mod Words
