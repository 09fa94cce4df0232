pub mod Acts
pub mod Expressions
pub mod Meaning
pub mod Names
pub mod Statements
pub mod Writing
