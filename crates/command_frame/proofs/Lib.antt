pub mod Appending
pub mod Concluding
pub mod Counting
pub mod StepLaws
pub mod Telling
pub mod VerdictLaws
pub mod Ways
pub mod Writing
