pub mod StepText
pub mod Leapfrog
pub mod Force
pub mod Setup
pub mod Run
pub mod Text
pub mod Answers
pub mod RunLaws
