pub mod Generator
pub mod Kernel
pub mod Setup
