pub mod BenchLemmas
pub mod DumpLemmas
pub mod InputLemmas
pub mod KernelLemmas
pub mod OneVerdict
pub mod RunSteps
pub mod SomeVerdict
pub mod WordLemmas
