pub mod Refusal
pub use Rattle.run_model.specs.Leapfrog
