pub mod Tree
pub mod Spans
pub mod Sorting
pub mod Groups
pub use Rattle.pf_model.specs.Particle
pub use Rattle.pf_model.specs.Sums
pub use Rattle.pf_model.specs.Group
