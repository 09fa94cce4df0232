pub mod Prefix
pub use Rattle.pf_model.specs.Particle
pub use Rattle.pf_model.specs.Totals
pub use Rattle.pf_model.specs.Sums
