pub mod Core
pub mod Laws
pub mod Plain
pub use Rattle.pf_model.specs.Particle
pub use Rattle.pf_model.specs.Particles
pub use Rattle.pf_model.specs.Groups
