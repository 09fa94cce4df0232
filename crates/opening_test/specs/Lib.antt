pub use Rattle.pf_geom.specs.Bounds
pub use Rattle.pf_geom.specs.Octant
pub use Rattle.pf_model.specs.Criterion
pub mod LeastGaps
