pub mod CellRuns
pub mod Finding
pub mod RunLaws
pub use Rattle.pf_geom.specs.Key
pub use Rattle.pf_geom.specs.Octant
pub use Rattle.pf_model.specs.Criterion
pub use Rattle.pf_model.specs.Interaction
