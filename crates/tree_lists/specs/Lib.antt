pub mod Members
pub mod Pieces
pub use Rattle.pf_geom.specs.Key
pub use Rattle.pf_model.specs.Interaction
pub use Rattle.morton_tree.specs.Tree
pub use Rattle.morton_tree.specs.Spans
