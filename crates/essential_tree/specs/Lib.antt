pub mod Sending
pub use Rattle.pf_model.specs.EssentialTree
pub use Rattle.pf_model.specs.Interaction
pub use Rattle.morton_tree.specs.Tree
pub use Rattle.morton_tree.specs.Spans
pub use Rattle.multisection.specs.Regions
