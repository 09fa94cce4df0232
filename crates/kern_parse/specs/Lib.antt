pub mod ReadingStops
pub mod Required
pub mod inner
pub use Rattle.kern_tree.specs.FirstFault
pub use Rattle.kern_tree.specs.Grammar
pub use Rattle.kern_tree.specs.Nodes
pub use Rattle.kern_tree.specs.Rules
