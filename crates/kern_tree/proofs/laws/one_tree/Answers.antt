use Rattle.kern_tree.proofs.StmtLaws.{one_tree}
use Rattle.kern_tree.proofs.laws.one_tree.Goals as goal

pub returns : goal.returns
returns c = one_tree
