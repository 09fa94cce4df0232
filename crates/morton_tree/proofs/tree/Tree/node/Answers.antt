use Rattle.std.proofs.Common.{sym, subst}
use Rattle.morton_tree.specs.Spans.{span_of, IsWithin}
use Rattle.morton_tree.proofs.KeyLemmas.{span_in_whole, span_inside, members_of_span}
use Rattle.morton_tree.proofs.tree.Tree.node.Goals as goal

pub node_in-requires-clause-within : goal.node_in-requires-clause-within
node_in-requires-clause-within c = subst (IsWithin (span_of c.args.c c.args.self.now.built)) (sym c.whole.ensures.value) (span_in_whole c.args.c c.args.self.now.built)

pub returns-clause-inside : goal.returns-clause-inside
returns-clause-inside c = span_inside c.args.self.now c.args.c c.node_in.result c.whole.ensures.tree c.node_in.ensures

pub returns-clause-members : goal.returns-clause-members
returns-clause-members c = members_of_span c.args.self.now c.args.c c.node_in.result c.whole.ensures.tree c.node_in.ensures
