use Rattle.std.proofs.Common.{length, ◌-◌}
use Rattle.morton_tree.proofs.GroupLemmas.{IsGroupedBelow}
use Rattle.morton_tree.proofs.tree.Tree.groups.Given as goal

abbrev pub invariant-loop-place : goal.invariant-loop-place
invariant-loop-place l = IsGroupedBelow l.limit l.self.built l.place l.groups.items

abbrev pub decreases-loop-place : goal.decreases-loop-place
decreases-loop-place l = length l.bodies - l.place
