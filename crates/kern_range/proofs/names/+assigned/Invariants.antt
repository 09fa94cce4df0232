use Rattle.std.proofs.Common.{◌≡◌, ◌++◌, drop}
use Rattle.kern_meaning.specs.Walks.{assigned_in}
use Rattle.kern_range.proofs.names.+assigned.Given as goal

abbrev pub invariant-push_assigned-loop-stmt : goal.invariant-push_assigned-loop-stmt
invariant-push_assigned-loop-stmt l = l.names.items ++ assigned_in (drop l.stmt-index l.block) ≡ l.fn.names.items ++ assigned_in l.block
