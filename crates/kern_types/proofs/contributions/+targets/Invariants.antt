use Rattle.std.proofs.Common.{◌≡◌, ◌++◌, drop}
use Rattle.kern_types.specs.Statements.{targets_in}
use Rattle.kern_types.proofs.contributions.+targets.Given as goal

abbrev pub invariant-push_targets-loop-stmt : goal.invariant-push_targets-loop-stmt
invariant-push_targets-loop-stmt l = l.names.items ++ targets_in (drop l.stmt-index l.block) ≡ l.fn.names.items ++ targets_in l.block
