use Rattle.std.proofs.Common.{◌≡◌, ◌++◌, take}
use Rattle.std.specs.List.{flat_map}
use Rattle.kern_print.specs.Canonical.{stmt_text}
use Rattle.kern_print.proofs.stmt.+blocks.Given as goal

abbrev pub invariant-push_block-loop-stmt : goal.invariant-push_block-loop-stmt
invariant-push_block-loop-stmt l = l.out.items ≡ l.fn.out.items ++ flat_map (λ stmt. stmt_text stmt l.depth) (take l.stmt-index l.block)
