use Rattle.std.proofs.Common.{take}
use Rattle.std.specs.List.{AllZip}
use Rattle.group_lists.specs.Keyed.{IsPieceOfRun}
use Rattle.group_lists.proofs.pieces.find_pieces.Given as goal

abbrev pub invariant-loop-run : goal.invariant-loop-run
invariant-loop-run g l = AllZip (λ r e. IsPieceOfRun l.tree.items r r.level e) (take l.run-index l.run-items) l.pieces.items
