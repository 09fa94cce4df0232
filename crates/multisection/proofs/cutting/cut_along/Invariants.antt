use Rattle.std.proofs.Common.{◌≡◌, ◌-◌, map}
use Rattle.std.specs.List.{range_with_len}
use Rattle.multisection.proofs.CutLemmas.{cut_in}
use Rattle.multisection.proofs.cutting.cut_along.Given as goal

abbrev pub invariant-loop-slab : goal.invariant-loop-slab
invariant-loop-slab l = l.cuts.items ≡ map (cut_in l.axis l.sites l.slabs) (range_with_len 1 (l.slab - 1))
