use Rattle.std.proofs.Common.{◌≡◌, ◌-◌, map}
use Rattle.std.specs.List.{range_with_len}
use Rattle.pf_model.specs.Domains.{cut_before}
use Rattle.pf_geom.specs.Position.{along}
use Rattle.step_core.proofs.cutting.cut_along.Given as goal

abbrev pub invariant-loop-slab : goal.invariant-loop-slab
invariant-loop-slab l = l.cuts.items ≡ map (cut_before (along l.axis) l.bodies l.slabs) (range_with_len 1 (l.slab - 1))
