use Rattle.std.proofs.Common.{◌≡◌}
use Rattle.std.specs.List.{range_with_len, flat_map}
use Rattle.pf_model.specs.Domains.{y_cuts, z_cuts}
use Rattle.step_core.proofs.cutting.cut.Given as goal

abbrev pub invariant-loop-ix : goal.invariant-loop-ix
invariant-loop-ix l = record {
  along_y : l.y.items ≡ flat_map (y_cuts l.grid l.bodies) (range_with_len 0 l.ix);
  along_z : l.z.items ≡ flat_map (λ ix. flat_map (z_cuts l.grid l.bodies ix) (range_with_len 0 l.grid.ny)) (range_with_len 0 l.ix);
}
