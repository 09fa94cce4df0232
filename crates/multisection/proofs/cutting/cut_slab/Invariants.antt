use Rattle.std.proofs.Common.{◌≡◌, ◌++◌}
use Rattle.std.specs.List.{flat_map, range_with_len}
use Rattle.pf_geom.specs.declared.axis.Axis.TheVariants.{Y, Z}
use Rattle.pf_model.specs.Domains.{cuts_of}
use Rattle.multisection.specs.Sites.{along}
use Rattle.multisection.proofs.RunLemmas.{AreCutBefore}
use Rattle.multisection.proofs.CutLemmas.{in_column_of}
use Rattle.multisection.proofs.cutting.cut_slab.Given as goal

abbrev pub invariant-loop-iy : goal.invariant-loop-iy
invariant-loop-iy l = record {
  cut : AreCutBefore Y l.own.items l.initial.sites l.iy l.start l.sites;
  z : l.z.items ≡ l.initial.z.items ++ flat_map (λ iy. cuts_of (along Z) (in_column_of l.fn.grid l.fn.sites iy) l.fn.grid.nz) (range_with_len 0 l.iy);
}
