use Rattle.std.proofs.Common.{◌≡◌}
use Rattle.std.specs.List.{flat_map, range_with_len}
use Rattle.pf_geom.specs.declared.axis.Axis.TheVariants.{X, Y}
use Rattle.pf_model.specs.Domains.{cuts_of}
use Rattle.multisection.specs.Sites.{along, in_slab_along, column_cuts}
use Rattle.multisection.proofs.RunLemmas.{AreCutBefore}
use Rattle.multisection.proofs.cutting.cut_sites.Given as goal

abbrev pub invariant-loop-ix : goal.invariant-loop-ix
invariant-loop-ix l = record {
  cut : AreCutBefore X l.x.items l.initial.sites l.ix l.start l.sites;
  y : l.y.items ≡ flat_map (λ ix. cuts_of (along Y) (in_slab_along X l.x.items l.fn.sites ix) l.grid.ny) (range_with_len 0 l.ix);
  z : l.z.items ≡ flat_map (λ ix. column_cuts l.grid (in_slab_along X l.x.items l.fn.sites ix)) (range_with_len 0 l.ix);
}
