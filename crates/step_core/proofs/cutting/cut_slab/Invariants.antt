use Rattle.std.proofs.Common.{◌≡◌, ◌++◌}
use Rattle.std.specs.List.{range_with_len, flat_map}
use Rattle.pf_geom.specs.declared.axis.Axis.TheVariants.{Y, Z}
use Rattle.pf_model.specs.Domains.{cuts_of}
use Rattle.pf_geom.specs.Position.{along}
use Rattle.pf_model.specs.Domains.{in_slab_along}
use Rattle.step_core.proofs.cutting.cut_slab.Given as goal

abbrev pub invariant-loop-iy : goal.invariant-loop-iy
invariant-loop-iy l =
    l.z.items ≡ l.fn.z.items ++ flat_map (λ iy. cuts_of (along Z) (in_slab_along Y (cuts_of (along Y) l.slab l.fn.grid.ny) l.slab iy) l.fn.grid.nz) (range_with_len 0 l.iy)
