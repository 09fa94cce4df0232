use Rattle.std.proofs.Common.{refl, ◌/◌, ◌-◌, ◌^◌, ◌*◌, ◌≡◌}
use Rattle.pf_geom.specs.Octant.{cell_at}
use Rattle.pf_geom.specs.Key.{morton_key}
use Rattle.pf_geom.proofs.CellLemmas.{octant_eq, eight_pow, IsCell-cell_at}
use Rattle.pf_geom.proofs.cell.cell_of.Goals as goal

key : (c : goal.After-key_of) → c.key_of.result / 2 ^ (3 * (30 - c.args.level)) ≡ morton_key c.args.p / 8 ^ (30 - c.args.level)
key c = rw (c.key_of.ensures.value, eight_pow (30 - c.args.level))

pub invariant_of-result : goal.invariant_of-result
invariant_of-result c = rw (key c) (IsCell-cell_at c.args.p c.args.level c.requires)

pub returns : goal.returns
returns c = octant_eq _ (cell_at c.args.p c.args.level) refl (key c)
