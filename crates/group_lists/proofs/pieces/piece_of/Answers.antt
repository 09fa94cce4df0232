use Rattle.std.proofs.Common.{ℕ, ◌<◌, ◌≤◌, Option, length, sym, ap, subst, arith}
use Rattle.std.specs.Prelude.{IfSome}
use Rattle.pf_geom.specs.Octant.{IsOctant}
use Rattle.pf_model.specs.Totals.{IsTotals}
use Rattle.pf_model.specs.EssentialTree.{Essential}
use Rattle.pf_model.specs.Sufficiency.{moment_together}
use Rattle.group_lists.specs.Keyed.{items_at}
use Rattle.group_lists.proofs.PieceRunLemmas.{key_in_octant}
use Rattle.group_lists.proofs.pieces.piece_of.Goals as goal

pub invariant_of-result : goal.invariant_of-result
invariant_of-result g c =
    let limits = subst (λ (o : Option ℕ). IfSome o (λ level. (level ≤ 30) × IsTotals (moment_together (items_at c.args.run c.args.tree.now.items)))) c.in-Some.is c.requires.limits in
    let within : c.args.run.first < length c.tree.inside.items.items =
    (let inside = c.requires.within in let some = c.requires.some in let same = ap (λ (v : Essential). length v.items) c.tree.view_is in omega arith) in
    subst (IsOctant c.in-Some.level) (sym c.cell_key-key.ensures)
    (key_in_octant c.positions_have_cells.ensures c.tree.inside.items.items c.tree.inside.keys.items c.args.run.first c.index.result.now c.in-Some.level c.tree.invariant.keyed within c.index.ensures limits.0)
