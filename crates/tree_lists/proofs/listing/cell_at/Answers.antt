use Rattle.std.proofs.Common.{sym, subst}
use Rattle.pf_geom.specs.Octant.{IsCell}
use Rattle.tree_lists.proofs.ListingLemmas.{nobody}
use Rattle.tree_lists.proofs.KeyLemmas.{cell_by_key}
use Rattle.tree_lists.proofs.listing.cell_at.Goals as goal

pub invariant_of-result : goal.invariant_of-result
invariant_of-result c =
    subst IsCell (sym (cell_by_key c.args.tree.now.built c.keys-keys.result.now c.args.place c.args.level c.cell_key.result nobody c.keys-keys.ensures.value c.requires.inside c.cell_key.ensures))
    (c.positions_have_cells.ensures _ c.args.level c.requires.level)

pub returns : goal.returns
returns c = λ j. cell_by_key c.args.tree.now.built c.keys-keys.result.now c.args.place c.args.level c.cell_key.result j c.keys-keys.ensures.value c.requires.inside c.cell_key.ensures
