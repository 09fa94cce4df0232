use Rattle.std.proofs.Common.{◌≡◌, false, take}
use Rattle.std.specs.List.{list_any}
use Rattle.pf_geom.specs.Octant.{cell_at}
use Rattle.pf_model.specs.Interaction.{is_cell}
use Rattle.group_lists.specs.Keyed.{item_position}
use Rattle.group_lists.proofs.occupied.one_has_items_in.Given as goal

abbrev pub invariant-loop-tree : goal.invariant-loop-tree
invariant-loop-tree g l =
    list_any (λ tree. list_any (λ item. is_cell l.cell (cell_at (item_position item) l.cell.level)) tree.items) (take l.tree-index l.trees) ≡ false
