use Rattle.model_laws.proofs.KeptLemmas.{kept_entries_add_up_items_of_some}
use Rattle.model_laws.proofs.reuse_laws.kept_entries_add_up_items_of_some.Goals as goal

pub returns : goal.returns
returns c = kept_entries_add_up_items_of_some (record {
  inside = c.cells_pass_for_boxes_inside.ensures;
  nest = c.cells_of_a_position_nest.ensures;
  share = c.positions_share_lower_cells.ensures;
  cells = c.positions_have_cells.ensures;
}) c.moments_ignore_order.ensures
