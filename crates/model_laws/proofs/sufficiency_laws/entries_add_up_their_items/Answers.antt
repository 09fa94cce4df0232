use Rattle.model_laws.proofs.SufficiencyLemmas.{entries_add_up_their_items}
use Rattle.model_laws.proofs.sufficiency_laws.entries_add_up_their_items.Goals as goal

pub returns : goal.returns
returns c = entries_add_up_their_items (record {
  inside = c.cells_pass_for_boxes_inside.ensures;
  nest = c.cells_of_a_position_nest.ensures;
  share = c.positions_share_lower_cells.ensures;
  cells = c.positions_have_cells.ensures;
}) c.moments_ignore_order.ensures
