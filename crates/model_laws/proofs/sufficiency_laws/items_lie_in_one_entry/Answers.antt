use Rattle.model_laws.proofs.SufficiencyLemmas.{items_lie_in_one_entry}
use Rattle.model_laws.proofs.sufficiency_laws.items_lie_in_one_entry.Goals as goal

pub returns : goal.returns
returns c = items_lie_in_one_entry (record {
  inside = c.cells_pass_for_boxes_inside.ensures;
  nest = c.cells_of_a_position_nest.ensures;
  share = c.positions_share_lower_cells.ensures;
  cells = c.positions_have_cells.ensures;
})
