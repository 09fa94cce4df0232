use Rattle.group_lists.proofs.PlaceLemmas.{items_lie_by_place}
use Rattle.group_lists.proofs.laws.items_lie_by_place.Goals as goal

pub returns : goal.returns
returns c =
    items_lie_by_place (record {
      positions = record {
        inside = c.cells_pass_for_boxes_inside.ensures;
        corners = c.corners_lie_inside.ensures;
        share = c.positions_share_lower_cells.ensures;
        cells = c.positions_have_cells.ensures;
        levels = c.levels_are_least.ensures;
      };
      nest = c.cells_of_a_position_nest.ensures;
      entries = c.lists_hold_their_entries.ensures;
      first_cells = c.lists_hold_first_cells.ensures;
      some = c.some_have_distinct_ids.ensures;
    })
