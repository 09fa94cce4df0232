use Rattle.group_lists.proofs.ItemLemmas.{items_make_pieces}
use Rattle.group_lists.proofs.laws.items_make_pieces.Goals as goal

pub returns : goal.returns
returns c =
    items_make_pieces (record {
      positions = record {
        inside = c.cells_pass_for_boxes_inside.ensures;
        corners = c.corners_lie_inside.ensures;
        share = c.positions_share_lower_cells.ensures;
        cells = c.positions_have_cells.ensures;
        levels = c.levels_are_least.ensures;
      };
      nest = c.cells_of_a_position_nest.ensures;
      entries = c.lists_hold_their_entries.ensures;
      add_up = c.entries_add_up_their_items.ensures;
      joins = c.entries_join_in_any_order.ensures;
      tests = c.tests_keep_permutations.ensures;
      spans = c.tests_keep_spans.ensures;
      different = c.different_in_any_order.ensures;
      few = c.different_are_few.ensures;
      strict = c.entry_order_is_strict.ensures;
      limits = c.moments_keep_their_limits.ensures;
      each_place = c.runs_hold_each_place.ensures;
      rise = c.runs_rise.ensures;
    }) c.some_have_distinct_ids.ensures
