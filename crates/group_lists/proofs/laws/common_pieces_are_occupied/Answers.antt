use Rattle.group_lists.proofs.OccupiedLemmas.{common_pieces}
use Rattle.group_lists.proofs.laws.common_pieces_are_occupied.Goals as goal

pub returns : goal.returns
returns c t g js gather src group theta trees bodies new own absorbs served =
    common_pieces (record {
      positions = record {
        inside = c.cells_pass_for_boxes_inside.ensures;
        corners = c.corners_lie_inside.ensures;
        share = c.positions_share_lower_cells.ensures;
        cells = c.positions_have_cells.ensures;
        levels = c.levels_are_least.ensures;
      };
      nest = c.cells_of_a_position_nest.ensures;
      entries = c.lists_hold_their_entries.ensures;
      first_cells = c.lists_hold_first_cells.ensures;
      near = c.lists_hold_near_particles.ensures;
      some = c.some_have_distinct_ids.ensures;
      ids = c.particles_of_one_id_are_one.ensures;
      one_rank = c.one_rank_has_its_own.ensures;
      passing = c.tests_keep_what_passes.ensures;
      strict = c.entry_order_is_strict.ensures;
    }) t g js gather src group theta trees bodies new own absorbs served
