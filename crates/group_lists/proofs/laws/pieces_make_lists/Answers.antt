use Rattle.group_lists.proofs.PieceLemmas.{pieces_make_lists}
use Rattle.group_lists.proofs.laws.pieces_make_lists.Goals as goal

pub returns : goal.returns
returns c =
    pieces_make_lists c.lists_merge.ensures c.merged_lists_share_cells.ensures c.lists_ignore_order.ensures c.ranks_have_their_own.ensures c.one_rank_has_its_own.ensures
    c.some_have_distinct_ids.ensures c.distinct_ids_ignore_order.ensures
