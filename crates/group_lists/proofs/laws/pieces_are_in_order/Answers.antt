use Rattle.group_lists.proofs.PieceLemmas.{pieces_are_in_order}
use Rattle.group_lists.proofs.laws.pieces_are_in_order.Goals as goal

pub returns : goal.returns
returns c =
    pieces_are_in_order c.lists_hold_their_entries.ensures c.lists_are_short.ensures c.ranks_have_their_own.ensures c.one_rank_has_its_own.ensures
    c.some_have_distinct_ids.ensures c.distinct_ids_ignore_order.ensures
