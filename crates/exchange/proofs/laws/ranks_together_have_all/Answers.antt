use Rattle.exchange.proofs.TogetherLemmas.{ranks_together_have_all}
use Rattle.exchange.proofs.laws.ranks_together_have_all.Goals as goal

pub returns : goal.returns
returns c = ranks_together_have_all c.owners_by_cuts_are_ranks.ensures c.some_have_distinct_ids.ensures c.parts_by_key_are_all.ensures c.orders_by_id_have_all.ensures c.parts_keep_permutations.ensures
