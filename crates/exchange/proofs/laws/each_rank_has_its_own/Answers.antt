use Rattle.exchange.proofs.RankLemmas.{each_rank_has_its_own}
use Rattle.exchange.proofs.laws.each_rank_has_its_own.Goals as goal

pub returns : goal.returns
returns c = each_rank_has_its_own c.distinct_ids_ignore_order.ensures c.orders_by_id_are_one.ensures c.some_have_distinct_ids.ensures c.parts_keep_permutations.ensures c.parts_keep_permutations-2.ensures
