use Rattle.std.proofs.Common.{sym, subst}
use Rattle.exchange.specs.States.{AreInIdOrder}
use Rattle.rank_step.proofs.DealLemmas.{dealt_in_order}
use Rattle.rank_step.proofs.first_ranks.first_rank.Goals as goal

pub invariant_of-result : goal.invariant_of-result
invariant_of-result c =
    subst AreInIdOrder (sym c.in_ok-bodies.ensures) (dealt_in_order c.deal_laws.ensures c.args.count c.args.rank c.args.bodies.now c.requires.ascending)
