use Rattle.std.proofs.Common.{arith}
use Rattle.tree_phase.proofs.TotalLemmas.{few_gathered}
use Rattle.tree_phase.proofs.rank_gather.RankGather.count.Goals as goal

pub returns-clause-few : goal.returns-clause-few
returns-clause-few g c =
    let bodies = g.T.Terms.are_bodies in
    let few = few_gathered c.lists_are_short.ensures g.T.Terms.theta g.T.Terms.grid g.T.Terms.particles c.self.inside.gather bodies.few c.self.invariant.few in
    let counted = c.count.ensures in
    omega arith
