use Rattle.std.proofs.Common.{take, nat_lt, rules, of_calls}
use Rattle.std.proofs.lemmas.Fn.{always_returns_same}
use Rattle.cell_runs.proofs.KeyLemmas.{before_first, ascending_front, front_from_search}
use Rattle.cell_runs.proofs.finding.cell_front.Goals as goal

pub returns : goal.returns
returns c =
    let keys = c.args.keys.now in
    let past = c.key_past-past.result in
    let reach = c.reach_past-reach in
    front_from_search keys c.args.level past reach.result c.partition_point.result c.requires.ascending c.key_past-past.ensures reach.ensures.some reach.ensures.within reach.ensures.past c.partition_point.ensures.bound
    (c.partition_point.ensures.partitioned (λ key. nat_lt key past) (always_returns_same _ _ _ (λ a r f k. search (rules, of_calls))) (before_first (take reach.result keys) past (ascending_front keys reach.result reach.ensures.within c.requires.ascending)))
