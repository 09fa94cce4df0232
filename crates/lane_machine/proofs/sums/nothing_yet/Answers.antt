use Rattle.std.proofs.Common.{take, sym, subst}
use Rattle.std.specs.List.{All}
use Rattle.lane_machine.specs.Total.{AreFew}
use Rattle.lane_machine.proofs.TotalLemmas.{all_nothing}
use Rattle.lane_machine.proofs.sums.nothing_yet.Goals as goal

pub returns-clause-few : goal.returns-clause-few
returns-clause-few c = subst (λ ts. All (AreFew 0) ts) (sym c.loop-v.invariant) (all_nothing (take c.loop-v.v-index c.args.forces.now))
