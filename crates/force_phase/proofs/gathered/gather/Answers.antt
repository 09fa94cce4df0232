use Rattle.std.proofs.Common.{◌≤◌, ◌+◌, List, sym, subst, arith}
use Rattle.std.specs.List.{All}
use Rattle.force_phase.specs.Gathered.{with_given}
use Rattle.force_phase.specs.Tally.{Tallied}
use Rattle.force_phase.proofs.PairLemmas.{few_more}
use Rattle.force_phase.proofs.TallyLemmas.{each_more, each_end}
use Rattle.force_phase.proofs.gathered.gather.Goals as goal

pub loop-k-preserved : goal.loop-k-preserved
loop-k-preserved c =
    each_more (with_given c.args.targets.now c.args.s.now.given) c.args.forces.now c.args.tallies.now c.loop-k.tallies c.loop-k.k c.index-forces-k.result c.index-tallies-k.result c.gathered.result
    (omega (arith, c.loop-k-test.true)) (omega (arith, c.loop-k-test.true, c.requires.same)) c.index-forces-k.is c.index-tallies-k.is c.gathered.ensures c.loop-k.invariant

pub returns-clause-value : goal.returns-clause-value
returns-clause-value c =
    each_end (with_given c.args.targets.now c.args.s.now.given) c.args.forces.now c.args.tallies.now c.loop-k.tallies c.loop-k.k (omega (arith, c.loop-k-test.false, c.loop-k.auto.k-end)) c.loop-k.invariant

pub returns-clause-few : goal.returns-clause-few
returns-clause-few c =
    λ n h.
    let P : List Tallied → Type 0 = λ ts. All (λ t. t.count ≤ n + c.args.slots) ts in
    subst P (sym (each_end (with_given c.args.targets.now c.args.s.now.given) c.args.forces.now c.args.tallies.now c.loop-k.tallies c.loop-k.k (omega (arith, c.loop-k-test.false, c.loop-k.auto.k-end)) c.loop-k.invariant))
    (few_more c.args.targets.now c.args.s.now.given c.args.forces.now c.args.tallies.now n c.args.slots c.requires.slots h)
