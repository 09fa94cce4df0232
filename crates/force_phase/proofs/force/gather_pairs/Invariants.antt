use Rattle.force_phase.proofs.UnderWay.{IsUnderWay}
use Rattle.force_phase.proofs.force.gather_pairs.Given as goal

abbrev pub invariant-loop-partner : goal.invariant-loop-partner
invariant-loop-partner l =
    IsUnderWay l.edge l.t l.i l.partners l.partner-index l.work.scratch l.work.targets.items l.work.tallies.items
