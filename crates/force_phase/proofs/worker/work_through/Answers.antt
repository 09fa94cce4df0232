use Rattle.std.proofs.Common.{[], ◌∷◌, ◌++◌, sym, ap, subst, ◌∙◌}
use Rattle.std.specs.List.Sorted.{IsStrictlyIncreasing}
use Rattle.claim_board.specs.Seats.{claimed_by}
use Rattle.force_phase.proofs.GroupNumbers.{rises}
use Rattle.force_phase.proofs.worker.work_through.Goals as goal

pub loop-group-preserved : goal.loop-group-preserved
loop-group-preserved g c =
    let was = c.loop-group.invariant.at_work in
    let number = c.in-Some.group in
    let claimed = c.in-Some.ensures.claimed in
    record {
      at_work = record {
        seat = c.in-Some.ensures.of_board;
        ascending = subst IsStrictlyIncreasing (sym claimed) (rises (claimed_by c.loop-group.worker.seat) number was.ascending c.in-Some.ensures.ascending);
        claims = λ kept. c.take_on.ensures.claims kept ∙ ap (λ l. l ++ number ∷ []) (was.claims (c.take_on.ensures.refused kept)) ∙ sym claimed;
      };
      finished = c.take_on.ensures.finished c.args.shared.now.edge c.loop-group.invariant.finished;
    }
