use Rattle.std.proofs.Common.{◌≡◌, [], ◌++◌, true, length, sym, ap, subst, ◌∙◌, arith, flat_map}
use Rattle.std.specs.List.Sorted.{IsStrictlyIncreasing}
use Rattle.std.proofs.lemmas.Iterator.Adapters.{YieldsList-from_vec}
use Rattle.std.proofs.lemmas.Iterator.Consumers.{YieldsList-turn}
use Rattle.std.proofs.lemmas.List.{length_push, flat_map_more}
use Rattle.std.proofs.lemmas.List.Elements.{All-push, All-same}
use Rattle.claim_board.specs.Seats.{IsSeatOf, claimed_by, was_told}
use Rattle.force_phase.specs.declared.phase.Claims.{Claims}
use Rattle.force_phase.specs.declared.worker.Worker.{Worker}
use Rattle.force_phase.specs.Claims.{groups_claimed}
use Rattle.force_phase.specs.Finished.{IsFoundIn}
use Rattle.force_phase.specs.Working.{HasFinished, IsAtWork, groups_at}
use Rattle.force_phase.proofs.TogetherLemmas.{found_both, groups_of_both, claimed_more, numbers_more}
use Rattle.force_phase.proofs.together.taken_together.Goals as goal

pub loop-worker-preserved : goal.loop-worker-preserved
loop-worker-preserved c =
    let start = c.into_iter-worker-iterator.ensures.into_iter_gives in
    let turn = YieldsList-turn (YieldsList-from_vec c.args.workers.items start.0 (start.1 ∙ c.args.workers.ok.0)) c.loop-worker.yielded c.loop-worker.worker-iterator c.loop-worker.yielded_by c.next.result c.next.new.self c.in-Some.worker c.in-Some.is c.next.ensures.steps in
    let n = length c.loop-worker.yielded in
    let worker = c.in-Some.worker in
    let at_work = subst (IsAtWork c.args.board) (sym turn.1) (c.requires.at_work n worker turn.0) in
    let told = subst (λ (w : Worker). was_told w.seat ≡ true) (sym turn.1) (c.requires.told n worker turn.0) in
    let kept = c.in_ok-take_in.ensures.kept in
    let were = c.loop-worker.invariant in
    let old = c.loop-worker.all in
    let new = c.take_in.new.self in
    let claims : Claims = record { worker = old.claims.len; groups = worker.share.claims } in
    let claimed : worker.share.claims.items ≡ claimed_by worker.seat = at_work.claims kept in
    let seats = c.in_ok-take_in.ensures.seats in
    let pushed = c.in_ok-take_in.ensures.claims in
    let more = length_push c.loop-worker.yielded worker in
    let seats_long = ap length seats ∙ length_push old.seats.items worker.seat in
    let claims_long = ap length pushed ∙ length_push old.claims.items claims in
    let seats_were = were.seats in
    let count_was = were.count in
    record {
      seats = omega (arith, more, seats_long, seats_were);
      count = omega (arith, more, claims_long, count_was);
      by_number = numbers_more old.claims.items new.claims.items claims n _ pushed were.by_number (omega (arith, old.claims.ok.0, count_was)) more;
      of_board = All-same (IsSeatOf c.args.board) _ _ seats (All-push (IsSeatOf c.args.board) old.seats.items worker.seat were.of_board at_work.seat);
      told = All-same (λ s. was_told s ≡ true) _ _ seats (All-push (λ s. was_told s ≡ true) old.seats.items worker.seat were.told told);
      ascending = All-same (λ (d : Claims). IsStrictlyIncreasing d.groups.items) _ _ pushed
          (All-push (λ (d : Claims). IsStrictlyIncreasing d.groups.items) old.claims.items claims were.ascending (subst IsStrictlyIncreasing (sym claimed) at_work.ascending));
      same = claimed_more old.claims.items new.claims.items claims pushed
          ∙ ap (λ l. l ++ worker.share.claims.items) were.same ∙ ap (λ l. flat_map claimed_by old.seats.items ++ l) claimed
          ∙ sym (ap (flat_map claimed_by) seats ∙ sym (flat_map_more claimed_by [] old.seats.items worker.seat));
      found = λ edge kernel groups finished.
          let mine = subst (λ (w : Worker). HasFinished edge kernel groups w.share) (sym turn.1) (finished n worker turn.0) in
          let before = groups_claimed old.claims.items in
          subst (λ l. IsFoundIn edge kernel l new.found)
          (sym (ap (groups_at groups) (claimed_more old.claims.items new.claims.items claims pushed) ∙ groups_of_both groups before worker.share.claims.items))
          (subst (IsFoundIn edge kernel (groups_at groups before ++ groups_at groups worker.share.claims.items)) (sym c.in_ok-take_in.ensures.found)
          (found_both edge kernel (groups_at groups before) (groups_at groups worker.share.claims.items) old.found worker.share.found (were.found edge kernel groups finished) (mine.found kept)));
    }
