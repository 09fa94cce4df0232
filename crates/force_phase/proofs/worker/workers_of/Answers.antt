use Rattle.std.proofs.Common.{length, sym, ap, subst, ◌∙◌, arith, flat_map}
use Rattle.std.specs.List.Sorted.{IsStrictlyIncreasing}
use Rattle.std.proofs.lemmas.Iterator.Adapters.{YieldsList-from_vec}
use Rattle.std.proofs.lemmas.Iterator.Consumers.{YieldsList-turn, YieldsList-end}
use Rattle.std.proofs.lemmas.List.{length_push}
use Rattle.std.proofs.lemmas.List.Elements.{All-push, All-same}
use Rattle.claim_board.specs.Seats.{IsSeatOf, IsFresh}
use Rattle.force_phase.specs.Working.{HasFinished, IsAtWork}
use Rattle.force_phase.proofs.GroupNumbers.{none_rise}
use Rattle.force_phase.proofs.worker.workers_of.Goals as goal

pub loop-seat-preserved : goal.loop-seat-preserved
loop-seat-preserved g c =
    let start = c.into_iter-seat-iterator.ensures.into_iter_gives in
    let turn = YieldsList-turn (YieldsList-from_vec c.args.seats.items start.0 (start.1 ∙ c.args.seats.ok.0)) c.loop-seat.yielded c.loop-seat.seat-iterator c.loop-seat.yielded_by c.next.result c.next.new.self c.in-Some.seat c.in-Some.is c.next.ensures.steps in
    let n = length c.loop-seat.yielded in
    let seat = c.in-Some.seat in
    let share = c.in_ok-share.share in
    let board = c.args.shared.now.board.now in
    let of_board = subst (IsSeatOf board) (sym turn.1) (c.requires.of_board n seat turn.0) in
    let fresh = subst IsFresh (sym turn.1) (c.requires.fresh n seat turn.0) in
    let were = c.loop-seat.invariant in
    let pushed = c.in_ok-push.ensures.items in
    let more = length_push c.loop-seat.yielded seat in
    let long = ap length pushed ∙ length_push c.loop-seat.workers.items (record { seat = seat; share = share }) in
    let count = were.count in
    record {
      count = omega (arith, more, long, count);
      at_work = All-same (IsAtWork board) _ _ pushed
          (All-push (IsAtWork board) c.loop-seat.workers.items (record { seat = seat; share = share }) were.at_work
          (record {
            seat = of_board;
            ascending = subst IsStrictlyIncreasing (sym fresh.0) none_rise;
            claims = λ kept. c.in_ok-share.ensures.fresh.1 ∙ sym fresh.0;
          }));
      finished = All-same (λ w. HasFinished c.args.shared.now.edge c.args.shared.now.t.now (flat_map g.H.HasLists.has c.args.shared.now.lists.now) w.share) _ _ pushed
          (All-push (λ w. HasFinished c.args.shared.now.edge c.args.shared.now.t.now (flat_map g.H.HasLists.has c.args.shared.now.lists.now) w.share)
          c.loop-seat.workers.items (record { seat = seat; share = share }) were.finished
          (c.in_ok-share.ensures.finished (flat_map g.H.HasLists.has c.args.shared.now.lists.now)));
    }

pub returns-clause-all : goal.returns-clause-all
returns-clause-all g c =
    let start = c.into_iter-seat-iterator.ensures.into_iter_gives in
    let all = YieldsList-end (YieldsList-from_vec c.args.seats.items start.0 (start.1 ∙ c.args.seats.ok.0)) c.loop-seat.yielded c.loop-seat.seat-iterator c.loop-seat.yielded_by c.next.result c.next.new.self c.in-None.is c.next.ensures.steps in
    let count = c.loop-seat.invariant.count ∙ all.1 in
    omega (arith, count, c.args.seats.ok.0, c.loop-seat.workers.ok.0)
