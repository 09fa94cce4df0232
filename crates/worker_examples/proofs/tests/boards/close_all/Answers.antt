use Rattle.std.proofs.Common.{◌≡◌, ◌∙◌, true, ap, arith, length, Some}
use Rattle.std.proofs.lemmas.List.{length_push}
use Rattle.std.proofs.lemmas.List.Elements.{All-pop, All-push, All-same}
use Rattle.claim_board.specs.Seats.{was_told, IsSeatOf}
use Rattle.worker_examples.proofs.tests.boards.close_all.Goals as goal

pub loop-worker-preserved : goal.loop-worker-preserved
loop-worker-preserved c =
    let worker = c.in-Some.worker in
    let popped = c.in-Some.ensures.items in
    let pushed = c.in_ok-push.ensures.items in
    let inv = c.loop-worker.invariant in
    let of_board = All-pop (λ w. IsSeatOf c.args.board w.seat) _ _ (Some worker) popped inv.left in
    let told = All-pop (λ w. was_told w.seat ≡ true) _ _ (Some worker) popped inv.left_told in
    let fewer = ap length popped ∙ length_push _ worker in
    let more = ap length pushed ∙ length_push _ worker.seat in
    let counted = inv.counted in
    record {
      counted = omega arith;
      left = of_board.0;
      left_told = told.0;
      of_board = All-same (IsSeatOf c.args.board) _ _ pushed (All-push (IsSeatOf c.args.board) _ worker.seat inv.of_board of_board.1);
      told = All-same (λ s. was_told s ≡ true) _ _ pushed (All-push (λ s. was_told s ≡ true) _ worker.seat inv.told told.1);
    }
