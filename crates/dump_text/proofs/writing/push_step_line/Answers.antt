use Rattle.std.proofs.Common.{◌≡◌, ap, codes, decimal, length, rules}
use Rattle.run_model.specs.StepText.{step_line}
use Rattle.dump_text.proofs.PushedText.{step_pushed}
use Rattle.dump_text.proofs.writing.push_step_line.Goals as goal

pub returns : goal.returns
unfolding step_line
returns c =
    let step = c.args.step.now in
    let number : c.from.result ≡ step.step = search rules in
    let rows : length c.as_slice.result.now ≡ length step.rows = ap length c.as_slice.ensures in
    let ranks : length c.as_slice-2.result.now ≡ length step.ranks = ap length c.as_slice-2.ensures in
    step_pushed _ (codes "step ") (decimal step.step) (codes " particles ") (decimal (length step.rows)) (codes " ranks ") (decimal (length step.ranks))
    (codes "\n") _ _ _ _ (rw number at c.in_ok-push_labelled.ensures) (rw rows at c.in_ok-push_labelled-2.ensures)
    (rw ranks at c.in_ok-push_labelled-3.ensures) c.in_ok-push.ensures.items
