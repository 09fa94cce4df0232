use Rattle.std.proofs.lemmas.Result.{on_ok_weaker}
use Rattle.kern_print.proofs.Calls.{three_pushed, to_pushed}
use Rattle.kern_print.proofs.expr.+operands.Goals as goal

pub push_form-returns-in_ok-push_then-in-Three-3 :
    goal.push_form-returns-in_ok-push_then-in-Three-3
push_form-returns-in_ok-push_then-in-Three-3 t c =
    on_ok_weaker _
    (three_pushed c.in-Three.op c.in-Three.a c.in-Three.b c.in-Three.c c.args.form.now c.head_of_three.result.now c.args.out.now.items _ _ _ _ c.in-Three.is
    c.head_of_three.ensures (rw c.get-in-Three.ensures at c.in_ok-push_then-in-Three.ensures) (rw c.get-in-Three-2.ensures at c.in_ok-push_then-in-Three-2.ensures) (rw c.get-in-Three-3.ensures at c.in_ok-push_then-in-Three-3.ensures))
    c.push_text-in-Three.ensures

pub push_form-returns-in_ok-push_then-in-To : goal.push_form-returns-in_ok-push_then-in-To
push_form-returns-in_ok-push_then-in-To t c =
    on_ok_weaker _
    (to_pushed c.in-To.scale c.in-To.a c.args.form.now c.args.out.now.items _ _ _ _ _ c.in-To.is c.from.ensures c.in_ok-push_text-in-To.ensures
    c.in_ok-push_number-in-To.ensures (rw c.get-in-To.ensures at c.in_ok-push_then-in-To.ensures))
    c.push_text-in-To-2.ensures
