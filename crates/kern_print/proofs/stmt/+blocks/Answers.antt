use Rattle.std.proofs.Common.{◌<◌, length, arith}
use Rattle.std.proofs.lemmas.Bool.Decides.{nat_tests}
use Rattle.std.proofs.lemmas.Result.{on_ok_weaker}
use Rattle.kern_print.proofs.Ifs.{if_pushed, else_pushed}
use Rattle.kern_print.proofs.stmt.+blocks.Goals as goal

pub push_act-returns-in_ok-push_indent-in-If : goal.push_act-returns-in_ok-push_indent-in-If
push_act-returns-in_ok-push_indent-in-If t c =
    on_ok_weaker _
    (if_pushed c.in-If.condition c.in-If.block c.in-If.other c.args.act.now c.args.depth c.args.out.now.items _ _ _ _ _ _ c.in-If.is
    c.in_ok-push_indent.ensures c.in_ok-push_head-in-If.ensures
    (rw c.as_slice.ensures at c.in_ok-push_inner-in-If.ensures) (rw c.as_slice-in-If.ensures at c.in_ok-push_else-in-If.ensures) c.in_ok-push_indent-in-If.ensures)
    c.push_text.ensures

pub push_else-returns : goal.push_else-returns
push_else-returns t c =
    let some : 0 < length c.args.other.now = grind (arith, nat_tests) in
    on_ok_weaker _
    (else_pushed c.args.other.now c.args.depth c.args.out.now.items _ _ _ some c.in_ok-push_indent.ensures c.in_ok-push_text.ensures)
    c.push_inner.ensures
