use Rattle.std.proofs.Common.{◌++◌, sym, ap, ◌∙◌, append_assoc}
use Rattle.std.proofs.lemmas.Result.{on_ok_weaker}
use Rattle.kern_meaning.specs.Walks.{assigned_in}
use Rattle.kern_meaning.proofs.Meanings.{if_assigned}
use Rattle.kern_range.proofs.names.+assigned.Goals as goal

pub push_assigned_by-returns-in_ok-push_assigned-in-If : goal.push_assigned_by-returns-in_ok-push_assigned-in-If
push_assigned_by-returns-in_ok-push_assigned-in-If t c =
    let body = assigned_in c.as_slice.result.now in
    let others = assigned_in c.as_slice-in-If.result.now in
    let all = if_assigned c.args.act.now c.in-If.field-0 c.in-If.body c.in-If.others c.as_slice.result.now c.as_slice-in-If.result.now c.in-If.is c.as_slice.ensures c.as_slice-in-If.ensures in
    on_ok_weaker c.push_assigned-in-If.result
    (λ pushed. pushed ∙ ap (λ x. x ++ others) c.in_ok-push_assigned-in-If.ensures ∙ append_assoc c.args.names.now.items body others ∙ ap (λ y. c.args.names.now.items ++ y) (sym all))
    c.push_assigned-in-If.ensures
