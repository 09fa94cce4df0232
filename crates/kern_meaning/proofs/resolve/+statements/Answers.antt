use Rattle.std.proofs.Common.{◌∙◌}
use Rattle.kern_meaning.specs.Links.{links_of_act}
use Rattle.kern_meaning.proofs.LinkLemmas.{if_made, made_of}
use Rattle.kern_meaning.proofs.resolve.+statements.Goals as goal

pub act_links-returns-in_ok-blocks-in-If : goal.act_links-returns-in_ok-blocks-in-If
act_links-returns-in_ok-blocks-in-If t c =
    made_of (λ made. made.items) c.joined-in-If.result c.deref-in-If-3.result.now c.deref-in-If-4.result.now (links_of_act c.args.names.now c.args.decls.now c.args.act.now) c.joined-in-If.ensures
    (if_made c.args.names.now c.args.decls.now c.args.act.now c.in-If.condition c.in-If.body c.in-If.others c.as_slice.result.now c.as_slice-in-If.result.now c.in-If.is c.as_slice.ensures c.as_slice-in-If.ensures
    c.deref-in-If-3.result.now c.deref-in-If.result.now c.deref-in-If-2.result.now c.deref-in-If-4.result.now
    (c.deref-in-If-3.ensures.value ∙ c.in_ok-condition-in-If.ensures) (c.deref-in-If.ensures.value ∙ c.in_ok-body-in-If.ensures) (c.deref-in-If-2.ensures.value ∙ c.in_ok-others-in-If.ensures)
    (c.deref-in-If-4.ensures.value ∙ c.in_ok-blocks-in-If.ensures))
