use Rattle.std.proofs.Common.{◌++◌, List, [], ◌∷◌, ◌∙◌, ap, arith}
use Rattle.std.proofs.lemmas.List.{take_all}
use Rattle.pf_model.specs.declared.entry.Entry.{Entry}
use Rattle.list_reuse.specs.Refreshing.{present_items}
use Rattle.list_reuse.proofs.RefreshLemmas.{take_next, values_long}
use Rattle.list_reuse.proofs.refreshing.refreshed.Goals as goal

pub loop-place-preserved : goal.loop-place-preserved
loop-place-preserved c t box items kept =
    let tree = c.args.tree.now in
    let all = present_items t box tree.built tree.bodies items in
    c.in_ok-push.ensures.items ∙ ap (λ (l : List Entry). l ++ c.present_value.result ∷ []) (c.loop-place.invariant t box items kept)
    ∙ take_next all c.loop-place.place c.present_value.result (c.present_value.ensures t box items kept)

pub returns-clause-values : goal.returns-clause-values
returns-clause-values c t box items kept =
    let tree = c.args.tree.now in
    let all = present_items t box tree.built tree.bodies items in
    let long = values_long t box tree.built tree.bodies items c.args.sent.now kept in
    c.loop-place.invariant t box items kept ∙ take_all c.loop-place.place all (omega (arith, long))
