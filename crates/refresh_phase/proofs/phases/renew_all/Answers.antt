use Rattle.std.proofs.Common.{length, sym, ◌∙◌, ap, subst}
use Rattle.std.proofs.lemmas.Result.{IfOk-weaker}
use Rattle.tree_phase.specs.Trees.{EachByRank}
use Rattle.refresh_phase.specs.Phases.{CanSettleRank, HaveSettled}
use Rattle.refresh_phase.proofs.RankLemmas.{all_settled, can_settle_ranks, renewers_counted}
use Rattle.refresh_phase.proofs.phases.renew_all.Goals as goal

pub renew_each-requires-clause-counted : goal.renew_each-requires-clause-counted
renew_each-requires-clause-counted g c κs within =
    ap length c.in_ok-renewers.ensures
    ∙ renewers_counted g.T.Terms.theta g.T.Terms.grid g.T.Terms.particles c.args.shared.now.bodies.now c.args.shared.now.inboxes.now c.args.ranks.items c.args.posts.items c.args.tokens.items
    (c.requires.counted ∙ sym c.requires.posts) (c.requires.counted ∙ sym c.requires.tokens) ∙ c.requires.counted

pub renew_each-requires-clause-can : goal.renew_each-requires-clause-can
renew_each-requires-clause-can g c κs within =
    subst (EachByRank (CanSettleRank g.T.Terms.theta g.T.Terms.grid g.T.Terms.particles c.args.shared.now.bodies.now c.args.shared.now.inboxes.now)) (sym c.in_ok-renewers.ensures)
    (can_settle_ranks g.T.Terms.theta g.T.Terms.grid g.T.Terms.particles c.args.shared.now.bodies.now c.args.shared.now.inboxes.now c.args.ranks.items c.args.posts.items c.args.tokens.items
    (c.requires.counted ∙ sym c.requires.posts) (c.requires.counted ∙ sym c.requires.tokens) c.requires.renew c.requires.settle)

pub returns : goal.returns
returns g c =
    let now = c.args.shared.now.bodies.now in
    let have = subst (λ renewers. HaveSettled g.T.Terms.theta g.T.Terms.grid g.T.Terms.particles now renewers c.in_ok-after.after.items) c.in_ok-renewers.ensures c.in_ok-after.ensures in
    IfOk-weaker c.renewed.result _ _
    (λ b are. all_settled g.T.Terms.theta g.T.Terms.grid g.T.Terms.particles now c.args.shared.now.inboxes.now c.args.ranks.items c.args.posts.items c.args.tokens.items
    (c.requires.counted ∙ sym c.requires.posts) (c.requires.counted ∙ sym c.requires.tokens) c.in_ok-after.after.items b.0.items b.1.items have are) c.renewed.ensures
