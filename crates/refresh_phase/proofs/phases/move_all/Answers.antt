use Rattle.std.proofs.Common.{length, sym, ◌∙◌, ap, subst}
use Rattle.std.proofs.lemmas.Result.{IfOk-weaker}
use Rattle.tree_phase.specs.Trees.{EachByRank}
use Rattle.refresh_phase.specs.Phases.{CanMove, HaveMoved, mover_of}
use Rattle.refresh_phase.proofs.RankLemmas.{can_move, moved_is, sent_counted, sent_each}
use Rattle.refresh_phase.proofs.ZipLemmas.{length_zipped}
use Rattle.refresh_phase.proofs.phases.move_all.Goals as goal

pub move_each-requires-clause-counted : goal.move_each-requires-clause-counted
move_each-requires-clause-counted g c κs within =
    ap length c.in_ok-movers.ensures ∙ length_zipped mover_of c.args.ranks.items c.args.posts.items (c.requires.counted ∙ sym c.requires.posts) ∙ c.requires.counted

pub move_each-requires-clause-can : goal.move_each-requires-clause-can
move_each-requires-clause-can g c κs within =
    subst (EachByRank (CanMove g.T.Terms.theta g.T.Terms.grid g.T.Terms.particles c.args.shared.now.inboxes.now)) (sym c.in_ok-movers.ensures)
    (can_move g.T.Terms.theta g.T.Terms.grid g.T.Terms.particles c.args.shared.now.bodies.now c.args.shared.now.inboxes.now c.args.ranks.items c.args.posts.items
    (c.requires.counted ∙ sym c.requires.posts) c.requires.kept c.requires.fresh)

pub returns-clause-moved : goal.returns-clause-moved
returns-clause-moved g c =
    let now = c.args.shared.now.bodies.now in let inboxes = c.args.shared.now.inboxes.now in
    let have = subst (λ movers. HaveMoved g.T.Terms.theta g.T.Terms.grid g.T.Terms.particles now inboxes movers c.in_ok-after.after.items) c.in_ok-movers.ensures c.in_ok-after.ensures in
    IfOk-weaker c.parted.result _ _
    (λ b parts. moved_is g.T.Terms.theta g.T.Terms.grid g.T.Terms.particles now inboxes c.args.ranks.items c.args.posts.items (c.requires.counted ∙ sym c.requires.posts)
    c.in_ok-after.after.items have b.0.items b.1.items parts) c.parted.ensures

pub returns-clause-posts : goal.returns-clause-posts
returns-clause-posts g c =
    let now = c.args.shared.now.bodies.now in let inboxes = c.args.shared.now.inboxes.now in
    let have = subst (λ movers. HaveMoved g.T.Terms.theta g.T.Terms.grid g.T.Terms.particles now inboxes movers c.in_ok-after.after.items) c.in_ok-movers.ensures c.in_ok-after.ensures in
    IfOk-weaker c.parted.result _ _
    (λ b parts. sent_counted g.T.Terms.theta g.T.Terms.grid g.T.Terms.particles now inboxes c.args.ranks.items c.args.posts.items (c.requires.counted ∙ sym c.requires.posts)
    c.in_ok-after.after.items have b.0.items b.1.items parts ∙ c.requires.counted) c.parted.ensures

pub returns-clause-sent : goal.returns-clause-sent
returns-clause-sent g c =
    let now = c.args.shared.now.bodies.now in let inboxes = c.args.shared.now.inboxes.now in
    let have = subst (λ movers. HaveMoved g.T.Terms.theta g.T.Terms.grid g.T.Terms.particles now inboxes movers c.in_ok-after.after.items) c.in_ok-movers.ensures c.in_ok-after.ensures in
    IfOk-weaker c.parted.result _ _
    (λ b parts. sent_each g.T.Terms.theta g.T.Terms.grid g.T.Terms.particles now inboxes c.args.ranks.items c.args.posts.items (c.requires.counted ∙ sym c.requires.posts)
    c.in_ok-after.after.items have b.0.items b.1.items parts) c.parted.ensures
