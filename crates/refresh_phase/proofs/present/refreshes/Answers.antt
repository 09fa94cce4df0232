use Rattle.std.proofs.Common.{◌∙◌}
use Rattle.pf_model.specs.Division.{rank_count}
use Rattle.pf_model.specs.Domains.{domain_box}
use Rattle.pf_model.specs.EssentialTree.{essential_tree}
use Rattle.let_inbox.specs.Sources.{others}
use Rattle.refresh_phase.proofs.ValueLemmas.{kept_at, next_sent, refresh_is}
use Rattle.refresh_phase.proofs.present.refreshes.Goals as goal

pub refreshed-requires : goal.refreshed-requires
refreshed-requires g c =
    let t = g.T.Terms.theta in let grid = g.T.Terms.grid in let js = g.T.Terms.particles in
    let s = c.kept-item.result in (
      t,
      domain_box grid js s.dst,
      essential_tree t grid js c.args.rank s.dst,
      kept_at c.value_laws.ensures t grid js c.args.now.now c.args.rank c.args.tree.now.built c.args.tree.now.bodies (others c.args.rank (rank_count grid)) c.args.sent.now
          (λ dst. record { are_bodies = g.T.Terms.are_bodies; within_limits = g.T.Terms.within_limits; division = g.T.Terms.is_division; same_ids = c.requires.same }) c.requires.own c.requires.present c.requires.sent c.loop-kept.kept-index s c.loop-kept-test.true c.kept-item.is,
    )

pub loop-kept-preserved : goal.loop-kept-preserved
loop-kept-preserved g c =
    let t = g.T.Terms.theta in let grid = g.T.Terms.grid in let js = g.T.Terms.particles in
    let s = c.kept-item.result in
    let r = c.in_ok-refreshed.field-0 in
    let made = c.in_ok-refreshed.ensures in
    let kept = kept_at c.value_laws.ensures t grid js c.args.now.now c.args.rank c.args.tree.now.built c.args.tree.now.bodies (others c.args.rank (rank_count grid)) c.args.sent.now
    (λ dst. record { are_bodies = g.T.Terms.are_bodies; within_limits = g.T.Terms.within_limits; division = g.T.Terms.is_division; same_ids = c.requires.same }) c.requires.own c.requires.present c.requires.sent c.loop-kept.kept-index s c.loop-kept-test.true c.kept-item.is in
    c.in_ok-push.ensures.items
    ∙ next_sent c.value_laws.ensures t grid js c.args.now.now c.args.rank c.args.tree.now.built c.args.tree.now.bodies (others c.args.rank (rank_count grid)) c.args.sent.now
    (λ dst. record { are_bodies = g.T.Terms.are_bodies; within_limits = g.T.Terms.within_limits; division = g.T.Terms.is_division; same_ids = c.requires.same }) c.requires.own c.requires.present c.requires.sent c.loop-kept.kept-index s c.loop-kept-test.true c.kept-item.is r c.loop-kept.refreshes.items
    (refresh_is c.value_laws.ensures t grid js c.args.now.now c.args.rank c.args.tree.now.built c.args.tree.now.bodies (others c.args.rank (rank_count grid)) c.args.sent.now
    (λ dst. record { are_bodies = g.T.Terms.are_bodies; within_limits = g.T.Terms.within_limits; division = g.T.Terms.is_division; same_ids = c.requires.same }) c.requires.own c.requires.present c.requires.sent c.loop-kept.kept-index s c.loop-kept-test.true c.kept-item.is r
    made.src made.dst (made.values t (domain_box grid js s.dst) (essential_tree t grid js c.args.rank s.dst) kept))
    c.loop-kept.invariant
