use Rattle.std.proofs.Common.{◌≡◌, map, sym, ◌∙◌, ap, subst}
use Rattle.std.specs.List.{All}
use Rattle.std.proofs.lemmas.List.Elements.{All-map}
use Rattle.pf_model.specs.Division.{rank_count}
use Rattle.let_inbox.specs.Sources.{others}
use Rattle.all_to_all.specs.Posts.{PostState}
use Rattle.list_reuse.specs.Refreshing.{Renewal}
use Rattle.refresh_phase.specs.Exchange.{refresh_sent, target_of}
use Rattle.refresh_phase.proofs.PostLemmas.{targets_sent}
use Rattle.refresh_phase.proofs.moving.send.Goals as goal

pub send-requires-clause-targets : goal.send-requires-clause-targets
send-requires-clause-targets g c =
    ap (map target_of) c.in-Ok.ensures.values
    ∙ targets_sent g.T.Terms.theta g.T.Terms.grid g.T.Terms.particles c.args.shared.now.bodies.now c.args.rank (rank_count g.T.Terms.grid)
    ∙ ap (others c.args.rank) (sym c.requires.inboxes)
    ∙ sym (ap (λ (s : PostState Renewal). s.unsent) c.requires.can.post.fresh)

pub send-requires-clause-sources : goal.send-requires-clause-sources
send-requires-clause-sources g c =
    let number = ap (λ (s : PostState Renewal). s.rank) c.requires.can.post.fresh in
    subst (All (λ (r : Renewal). r.src ≡ c.args.mover.now.post.rank)) (sym c.in-Ok.ensures.values)
    (All-map (λ (r : Renewal). r.src ≡ c.args.mover.now.post.rank) (refresh_sent g.T.Terms.theta g.T.Terms.grid g.T.Terms.particles c.args.shared.now.bodies.now c.args.rank)
    (others c.args.rank (rank_count g.T.Terms.grid)) (λ k d within. sym number))
