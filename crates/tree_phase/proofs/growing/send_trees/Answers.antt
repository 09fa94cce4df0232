use Rattle.std.proofs.Common.{◌<◌, List, length, get_or, map, refl, sym, ◌∙◌, ap, subst, IsPermutation, arith}
use Rattle.std.proofs.lemmas.List.{length-map}
use Rattle.std.proofs.lemmas.List.Sorted.{IsPermutation-sym}
use Rattle.pf_model.specs.Domains.{particles_of}
use Rattle.pf_model.specs.Particle.{Particle}
use Rattle.pf_model.specs.Particles.{AreBodies}
use Rattle.exchange.specs.States.{Holding}
use Rattle.let_inbox.specs.Sources.{others}
use Rattle.all_to_all.specs.Posts.{PostState}
use Rattle.essential_tree.specs.declared.tree_parcel.TreeParcel.{TreeParcel}
use Rattle.tree_phase.specs.Exchange.{tree_target, is_essential}
use Rattle.tree_phase.specs.Parcels.{tree_sent}
use Rattle.tree_phase.proofs.SendLemmas.{owned_are_bodies, targets_sent, sent_at}
use Rattle.tree_phase.proofs.growing.send_trees.Goals as goal

pub of-requires-clause-bodies : goal.of-requires-clause-bodies
of-requires-clause-bodies g c κs within =
    let own = c.requires.grounds.own.each c.args.rank c.index-shared-rank.result c.requires.within in
    let bodies = c.deref.ensures.value ∙ ap (λ (h : Holding). h.bodies) c.state.view_is ∙ own in
    subst AreBodies (sym bodies) (owned_are_bodies c.some_have_distinct_ids.ensures g.T.Terms.grid g.T.Terms.particles c.args.rank g.T.Terms.are_bodies)

pub trees_sent-requires-clause-own : goal.trees_sent-requires-clause-own
trees_sent-requires-clause-own g c =
    let own = c.requires.grounds.own.each c.args.rank c.index-shared-rank.result c.requires.within in
    let bodies = c.deref.ensures.value ∙ ap (λ (h : Holding). h.bodies) c.state.view_is ∙ own in
    let built = c.in_ok-own.own.tree.built in
    let of = particles_of g.T.Terms.grid g.T.Terms.particles c.args.rank in
    IsPermutation-sym of built (subst (λ (l : List Particle). IsPermutation l built) bodies c.in_ok-own.ensures.groups.same)

pub send-requires-clause-targets : goal.send-requires-clause-targets
send-requires-clause-targets g c =
    ap (map (tree_target {X = g.row.T.Denot})) c.in_ok-parcels.ensures.parcels
    ∙ targets_sent g.row.T.Denot g.T.Terms.theta g.T.Terms.grid g.T.Terms.particles c.args.rank (length c.args.shared.now.inboxes.now)
    ∙ sym (ap (λ (s : PostState (TreeParcel g.row.T.Denot)). s.unsent) c.requires.post.fresh)

pub send-requires-clause-sources : goal.send-requires-clause-sources
send-requires-clause-sources g c k d within =
    let all = others c.args.rank (length c.args.shared.now.inboxes.now) in
    let same = ap length c.in_ok-parcels.ensures.parcels in
    let long = length-map all (tree_sent {X = g.row.T.Denot} g.T.Terms.theta g.T.Terms.grid g.T.Terms.particles c.args.rank) in
    let inside : k < length all = omega arith in
    let at = ap (λ (l : List (TreeParcel g.row.T.Denot)). get_or l k d) c.in_ok-parcels.ensures.parcels
    ∙ sent_at g.row.T.Denot g.T.Terms.theta g.T.Terms.grid g.T.Terms.particles c.args.rank (length c.args.shared.now.inboxes.now) k d inside in
    ap (λ (p : TreeParcel g.row.T.Denot). p.tree.src) at ∙ sym (ap (λ (s : PostState (TreeParcel g.row.T.Denot)). s.rank) c.requires.post.fresh)

pub send-requires-clause-terms : goal.send-requires-clause-terms
send-requires-clause-terms g c k d within =
    let all = others c.args.rank (length c.args.shared.now.inboxes.now) in
    let same = ap length c.in_ok-parcels.ensures.parcels in
    let long = length-map all (tree_sent {X = g.row.T.Denot} g.T.Terms.theta g.T.Terms.grid g.T.Terms.particles c.args.rank) in
    let inside : k < length all = omega arith in
    let at = ap (λ (l : List (TreeParcel g.row.T.Denot)). get_or l k d) c.in_ok-parcels.ensures.parcels
    ∙ sent_at g.row.T.Denot g.T.Terms.theta g.T.Terms.grid g.T.Terms.particles c.args.rank (length c.args.shared.now.inboxes.now) k d inside in
    subst (is_essential g.T.Terms.theta g.T.Terms.grid g.T.Terms.particles) (sym at) refl
