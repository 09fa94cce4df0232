use Rattle.std.proofs.Common.{map, sym, ◌∙◌, ap}
use Rattle.pf_model.specs.Particle.{Particle}
use Rattle.pf_model.specs.Reuse.{as_in}
use Rattle.morton_tree.specs.Tree.{Octree}
use Rattle.refresh_phase.specs.Kept.{RankKept}
use Rattle.refresh_phase.proofs.MoveLemmas.{moved_now, on_ok, rank_moved}
use Rattle.refresh_phase.proofs.kept_rank.KeptRank.refreshes.Goals as goal

pub moved-requires : goal.moved-requires
moved-requires g c =
    ap (map (λ (p : Particle). p.id)) c.deref.ensures.value ∙ c.in_ok-present.ensures.ids
    ∙ ap (map (λ (p : Particle). p.id)) c.bodies.ensures.value

pub refreshes-requires-clause-present : goal.refreshes-requires-clause-present
refreshes-requires-clause-present g c =
    let now = c.args.now.now in
    let tree = ap (λ (r : RankKept). r.tree) c.self.view_is in
    ap (λ (o : Octree). o.bodies) c.moved.ensures.value ∙ c.deref.ensures.value ∙ c.in_ok-present.ensures.bodies ∙ ap (map (as_in now)) c.bodies.ensures.value
    ∙ ap (λ (o : Octree). map (as_in now) o.bodies) tree
    ∙ moved_now c.value_laws.ensures.entries g.T.Terms.theta g.T.Terms.grid g.T.Terms.particles now c.args.rank g.T.Terms.are_bodies.distinct c.requires.same c.args.self.now c.requires.kept
    ∙ sym (ap (λ (o : Octree). map (as_in now) o.built) tree)
    ∙ sym (ap (λ (o : Octree). map (as_in now) o.built) c.moved.ensures.value)

pub returns-clause-moved : goal.returns-clause-moved
returns-clause-moved g c =
    let now = c.args.now.now in
    let inside = c.self.inside in
    on_ok c.refreshes.result _
    (rank_moved c.value_laws.ensures.entries g.T.Terms.theta g.T.Terms.grid g.T.Terms.particles now c.args.rank g.T.Terms.are_bodies.distinct c.requires.same
    (record { tree = inside.tree; sent = inside.sent.items; lists = inside.kept; line = inside.line }) c.args.self.now c.moved.new.self c.self.view_is c.requires.kept
    (c.moved.ensures.value ∙ (λ i. record { built = inside.tree.built; bodies = (c.deref.ensures.value ∙ c.in_ok-present.ensures.bodies ∙ ap (map (as_in now)) c.bodies.ensures.value) i })))
