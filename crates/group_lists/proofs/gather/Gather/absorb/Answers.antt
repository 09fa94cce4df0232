use Rattle.std.proofs.Common.{◌≡◌, ℕ, List, map, sym, ◌∙◌, ap, subst, arith}
use Rattle.pf_model.specs.Particle.{Particle}
use Rattle.pf_model.specs.EssentialTree.{Essential}
use Rattle.group_lists.specs.declared.listed.Listed.{Listed}
use Rattle.group_lists.specs.Gathering.{Gathering, gathering_of, with_source, IsGathered, IsSentTo}
use Rattle.group_lists.proofs.AbsorbLemmas.{group_of, entries_of, absorbed_all}
use Rattle.group_lists.proofs.gather.Gather.absorb.Goals as goal

pub invariant_of-result : goal.invariant_of-result
invariant_of-result g c =
    let t = g.T.Terms.theta in
    let js = g.T.Terms.particles in
    let tree = c.in_ok-tree.tree in
    let here : c.args.tree.dst ≡ c.self.inside.rank = c.requires.here ∙ ap (λ (v : Gathering). v.rank) (sym c.self.view_is) in
    let P : List Particle → List Listed → List Essential → Type 0 = λ own old trees.
    IsGathered t g.T.Terms.grid js (with_source (gathering_of tree.dst own (map group_of old) trees) tree.src) (map entries_of c.absorb_tree.new.listed) c.in_ok-count.count in
    let gathered : P c.self.inside.bodies.items c.self.inside.listed.items c.self.inside.trees.items =
    subst (λ (own : List Particle). P own c.self.inside.listed.items c.self.inside.trees.items) c.deref.ensures.value
    (subst (λ (old : List Listed). P c.deref.result.now old c.self.inside.trees.items) c.deref_mut.ensures.value
    (subst (P c.deref.result.now c.deref_mut.result.now) c.deref-2.ensures.value c.in_ok-count.ensures.gathered)) in
    absorbed_all t g.T.Terms.grid js c.self.inside.rank c.self.inside.bodies.items c.self.inside.listed.items c.absorb_tree.new.listed c.self.inside.listed.len
    c.self.inside.trees.items c.push.new.self.items tree c.in_ok-count.count c.self.inside.theta
    (let whole = c.self.inside.listed.ok in omega arith) (c.in_ok-count.ensures.groups ∙ ap (map group_of) c.deref_mut.ensures.value) gathered c.self.invariant.1
    (subst (λ (n : ℕ). IsSentTo t g.T.Terms.grid js n tree) here c.in_ok-tree.ensures.sent)
    c.in_ok-push.ensures.items
