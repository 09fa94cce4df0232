use Rattle.std.proofs.Common.{◌≡◌, ◌<◌, sym, ap, subst, arith}
use Rattle.pf_geom.specs.Octant.{Octant}
use Rattle.morton_tree.proofs.ChildLemmas.{child_key_fits}
use Rattle.morton_tree.specs.declared.span.Span.{Span}
use Rattle.morton_tree.specs.Spans.{span_of, child_of, IsWithin}
use Rattle.morton_tree.proofs.KeyLemmas.{span_in_whole, child_in_parent}
use Rattle.morton_tree.proofs.tree.Tree.child_in.Goals as goal

pub overflow_mul-child : goal.overflow_mul-child
overflow_mul-child c =
    let shallow : c.c.inside.level < 30 = (let same = ap (λ (o : Octant). o.level) c.c.view_is in let h = c.requires.level in omega arith) in
    let small = child_key_fits c.c.inside.level c.c.inside.key 0 c.c.invariant shallow (omega arith) in
    omega arith

pub overflow_add-child-2 : goal.overflow_add-child-2
overflow_add-child-2 c =
    let shallow : c.c.inside.level < 30 = (let same = ap (λ (o : Octant). o.level) c.c.view_is in let h = c.requires.level in omega arith) in
    let small = child_key_fits c.c.inside.level c.c.inside.key c.args.k c.c.invariant shallow c.requires.child in
    omega arith

pub node_in-requires-clause-within : goal.node_in-requires-clause-within
node_in-requires-clause-within c =
    let own = c.args.self.now.built in
    let child : child_of (record { level = c.c.inside.level; key = c.c.inside.key }) c.from.result ≡ child_of c.args.c c.args.k = λ i. child_of (c.c.view_is i) (c.from.ensures i) in
    subst (λ (o : Octant). IsWithin (span_of o own) c.args.whole) (sym child)
    (subst (IsWithin (span_of (child_of c.args.c c.args.k) own)) (sym c.requires.own) (child_in_parent c.args.c c.args.k own c.requires.level c.requires.child))

pub node_in-requires-clause-inside : goal.node_in-requires-clause-inside
node_in-requires-clause-inside c =
    let end = (span_in_whole c.args.c c.args.self.now.built).end in
    let own = c.requires.own in
    let first = ap (λ (s : Span). s.first) c.requires.own in
    let len = ap (λ (s : Span). s.len) c.requires.own in
    omega arith
