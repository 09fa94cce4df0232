use Rattle.std.proofs.Common.{◌+◌, [], ◌∷◌, sym, subst}
use Rattle.morton_tree.specs.declared.span.Span.{Span}
use Rattle.morton_tree.specs.Spans.{FollowOneAnother}
use Rattle.morton_tree.proofs.ChildLemmas.{children_follow, eight_spans}
use Rattle.morton_tree.proofs.tree.Tree.children_in.Goals as goal

pub returns-clause-in_turn : goal.returns-clause-in_turn
returns-clause-in_turn c =
    let own = c.args.self.now.built in
    subst (FollowOneAnother c.args.whole.first (c.args.whole.first + c.args.whole.len))
    (λ i.
    sym c.child_in.ensures i ∷ sym c.child_in-2.ensures i ∷ sym c.child_in-3.ensures i ∷ sym c.child_in-4.ensures i
    ∷ sym c.child_in-5.ensures i ∷ sym c.child_in-6.ensures i ∷ sym c.child_in-7.ensures i ∷ sym c.child_in-8.ensures i ∷ [])
    (subst (λ (s : Span). FollowOneAnother s.first (s.first + s.len) (eight_spans c.args.c own)) (sym c.requires.own) (children_follow c.args.c own c.requires.level))
