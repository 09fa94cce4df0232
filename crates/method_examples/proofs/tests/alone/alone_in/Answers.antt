use Rattle.std.proofs.Common.{sym, ◌∙◌, subst}
use Rattle.std.specs.List.Sorted.{IsPermutation}
use Rattle.std.proofs.lemmas.List.Sorted.{IsPermutation-sym}
use Rattle.method_examples.proofs.tests.alone.alone_in.Goals as goal

pub open-requires-clause-own : goal.open-requires-clause-own
open-requires-clause-own g c =
    let js = c.in_ok-tree.tree.built in
    let items = c.in_ok-to_vec.field-0.items in
    subst (IsPermutation js)
    (c.in_ok-to_vec.ensures.items_if_clones_equal (λ x y h. h)
    ∙ sym c.requires.particles ∙ sym (c.lone_ranks_have_all.ensures g.T.Terms.grid g.T.Terms.particles g.T.Terms.is_division c.requires.one).1)
    (IsPermutation-sym items js c.in_ok-tree.ensures.same_bodies)
