use Rattle.std.proofs.Common.{◌≡◌, ℕ, ◌+◌, ◌<◌, ◌≤◌, length, inl, inr, sym, ◌∙◌, ap, subst, arith}
use Rattle.std.proofs.lemmas.Bool.{cases_lt}
use Rattle.pf_geom.specs.Octant.{Octant, cell_at}
use Rattle.pf_model.specs.Group.{particles_in}
use Rattle.morton_tree.specs.declared.span.Span.{Span}
use Rattle.morton_tree.specs.Spans.{span_of, IsWithin}
use Rattle.morton_tree.proofs.KeyLemmas.{span_in_whole, span_inside, members_of_span, cell_of_deepest, next_cell_within}
use Rattle.morton_tree.proofs.tree.Tree.group_cell.Goals as goal

pub loop-level-init : goal.loop-level-init
loop-level-init c =
    let own = c.args.self.now.built in
    let first = ap (λ (s : Span). s.first) c.whole-span.ensures.value in
    let len = ap (λ (s : Span). s.len) c.whole-span.ensures.value in
    record {
      many = λ lower less. absurd (omega arith);
      within = subst (IsWithin (span_of (cell_at c.args.p 0) own)) (sym c.whole-span.ensures.value) (span_in_whole (cell_at c.args.p 0) own);
      inside = omega arith;
    }

pub node_in-span-requires : goal.node_in-span-requires
node_in-span-requires c =
    let own = c.args.self.now.built in
    let level = c.loop-level.level in
    let shallow = c.loop-level-test.true in
    let cell = cell_of_deepest c.cells_of_a_position_nest.ensures c.args.p c.cell_of-deepest.result c.ancestor-cell.result level c.cell_of-deepest.ensures c.ancestor-cell.ensures (omega arith) in
    record {
      within = subst (λ (o : Octant). IsWithin (span_of o own) c.loop-level.span) (sym cell) c.loop-level.invariant.within;
      inside = c.loop-level.invariant.inside;
    }

pub loop-level-preserved : goal.loop-level-preserved
loop-level-preserved c =
    let own = c.args.self.now.built in
    let p = c.args.p in
    let level = c.loop-level.level in
    let shallow : level < 30 = c.loop-level-test.true in
    let cell = cell_of_deepest c.cells_of_a_position_nest.ensures p c.cell_of-deepest.result c.ancestor-cell.result level c.cell_of-deepest.ensures c.ancestor-cell.ensures (omega arith) in
    let span : c.node_in-span.result ≡ span_of (cell_at p level) own = c.node_in-span.ensures ∙ ap (λ (o : Octant). span_of o own) cell in
    let first = ap (λ (s : Span). s.first) span in
    let len = ap (λ (s : Span). s.len) span in
    record {
      many = λ lower less.
          elim (cases_lt lower level) [
            | inl below ↦ c.loop-level.invariant.many lower below
            | inr here ↦
                let same : level ≡ lower = omega arith in
                let many : c.args.limit < length (particles_in (cell_at p level) own) = (let test = c.if-span-limit.false in omega arith) in
                let P : ℕ → Type 0 = λ n. c.args.limit < length (particles_in (cell_at p n) own) in
                subst P same many
          ];
      within = subst (IsWithin (span_of (cell_at p (level + 1)) own)) (sym span) (next_cell_within p level own shallow);
      inside = (let end = (span_in_whole (cell_at p level) own).end in omega arith);
    }

pub returns-then-span-limit-clause-cell : goal.returns-then-span-limit-clause-cell
returns-then-span-limit-clause-cell c =
    let own = c.args.self.now.built in
    let p = c.args.p in
    let level = c.loop-level.level in
    let shallow = c.loop-level-test.true in
    let cell = cell_of_deepest c.cells_of_a_position_nest.ensures p c.cell_of-deepest.result c.ancestor-cell.result level c.cell_of-deepest.ensures c.ancestor-cell.ensures (omega arith) in
    let span : c.node_in-span.result ≡ span_of (cell_at p level) own = c.node_in-span.ensures ∙ ap (λ (o : Octant). span_of o own) cell in
    let len = ap (λ (s : Span). s.len) span in
    let few : length (particles_in (cell_at p level) own) ≤ c.args.limit = (let test = c.if-span-limit.true in omega arith) in
    let is = (c.group_levels_are_least.ensures c.args.limit own p level).1 (record {
      within = omega arith;
      few = λ less. few;
      many_above = c.loop-level.invariant.many;
    }) in
    cell ∙ ap (cell_at p) is

pub node_in-requires : goal.node_in-requires
node_in-requires c =
    let own = c.args.self.now.built in
    let deepest = c.cell_of-deepest.ensures in
    let done = c.loop-level-test.false in
    let end : c.loop-level.level ≡ 30 = (let most = c.loop-level.auto.level-end in omega arith) in
    record {
      within = subst (λ (o : Octant). IsWithin (span_of o own) c.loop-level.span) (ap (cell_at c.args.p) end ∙ sym deepest) c.loop-level.invariant.within;
      inside = c.loop-level.invariant.inside;
    }

pub returns-clause-cell : goal.returns-clause-cell
returns-clause-cell c =
    let own = c.args.self.now.built in
    let done = c.loop-level-test.false in
    let is = (c.group_levels_are_least.ensures c.args.limit own c.args.p 30).1 (record {
      within = omega arith;
      few = λ less. absurd (omega arith);
      many_above = λ lower less. c.loop-level.invariant.many lower (omega arith);
    }) in
    c.cell_of-deepest.ensures ∙ ap (cell_at c.args.p) is

pub returns-then-span-limit-clause-inside : goal.returns-then-span-limit-clause-inside
returns-then-span-limit-clause-inside c = span_inside c.args.self.now c.ancestor-cell.result c.node_in-span.result c.whole-span.ensures.tree c.node_in-span.ensures

pub returns-then-span-limit-clause-members : goal.returns-then-span-limit-clause-members
returns-then-span-limit-clause-members c = members_of_span c.args.self.now c.ancestor-cell.result c.node_in-span.result c.whole-span.ensures.tree c.node_in-span.ensures

pub returns-clause-inside : goal.returns-clause-inside
returns-clause-inside c = span_inside c.args.self.now c.cell_of-deepest.result c.node_in.result c.whole-span.ensures.tree c.node_in.ensures

pub returns-clause-members : goal.returns-clause-members
returns-clause-members c = members_of_span c.args.self.now c.cell_of-deepest.result c.node_in.result c.whole-span.ensures.tree c.node_in.ensures
