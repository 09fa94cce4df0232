use Rattle.std.proofs.Common.{◌≡◌, ℕ, ◌<◌, ◌≤◌, ◌↔◌, Option, Some, refl, sym, ap, ◌∙◌, subst, arith}
use Rattle.pf_geom.specs.Position.{Position}
use Rattle.pf_geom.specs.Bounds.{Bounds}
use Rattle.pf_geom.specs.Key.{morton_key}
use Rattle.pf_geom.specs.Octant.{Octant, cell_at}
use Rattle.pf_model.specs.Criterion.{Criterion, IsCriterion, Passes}
use Rattle.pf_model.specs.Interaction.{level_of}
use Rattle.model_laws.specs.ListLaws.{LevelsAreLeast}
use Rattle.cell_runs.specs.Finding.{cell_of_key, IsShared, NoSharedPasses}
use Rattle.cell_runs.proofs.finding.first_level.Goals as goal

pub returns-then-theta-eq0-clause-value : goal.returns-then-theta-eq0-clause-value
returns-then-theta-eq0-clause-value g c = λ p key shared.
    let t = c.args.gaps.now in
    let is = c.theta-2.view_is ∙ c.theta.ensures in
    let none = ap (λ (t : Criterion). t.a) (sym is) ∙ c.if-theta-eq0.true in
    let angle = subst IsCriterion is c.theta-2.invariant in
    sym ((c.levels_are_least.ensures t c.args.b p).0.1 (λ level within passes. c.nothing_passes_at_zero.ensures t c.args.b (cell_at p level) angle none passes))

-- no cell passes that is shared
none_shared : (t : Criterion) (box : Bounds) (before : Option ℕ) (key first : ℕ) → ((level : ℕ) → level ≤ 30 → (level < first) ↔ IsShared before key level) → first ≤ 31 → NoSharedPasses t box before key → (lower : ℕ) → lower < first → Passes box (cell_of_key key lower) t → ⊥
none_shared t box before key first is most shared lower less passes =
    let within : lower ≤ 30 = omega arith in
    shared lower within ((is lower within).0 less) passes

-- the least level at which the cell of a key passes
least_level : LevelsAreLeast → (t : Criterion) (box : Bounds) (p : Position) (key level : ℕ) → morton_key p ≡ key → level ≤ 30 → Passes box (cell_of_key key level) t → ((lower : ℕ) → lower < level → Passes box (cell_of_key key lower) t → ⊥) → Some level ≡ level_of t box p
least_level laws t box p key level is within passes lowest =
    let P : ℕ → ℕ → Type 0 = λ l k. Passes box (cell_of_key k l) t in
    sym (((laws t box p).1 level).1 (record { within = within; passes = subst (P level) (sym is) passes; lowest = λ lower less there. lowest lower less (subst (P lower) is there) }))

pub returns-then-first-gt-DEEPEST-clause-value : goal.returns-then-first-gt-DEEPEST-clause-value
returns-then-first-gt-DEEPEST-clause-value g c = λ p key shared.
    let t = c.args.gaps.now in
    let levels = c.shared_levels-first.ensures in
    let past = c.if-first-gt-DEEPEST.true in
    let P : ℕ → ℕ → Type 0 = λ l k. Passes c.args.b (cell_of_key k l) t in
    sym ((c.levels_are_least.ensures t c.args.b p).0.1 (λ level within passes. none_shared t c.args.b c.args.before c.args.key c.shared_levels-first.result levels.shared levels.most shared level (omega arith) (subst (P level) key passes)))

pub loop-level-init : goal.loop-level-init
loop-level-init g c = record {
  fail = λ shared lower less passes. none_shared c.args.gaps.now c.args.b c.args.before c.args.key c.shared_levels-first.result c.shared_levels-first.ensures.shared c.shared_levels-first.ensures.most shared lower less passes;
  counted = omega arith;
}

pub returns-then-passes-clause-value : goal.returns-then-passes-clause-value
returns-then-passes-clause-value g c = λ p key shared.
    let t = c.args.gaps.now in
    let level = c.loop-level.level in
    let within = c.loop-level-test.true in
    least_level c.levels_are_least.ensures t c.args.b p c.args.key level key (omega arith)
    (subst (λ (o : Octant). Passes c.args.b o t) c.cell_of_key.ensures (c.passes.ensures.answer.0 c.if-passes.true)) (c.loop-level.invariant.fail shared)

pub returns-then-passes-2-clause-value : goal.returns-then-passes-2-clause-value
returns-then-passes-2-clause-value g c = λ p key shared.
    let t = c.args.gaps.now in
    let within = c.loop-deep-test.true in
    least_level c.levels_are_least.ensures t c.args.b p c.args.key c.loop-deep.deep key (omega arith)
    (subst (λ (o : Octant). Passes c.args.b o t) c.cell_of_key-in-loop-deep.ensures (c.passes-in-loop-deep.ensures.answer.0 c.if-passes-2.true)) (c.loop-deep.invariant.fail shared)

pub returns-clause-value : goal.returns-clause-value
returns-clause-value g c = λ p key shared.
    let end = c.loop-deep-test.false in
    least_level c.levels_are_least.ensures c.args.gaps.now c.args.b p c.args.key 30 key (omega arith) (c.if-not-deepest_passes.ensures.passes refl) (λ lower less passes. c.loop-deep.invariant.fail shared lower (omega arith) passes)
