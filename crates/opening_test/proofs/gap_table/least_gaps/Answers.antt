use Rattle.std.proofs.Common.{◌≡◌, ◌≢◌, ℕ, ◌+◌, ◌-◌, ◌<◌, ◌≤◌, ◌^◌, min, get_or, set, inl, inr, refl, sym, ap, ◌∙◌, subst, arith}
use Rattle.std.proofs.lemmas.List.{length-set, get_or-set_same, get_or-set_other, get_or-replicate}
use Rattle.std.proofs.lemmas.Bool.{cases_lt}
use Rattle.pf_model.specs.Criterion.{Criterion}
use Rattle.opening_test.specs.LeastGaps.{IsLeastGap, IsLeastNumber}
use Rattle.opening_test.proofs.TableLemmas.{ceil_serves, one_level_deeper, IsLeastGap-within, IsLeastGap-none}
use Rattle.opening_test.proofs.gap_table.least_gaps.Goals as goal

pub loop-level-preserved : goal.loop-level-preserved
loop-level-preserved c =
    let t = c.args.t in
    let at = c.loop-level.level in
    let gaps = c.loop-level.gaps in
    let before = c.loop-level.invariant in
    let put = c.in_64_bits.result in
    let least = before.least (omega (arith, c.loop-level-test.true)) in
    record {
      all_levels = length-set gaps at put ∙ before.all_levels;
      above = λ level d within. elim (cases_lt level at) [
        | inl less ↦ subst (IsLeastGap t level) (sym (get_or-set_other gaps at level put d (λ same. omega arith))) (before.above level d less)
        | inr more ↦
            let same : at ≡ level = omega arith in
            let read : get_or (set gaps at put) at d ≡ min c.loop-level.least (2 ^ 64 - 1) = get_or-set_same gaps at put d (omega (arith, before.all_levels, c.loop-level-test.true)) ∙ c.in_64_bits.ensures in
            subst (λ k. IsLeastGap t k (get_or (set gaps at put) k d)) same (subst (IsLeastGap t at) (sym read) (IsLeastGap-within t at c.loop-level.least least))
      ];
      least = λ within. subst (IsLeastNumber t (at + 1)) (sym c.div_ceil-least.ensures) (one_level_deeper t at c.loop-level.least (omega arith) least);
      fits = rw c.div_ceil-least.ensures ((ceil_serves c.loop-level.least 4 (2 ^ 80) (omega arith)).1 (omega (arith, before.fits)));
    }

pub returns-else-t-gt0 : goal.returns-else-t-gt0
returns-else-t-gt0 c =
    let none = ap (λ (t : Criterion). t.a) (sym c.t.view_is) ∙ omega (arith, c.if-t-gt0.false) in
    let some = subst (λ (t : Criterion). 1 ≤ t.b) c.t.view_is c.t.invariant.denominator_positive in
    record {
      all_levels = refl;
      each = λ level d within. subst (IsLeastGap c.args.t level) (sym (get_or-replicate 31 level (2 ^ 64 - 1) d (omega arith))) (IsLeastGap-none c.args.t level none some);
    }
