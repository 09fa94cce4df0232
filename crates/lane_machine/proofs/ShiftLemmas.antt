-- Powers of two as scales.
use Rattle.std.proofs.Common.{◌≡◌, ℕ, zero, suc, ◌-◌, ◌^◌, ◌<◌, ◌≤◌, ℤ, pos, ◌*ℤ◌, int_div, ap, ◌∙◌, arith}
use Rattle.std.proofs.lemmas.Bool.{cond-true, cond-false, le-leb, lt-leb}
use Rattle.std.proofs.lemmas.Int.{ints, to_z-of_z}
use Rattle.pf_num.specs.Scale.{rescaled}

pub raised : (x : ℤ) (k : ℕ) → rescaled x 0 k ≡ x *ℤ pos (2 ^ k)
unfolding rescaled
raised x k = let least : 0 ≤ k = omega arith in let same : k - 0 ≡ k = omega arith in
    cond-true _ _ _ (le-leb 0 k least) ∙ ap (λ n. x *ℤ pos (2 ^ n)) same

whole : (x : ℤ) → x *ℤ pos 1 ≡ int_div x (pos 1)
whole x = omega (arith, ints)

pub lowered : (x : ℤ) (k : ℕ) → rescaled x k 0 ≡ int_div x (pos (2 ^ k))
unfolding rescaled
lowered x zero = whole x
lowered x (suc k) = let some : 0 < suc k = omega arith in let same : suc k - 0 ≡ suc k = omega arith in
    cond-false _ _ _ (lt-leb (suc k) 0 some) ∙ ap (λ n. int_div x (pos (2 ^ n))) same

pub ruleset shifts = (to_z-of_z, raised, lowered)
