-- The least number that passes a test.
use Rattle.std.proofs.Common.{◌≡◌, ℕ, zero, suc, ◌<◌, Bool, true, false, cond, Option, Some, None, inl, inr, ◌∙◌, ap, arith}
use Rattle.std.proofs.lemmas.Bool.{cond_both, cases_order}
use Rattle.order_laws.specs.Order.{first_some, least_below}

-- the least number below n that passes, or none does
abbrev pub IsLeast : (ℕ → Bool) → ℕ → Option ℕ → Type 0
IsLeast test n None = (i : ℕ) → i < n → test i ≡ false
IsLeast test n (Some k) = (k < n) × (test k ≡ true) × ((i : ℕ) → i < k → test i ≡ false)

none_more : (test : ℕ → Bool) (n : ℕ) → IsLeast test n None → test n ≡ false → IsLeast test (suc n) None
none_more test n none here i below =
    elim (cases_order i n) [
      | inl e ↦ ap test e ∙ here
      | inr h ↦ elim h [ inl less ↦ none i less | inr more ↦ absurd (omega arith) ]
    ]

least_more : (test : ℕ → Bool) (n : ℕ) (o : Option ℕ) → IsLeast test n o → IsLeast test (suc n) (first_some o (cond (test n) (Some n) None))
least_more test n (Some k) h = (let below : k < n = h.0 in omega arith, h.1, h.2)
least_more test n None h = cond_both (test n) (Some n) None (IsLeast test (suc n)) (λ e. (omega arith, e, h)) (λ e. none_more test n h e)

pub IsLeast-least_below : (test : ℕ → Bool) (n : ℕ) → IsLeast test n (least_below test n)
unfolding least_below
IsLeast-least_below test zero = λ i below. absurd (omega arith)
IsLeast-least_below test (suc n) = least_more test n (least_below test n) (IsLeast-least_below test n)
