-- The least number that passes a test.
use Rattle.std.proofs.Common.{◌≡◌, ℕ, zero, suc, ◌<◌, Bool, true, false, cond, Option, Some, None, inl, inr, refl, ◌∙◌, ap, subst, arith}
use Rattle.std.proofs.lemmas.Bool.{cond_both, cases_order, both_ways}
use Rattle.order_laws.specs.Order.{first_some, least_below}
use Rattle.order_laws.specs.OrderLaws.{IsLeast, LeastNumbersAreLeast}

none_more : (test : ℕ → Bool) (n : ℕ) → IsLeast test n None → test n ≡ false → IsLeast test (suc n) None
none_more test n none here i below =
    elim (cases_order i n) [
      | inl e ↦ ap test e ∙ here
      | inr h ↦ elim h [ inl less ↦ none i less | inr more ↦ absurd (omega arith) ]
    ]

least_more : (test : ℕ → Bool) (n : ℕ) (o : Option ℕ) → IsLeast test n o → IsLeast test (suc n) (first_some o (cond (test n) (Some n) None))
least_more test n (Some k) h = (let below : k < n = h.0 in omega arith, h.1, h.2)
least_more test n None h = cond_both (test n) (Some n) None (IsLeast test (suc n)) (λ e. (omega arith, e, h)) (λ e. none_more test n h e)

pub IsLeast-least_below : (test : ℕ → Bool) (n : ℕ) → IsLeast test n (least_below test n)
unfolding least_below
IsLeast-least_below test zero = λ i below. absurd (omega arith)
IsLeast-least_below test (suc n) = least_more test n (least_below test n) (IsLeast-least_below test n)

same_least : (test : ℕ → Bool) (n : ℕ) (o r : Option ℕ) → IsLeast test n o → IsLeast test n r → o ≡ r
same_least test n None None h k = refl
same_least test n None (Some b) h k = absurd (both_ways (test b) (h b k.0) k.1)
same_least test n (Some a) None h k = absurd (both_ways (test a) (k a h.0) h.1)
same_least test n (Some a) (Some b) h k =
    elim (cases_order a b) [
      | inl e ↦ ap Some e
      | inr u ↦ elim u [ inl less ↦ absurd (both_ways (test a) (k.2 a less) h.1) | inr more ↦ absurd (both_ways (test b) (h.2 b more) k.1) ]
    ]

pub least_below-from_IsLeast : (test : ℕ → Bool) (n : ℕ) (o : Option ℕ) → IsLeast test n o → least_below test n ≡ o
least_below-from_IsLeast test n o h = same_least test n (least_below test n) o (IsLeast-least_below test n) h

pub least_numbers_are_least : LeastNumbersAreLeast
least_numbers_are_least test n o =
    (λ e. subst (IsLeast test n) e (IsLeast-least_below test n), λ h. least_below-from_IsLeast test n o h)
