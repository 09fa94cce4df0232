-- Contributions, slot after slot.
use Rattle.std.proofs.Common.{◌≡◌, ℕ, zero, suc, ◌+◌, ◌<◌, ◌≤◌, List, [], ◌∷◌, ◌++◌, length, get_or, set, Option, Some, None, refl, sym, ap, ◌∙◌, arith, append_assoc}
use Rattle.std.proofs.lemmas.List.{append-nil}
use Rattle.kern_meaning.specs.declared.value.Value.{Value}
use Rattle.lane_codegen.specs.Meaning.{gifts_from, gifts_of}

pub nothing_from : (n : ℕ) (given : List (Option Value)) → ((m : ℕ) → get_or given m None ≡ None) → gifts_from n given ≡ []
nothing_from n [] h = refl
nothing_from n (g ∷ given) h = ap (λ x. gifts_of n x ++ gifts_from (n + 1) given) (h 0) ∙ nothing_from (n + 1) given (λ m. h (suc m))

-- a value in the first slot from which on there is nothing
more_from : (n slot : ℕ) (given : List (Option Value)) (v : Value) → slot < length given → ((m : ℕ) → slot ≤ m → get_or given m None ≡ None) → gifts_from n (set given slot (Some v)) ≡ gifts_from n given ++ gifts_of (n + slot) (Some v)
more_from n slot [] v less h = absurd (omega (arith, less))
more_from n zero (g ∷ given) v less h =
    let rest : gifts_from (n + 1) given ≡ [] = nothing_from (n + 1) given (λ m. h (suc m) (omega arith)) in
    ap (λ l. gifts_of n (Some v) ++ l) rest ∙ append-nil (gifts_of n (Some v)) ∙ ap (λ k. gifts_of k (Some v)) (let e : n ≡ n + 0 = omega arith in e)
    ∙ sym (ap (λ l. l ++ gifts_of (n + 0) (Some v)) (ap (λ x. gifts_of n x ++ gifts_from (n + 1) given) (h 0 (omega arith)) ∙ rest))
more_from n (suc slot) (g ∷ given) v less h =
    ap (λ l. gifts_of n g ++ l) (more_from (n + 1) slot given v (omega (arith, less)) (λ m le. h (suc m) (omega (arith, le))))
    ∙ sym (append_assoc (gifts_of n g) (gifts_from (n + 1) given) (gifts_of (n + 1 + slot) (Some v)))
    ∙ ap (λ k. (gifts_of n g ++ gifts_from (n + 1) given) ++ gifts_of k (Some v)) (let e : n + 1 + slot ≡ n + suc slot = omega arith in e)

pub gifts_more : (slot : ℕ) (given : List (Option Value)) (v : Value) → slot < length given → ((m : ℕ) → slot ≤ m → get_or given m None ≡ None) → gifts_from 0 (set given slot (Some v)) ≡ gifts_from 0 given ++ gifts_of slot (Some v)
gifts_more slot given v less h = more_from 0 slot given v less h ∙ ap (λ k. gifts_from 0 given ++ gifts_of k (Some v)) (let e : 0 + slot ≡ slot = omega arith in e)
