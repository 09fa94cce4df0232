-- The first breach, one instruction after another.
use Rattle.std.proofs.Common.{◌≡◌, ℕ, zero, suc, ◌<◌, Bool, true, false, List, [], ◌∷◌, ◌++◌, length, get_or, take, Option, Some, None, cond, refl, sym, ap, ◌∙◌, arith, append_assoc}
use Rattle.std.proofs.lemmas.List.{append-nil}
use Rattle.lane_code.specs.declared.code.RawCode.{RawCode}
use Rattle.lane_code.specs.declared.instruction.Instr.{Instr}
use Rattle.lane_code.specs.Validity.{is_fine, first_breach_after}
use Rattle.lane_code.specs.Laws.{EachIsFine}

fine_if : (b : Bool) (others : Option ℕ) (n : ℕ) → cond b others (Some n) ≡ None → (b ≡ true) × (others ≡ None)
fine_if true others n e = (refl, e)
fine_if false others n e = absurd (let no : ⊥ = cc in no)

fine_after : (raw : RawCode) (before xs : List Instr) (n : ℕ) (d : Instr) → first_breach_after raw before xs ≡ None → n < length xs → is_fine raw (before ++ take n xs) (get_or xs n d) ≡ true
fine_after raw before [] n d e h = absurd (omega (arith, h))
fine_after raw before (x ∷ xs) zero d e h =
    ap (λ b. is_fine raw b x) (append-nil before) ∙ (fine_if (is_fine raw before x) _ (length before) e).0
fine_after raw before (x ∷ xs) (suc n) d e h =
    ap (λ b. is_fine raw b (get_or xs n d)) (sym (append_assoc before (x ∷ []) (take n xs)))
    ∙ fine_after raw (before ++ x ∷ []) xs n d (fine_if (is_fine raw before x) _ (length before) e).1 (omega (arith, h))

pub each_is_fine : EachIsFine
each_is_fine raw n d e h = fine_after raw [] raw.steps n d e h
