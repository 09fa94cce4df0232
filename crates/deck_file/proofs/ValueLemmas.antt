-- The parts of a value.
use Rattle.std.proofs.Common.{◌≡◌, ◌∙◌, ℕ, suc, ◌+◌, ◌-◌, sym, ap, List, length, take, drop, length-drop, add-one}
use Rattle.std.proofs.Math.Seq.{take-length}

-- all that stands after a place
pub rest_after : (value : List ℕ) (place : ℕ) → take (length value - (place + 1)) (drop (place + 1) value) ≡ drop (suc place) value
rest_after value place =
    ap (λ n. take n (drop (place + 1) value)) (sym (length-drop (place + 1) value)) ∙ take-length (drop (place + 1) value)
    ∙ ap (λ n. drop n value) (add-one place)
