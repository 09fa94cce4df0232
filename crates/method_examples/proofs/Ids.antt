-- The ids of the bodies of the examples.
use Rattle.std.proofs.Common.{◌≢◌, ℕ, [], ◌∷◌}
use Rattle.std.specs.List.{IsDistinct}
use Rattle.std.specs.Prelude.{nat_eq}
use Rattle.std.proofs.lemmas.Bool.{ne_eqb}

pub two_differ : (a b : ℕ) → a ≢ b → IsDistinct nat_eq (a ∷ b ∷ [])
unfolding IsDistinct
two_differ a b p = ((ne_eqb a b p, tt), (tt, tt))

pub three_differ : (a b c : ℕ) → a ≢ b → a ≢ c → b ≢ c → IsDistinct nat_eq (a ∷ b ∷ c ∷ [])
unfolding IsDistinct
three_differ a b c p q r = ((ne_eqb a b p, (ne_eqb a c q, tt)), ((ne_eqb b c r, tt), (tt, tt)))
