-- The level of a group, as the least that passes a test.
use Rattle.std.proofs.Common.{◌≡◌, ℕ, Bool, List, length, Option, Some, None, unwrap_or, refl, ap, arith, leb, inl, inr}
use Rattle.std.proofs.lemmas.Bool.{cases_lt, both_ways}
use Rattle.pf_geom.specs.Position.{Position}
use Rattle.pf_geom.specs.Octant.{cell_at}
use Rattle.pf_model.specs.Particle.{Particle}
use Rattle.pf_model.specs.Group.{particles_in, group_level}
use Rattle.order_laws.specs.OrderLaws.{IsLeast}
use Rattle.order_laws.proofs.LeastLemmas.{least_below-from_IsLeast, IsLeast-least_below}

-- whether the position's cell at a level has no more of the particles than the limit
abbrev pub is_few_at : ℕ → List Particle → Position → ℕ → Bool
is_few_at limit own p = λ level. leb (length (particles_in (cell_at p level) own)) limit

pub level_from_few : (limit : ℕ) (own : List Particle) (p : Position) (o : Option ℕ) → IsLeast (is_few_at limit own p) 31 o → group_level limit own p ≡ unwrap_or o 30
unfolding group_level
level_from_few limit own p o h = ap (λ (r : Option ℕ). unwrap_or r 30) (least_below-from_IsLeast (is_few_at limit own p) 31 o h)

deepest : (limit : ℕ) (own : List Particle) (p : Position) (o : Option ℕ) → IsLeast (is_few_at limit own p) 30 None → IsLeast (is_few_at limit own p) 31 o → unwrap_or o 30 ≡ 30
deepest limit own p None h k = refl
deepest limit own p (Some level) h k =
    elim (cases_lt level 30) [
      | inl less ↦ absurd (both_ways (is_few_at limit own p level) (h level less) k.1)
      | inr more ↦ let below = k.0 in omega arith
    ]

pub level_from_none_few : (limit : ℕ) (own : List Particle) (p : Position) → IsLeast (is_few_at limit own p) 30 None → group_level limit own p ≡ 30
unfolding group_level
level_from_none_few limit own p h = deepest limit own p _ h (IsLeast-least_below (is_few_at limit own p) 31)
