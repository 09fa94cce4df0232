-- Least gaps at which cells pass.
use Rattle.std.proofs.Common.{◌≡◌, ℕ, zero, suc, ◌+◌, ◌-◌, ◌*◌, ◌/◌, ◌%◌, ◌^◌, ◌<◌, ◌≤◌, ◌↔◌, min, inl, inr, refl, sym, ap, ◌∙◌, arith}
use Rattle.std.proofs.Math.Nat.{mul-le-mul_right, add-mul, one-mul, mul-pos, mul_comm, mul_assoc, pow-succ'}
use Rattle.std.proofs.lemmas.Nat.{pow_pos}
use Rattle.std.proofs.lemmas.Bool.{cases_lt}
use Rattle.std.proofs.lemmas.Grind.{div_ceil_times}
use Rattle.std.specs.Int.{div_ceil}
use Rattle.pf_geom.specs.Octant.{side_at}
use Rattle.pf_geom.specs.Gap.{square}
use Rattle.pf_model.specs.Criterion.{Criterion}
use Rattle.opening_test.specs.LeastGaps.{IsLeastGap, IsLeastNumber}

-- a quotient rounded up is at most n exactly where n times the divisor is enough
pub ceil_serves : (w a n : ℕ) → 0 < a → (div_ceil w a ≤ n) ↔ (w ≤ n * a)
ceil_serves w a n positive =
    let times = div_ceil_times w a positive in (
      λ most. (let grown = mul-le-mul_right a most in omega (arith, times.0)),
      λ enough. elim (cases_lt n (div_ceil w a)) [
        | inl less ↦ absurd (let grown = mul-le-mul_right a less in omega (arith, times.1, add-mul n 1 a, one-mul a))
        | inr most ↦ most
      ],
    )

twice_squared : (s : ℕ) → square (2 * s) ≡ 4 * square s
twice_squared s =
    let turned : s * (2 * s) ≡ 2 * (s * s) = mul_comm s (2 * s) ∙ mul_assoc 2 s s in
    omega (arith, mul_assoc 2 s (2 * s), turned)

-- the square of a side is four times that one level deeper
sides : (level : ℕ) → level < 30 → square (side_at level) ≡ 4 * square (side_at (level + 1))
sides level within =
    let up : 30 - level ≡ suc (30 - (level + 1)) = omega arith in
    let twice : side_at level ≡ 2 * side_at (level + 1) = ap (λ e. 2 ^ e) up ∙ pow-succ' 2 (30 - (level + 1)) in
    ap square twice ∙ twice_squared (side_at (level + 1))

pub one_level_deeper : (t : Criterion) (level least : ℕ) → level < 30 → IsLeastNumber t level least → IsLeastNumber t (level + 1) (div_ceil least 4)
one_level_deeper t level least within is_least n =
    let quarter : (div_ceil least 4 ≤ n) ↔ (least ≤ n * 4) = ceil_serves least 4 n (omega arith) in
    let four = is_least (n * 4) in
    let deeper = square (side_at (level + 1)) in
    let sides_times : square (side_at level) * square t.b ≡ 4 * (deeper * square t.b) = ap (λ s. s * square t.b) (sides level within) ∙ mul_assoc 4 deeper (square t.b) in
    let gaps_times : n * 4 * square t.a ≡ 4 * (n * square t.a) = ap (λ m. m * square t.a) (mul_comm n 4) ∙ mul_assoc 4 n (square t.a) in (
      λ most. (let enough = four.0 (quarter.0 most) in omega (arith, sides_times, gaps_times)),
      λ enough. quarter.1 (four.1 (omega (arith, sides_times, gaps_times))),
    )

-- a number serves among gaps, as does any that no gap has in place of one that is too great
pub IsLeastGap-within : (t : Criterion) (level least : ℕ) → IsLeastNumber t level least → IsLeastGap t level (min least (2 ^ 64 - 1))
IsLeastGap-within t level least is_least gap2 fits = (
  λ most. (is_least gap2).0 (omega arith),
  λ enough. (let most = (is_least gap2).1 enough in omega arith),
)

-- at the angle 0 no gap is enough
pub IsLeastGap-none : (t : Criterion) (level : ℕ) → t.a ≡ 0 → 1 ≤ t.b → IsLeastGap t level (2 ^ 64 - 1)
IsLeastGap-none t level none some gap2 fits =
    let side = pow_pos (30 - level) in
    let left : 0 < square (side_at level) * square t.b = mul-pos (mul-pos side side) (mul-pos some some) in
    let nothing : gap2 * 0 ≡ 0 = omega arith in
    let right : gap2 * square t.a ≡ 0 = ap (λ (a : ℕ). gap2 * (a * a)) none ∙ nothing in (
      λ most. absurd (omega arith),
      λ enough. absurd (omega (arith, left, right)),
    )
