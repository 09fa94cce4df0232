-- The opening test: what passes when sides and gaps change.
use Rattle.std.proofs.Common.{◌≡◌, ℕ, zero, suc, ◌-◌, ◌*◌, ◌^◌, ◌<◌, ◌≤◌, ap, arith, ◌∙◌}
use Rattle.std.proofs.Math.Nat.{mul-pos, mul-le-mul, mul-le-mul_right, pow-le-pow_right}
use Rattle.std.proofs.lemmas.Nat.{pow_pos}
use Rattle.pf_geom.specs.Octant.{side_at}
use Rattle.pf_geom.specs.Gap.{square, gap2_to}
use Rattle.model_laws.specs.OpeningLaws.{NothingPassesAtZero}

-- a smaller side and a greater gap pass
pub passes-grows : (side small gap wide a b : ℕ) → small ≤ side → gap ≤ wide → square side * square b ≤ gap * square a → square small * square b ≤ wide * square a
passes-grows side small gap wide a b less more passes =
    let sides : square small * square b ≤ square side * square b = mul-le-mul_right (square b) (mul-le-mul less less) in
    let gaps : gap * square a ≤ wide * square a = mul-le-mul_right (square a) more in
    omega arith

-- deeper cells are smaller
pub side-shrinks : (outer inner : ℕ) → outer ≤ inner → 2 ^ (30 - inner) ≤ 2 ^ (30 - outer)
side-shrinks outer inner h =
    let positive : 0 < 2 = omega arith in
    let shallower : 30 - inner ≤ 30 - outer = omega arith in
    pow-le-pow_right positive shallower

-- where a cell passes, its gap is positive
pub gap-positive : (level gap a b : ℕ) → 1 ≤ b → square (2 ^ (30 - level)) * square b ≤ gap * square a → 1 ≤ gap
gap-positive level zero a b q passes =
    let side : 1 ≤ 2 ^ (30 - level) = omega (arith, pow_pos (30 - level)) in
    let positive : 1 ≤ square (2 ^ (30 - level)) * square b = mul-le-mul (mul-le-mul side side) (mul-le-mul q q) in
    absurd (omega arith)
gap-positive level (suc gap) a b q passes = omega arith

-- with no opening angle nothing is as small as is asked
pub nothing_passes_at_zero : NothingPassesAtZero
nothing_passes_at_zero t box c angle none passes =
    let gap = gap2_to t.edge box c in
    let side = pow_pos (30 - c.level) in
    let some = angle.denominator_positive in
    let left : 0 < square (side_at c.level) * square t.b = mul-pos (mul-pos side side) (mul-pos some some) in
    let nothing : gap * 0 ≡ 0 = omega arith in
    let right : gap * square t.a ≡ 0 = ap (λ (a : ℕ). gap * (a * a)) none ∙ nothing in
    omega (arith, passes)
