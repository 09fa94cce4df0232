-- The numbers of a particle, and the particle of numbers.
use Rattle.std.proofs.Common.{◌≡◌, suc, ◌^◌, ℤ, pos, negsuc, neg_ℤ, ◌≤ℤ◌, List, [], ◌∷◌, length, drop, replicate, refl, sym, ap, ◌∙◌, subst, arith}
use Rattle.std.specs.Prelude.{unsigned_abs}
use Rattle.std.proofs.lemmas.Int.{ints}
use Rattle.pf_model.specs.Particle.{Particle, IsVelocity, IsAttribute, IsParticle}
use Rattle.particle_file.specs.Columns.{columns, AreWithin, numbers, number_at, particle_of}
use Rattle.particle_file.specs.Spelling.{IsPlain}
use Rattle.particle_file.specs.declared.columns.Limits.{Limits}
use Rattle.particle_file.proofs.ColumnLemmas.{column_within, particle_of-limits}

-- as many numbers as columns
AreWithin-length : (cs : List Limits) (ns : List ℤ) → AreWithin cs ns → length ns ≡ length cs
AreWithin-length [] [] within = refl
AreWithin-length [] (n ∷ ns) within = absurd within
AreWithin-length (c ∷ cs) [] within = absurd within
AreWithin-length (c ∷ cs) (n ∷ ns) within = ap suc (AreWithin-length cs ns within.2)

-- the twelve, one by one
written_out : (ns : List ℤ) → length ns ≡ 12
    → ns ≡ number_at ns 0 ∷ number_at ns 1 ∷ number_at ns 2 ∷ number_at ns 3 ∷ number_at ns 4 ∷ number_at ns 5 ∷ number_at ns 6 ∷ number_at ns 7 ∷ number_at ns 8 ∷ number_at ns 9 ∷ number_at ns 10 ∷ number_at ns 11 ∷ []
written_out (a ∷ b ∷ c ∷ d ∷ e ∷ f ∷ g ∷ h ∷ i ∷ j ∷ k ∷ l ∷ []) n = refl
written_out _ n = absurd (omega arith)

positive : (n most : ℤ) → (pos 0 ≤ℤ n) × (n ≤ℤ most) → pos (unsigned_abs n) ≡ n
positive (pos n) most h = refl
positive (negsuc n) most h = absurd (omega (arith, ints))

mass_positive : (n most : ℤ) → (pos 1 ≤ℤ n) × (n ≤ℤ most) → pos (unsigned_abs n) ≡ n
mass_positive (pos n) most h = refl
mass_positive (negsuc n) most h = absurd (omega (arith, ints))

-- the particle of numbers within their limits has these numbers
pub numbers-particle_of : (ns : List ℤ) → AreWithin columns ns → numbers (particle_of ns) ≡ ns
unfolding particle_of
numbers-particle_of ns within =
    let p0 = positive _ _ (column_within ns 0 within (omega arith)) in
    let p1 = positive _ _ (column_within ns 1 within (omega arith)) in
    let p2 = positive _ _ (column_within ns 2 within (omega arith)) in
    let p3 = positive _ _ (column_within ns 3 within (omega arith)) in
    let p7 = mass_positive _ _ (column_within ns 7 within (omega arith)) in
    (λ i. p0 i ∷ p1 i ∷ p2 i ∷ p3 i ∷ number_at ns 4 ∷ number_at ns 5 ∷ number_at ns 6 ∷ p7 i ∷ number_at ns 8 ∷ number_at ns 9 ∷ number_at ns 10 ∷ number_at ns 11 ∷ [])
    ∙ sym (written_out ns (AreWithin-length columns ns within))

-- it is a particle, without attributes past c3
pub particle_of-particle : (ns : List ℤ) → AreWithin columns ns → IsParticle (particle_of ns)
unfolding particle_of
particle_of-particle ns within =
    let h0 = column_within ns 0 within (omega arith) in
    let h1 = column_within ns 1 within (omega arith) in
    let h2 = column_within ns 2 within (omega arith) in
    let h3 = column_within ns 3 within (omega arith) in
    record {
      named = omega (arith, ints);
      in_cube = record { x_fits = omega (arith, ints); y_fits = omega (arith, ints); z_fits = omega (arith, ints) };
      three = refl;
      eight = refl;
      limits = particle_of-limits ns within;
    }

pub particle_of-plain : (ns : List ℤ) → IsPlain (particle_of ns)
unfolding particle_of
particle_of-plain ns = refl

pub three_out : (vs : List ℤ) → length vs ≡ 3 → vs ≡ number_at vs 0 ∷ number_at vs 1 ∷ number_at vs 2 ∷ []
three_out (a ∷ b ∷ c ∷ []) n = refl
three_out _ n = absurd (omega arith)

four_out : (as_ : List ℤ) → length as_ ≡ 8 → drop 4 as_ ≡ replicate 4 (pos 0) → as_ ≡ number_at as_ 0 ∷ number_at as_ 1 ∷ number_at as_ 2 ∷ number_at as_ 3 ∷ replicate 4 (pos 0)
four_out (a ∷ b ∷ c ∷ d ∷ rest) n e = ap (λ r. a ∷ b ∷ c ∷ d ∷ r) e
four_out _ n e = absurd (omega arith)

-- a plain particle, written out
plain_form : Particle → Particle
plain_form p = record {
  id = p.id;
  at = p.at;
  vel = number_at p.vel 0 ∷ number_at p.vel 1 ∷ number_at p.vel 2 ∷ [];
  mass = p.mass;
  attr = number_at p.attr 0 ∷ number_at p.attr 1 ∷ number_at p.attr 2 ∷ number_at p.attr 3 ∷ replicate 4 (pos 0);
}

plain_form-is : (p : Particle) → IsParticle p → IsPlain p → p ≡ plain_form p
unfolding plain_form
plain_form-is p good plain =
    let vel = three_out p.vel good.three in
    let attr = four_out p.attr good.eight plain in
    λ i. record { id = p.id; at = p.at; vel = vel i; mass = p.mass; attr = attr i }

form-back : (p : Particle) → particle_of (numbers (plain_form p)) ≡ plain_form p
unfolding particle_of plain_form
form-back p = refl

-- a plain particle is that of its numbers
pub particle_of-numbers : (p : Particle) → IsParticle p → IsPlain p → particle_of (numbers p) ≡ p
particle_of-numbers p good plain =
    let is = plain_form-is p good plain in
    ap (λ q. particle_of (numbers q)) is ∙ form-back p ∙ sym is

velocity_limits : (v : ℤ) → IsVelocity v → (neg_ℤ (pos (2 ^ 47)) ≤ℤ v) × (v ≤ℤ pos (2 ^ 47))
velocity_limits v slow = (omega (arith, ints), omega (arith, ints))

attribute_limits : (a : ℤ) → IsAttribute a → (neg_ℤ (pos (2 ^ 40)) ≤ℤ a) × (a ≤ℤ pos (2 ^ 40))
attribute_limits a small = (omega (arith, ints), omega (arith, ints))

form_within : (p : Particle) → IsParticle (plain_form p) → AreWithin columns (numbers (plain_form p))
unfolding plain_form
form_within p good =
    let cube = good.in_cube in
    let mass = good.limits.heavy in
    let v0 = velocity_limits (number_at p.vel 0) (good.limits.slow 0 (pos 0) (omega arith)) in
    let v1 = velocity_limits (number_at p.vel 1) (good.limits.slow 1 (pos 0) (omega arith)) in
    let v2 = velocity_limits (number_at p.vel 2) (good.limits.slow 2 (pos 0) (omega arith)) in
    let a0 = attribute_limits (number_at p.attr 0) (good.limits.small 0 (pos 0) (omega arith)) in
    let a1 = attribute_limits (number_at p.attr 1) (good.limits.small 1 (pos 0) (omega arith)) in
    let a2 = attribute_limits (number_at p.attr 2) (good.limits.small 2 (pos 0) (omega arith)) in
    let a3 = attribute_limits (number_at p.attr 3) (good.limits.small 3 (pos 0) (omega arith)) in (
      omega (arith, ints),
      omega (arith, ints),
      (
        omega (arith, ints),
        omega (arith, ints),
        (
          omega (arith, ints),
          omega (arith, ints),
          (
            omega (arith, ints),
            omega (arith, ints),
            (
              v0.0,
              v0.1,
              (
                v1.0,
                v1.1,
                (
                  v2.0,
                  v2.1,
                  (
                    omega (arith, ints),
                    omega (arith, ints),
                    (a0.0, a0.1, (a1.0, a1.1, (a2.0, a2.1, (a3.0, a3.1, tt)))),
                  ),
                ),
              ),
            ),
          ),
        ),
      ),
    )

-- its numbers are within the limits of their columns
pub numbers-within : (p : Particle) → IsParticle p → IsPlain p → AreWithin columns (numbers p)
numbers-within p good plain =
    let is = plain_form-is p good plain in
    subst (λ q. AreWithin columns (numbers q)) (sym is) (form_within p (subst IsParticle is good))
