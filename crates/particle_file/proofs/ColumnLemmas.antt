-- Numbers within the limits of their columns, and the particle that they give.
use Rattle.std.proofs.Common.{◌≡◌, ℕ, zero, suc, ◌<◌, ◌^◌, ℤ, pos, neg_ℤ, ◌≤ℤ◌, List, [], ◌∷◌, length, get_or, replicate, to_z, of_z, w64, arith}
use Rattle.std.specs.Prelude.{unsigned_abs}
use Rattle.std.proofs.lemmas.Int.{ints}
use Rattle.std.proofs.lemmas.List.Elements.{All-from_recursion}
use Rattle.std.specs.Int.Signed.{le_z_yes}
use Rattle.pf_model.specs.Particle.{IsVelocity, IsAttribute, HasParticleLimits}
use Rattle.particle_file.specs.Columns.{columns, id_limits, AreWithin, number_at, particle_of}
use Rattle.particle_file.specs.declared.columns.Limits.{Limits}

-- in each column the number is within the limits
within_at : (cs : List Limits) (ns : List ℤ) (k : ℕ) (d : Limits) → AreWithin cs ns → k < length cs → ((get_or cs k d).least ≤ℤ get_or ns k (pos 0)) × (get_or ns k (pos 0) ≤ℤ (get_or cs k d).most)
within_at [] ns k d within inside = absurd (omega arith)
within_at (c ∷ cs) [] k d within inside = absurd within
within_at (c ∷ cs) (n ∷ ns) zero d within inside = (within.0, within.1)
within_at (c ∷ cs) (n ∷ ns) (suc k) d within inside = within_at cs ns k d within.2 (omega arith)

pub column_within : (ns : List ℤ) (k : ℕ) → AreWithin columns ns → k < 12 → ((get_or columns k id_limits).least ≤ℤ number_at ns k) × (number_at ns k ≤ℤ (get_or columns k id_limits).most)
column_within ns k within inside = within_at columns ns k id_limits within inside

velocity : (v : ℤ) → (neg_ℤ (pos (2 ^ 47)) ≤ℤ v) × (v ≤ℤ pos (2 ^ 47)) → IsVelocity v
velocity v h = omega (arith, ints)

attribute : (a : ℤ) → (neg_ℤ (pos (2 ^ 40)) ≤ℤ a) × (a ≤ℤ pos (2 ^ 40)) → IsAttribute a
attribute a h = omega (arith, ints)

-- so the particle keeps its limits
pub particle_of-limits : (ns : List ℤ) → AreWithin columns ns → HasParticleLimits (particle_of ns).vel (particle_of ns).mass (particle_of ns).attr
unfolding particle_of
particle_of-limits ns within =
    let mass = column_within ns 7 within (omega arith) in
    record {
      slow = All-from_recursion IsVelocity (number_at ns 4 ∷ number_at ns 5 ∷ number_at ns 6 ∷ [])
          (velocity _ (column_within ns 4 within (omega arith)), (velocity _ (column_within ns 5 within (omega arith)), (velocity _ (column_within ns 6 within (omega arith)), tt)));
      heavy = record { positive = omega (arith, ints); fits = omega (arith, ints) };
      small = All-from_recursion IsAttribute (number_at ns 8 ∷ number_at ns 9 ∷ number_at ns 10 ∷ number_at ns 11 ∷ replicate 4 (pos 0)) (
        attribute _ (column_within ns 8 within (omega arith)),
        (
          attribute _ (column_within ns 9 within (omega arith)),
          (
            attribute _ (column_within ns 10 within (omega arith)),
            (
              attribute _ (column_within ns 11 within (omega arith)),
              (omega arith, (omega arith, (omega arith, (omega arith, tt)))),
            ),
          ),
        ),
      );
    }

-- a number that passes through 64 bits
abbrev pub read_at : List ℤ → ℕ → ℤ
read_at ns k = to_z w64 (of_z w64 (number_at ns k))

kept : (least most n : ℤ) → neg_ℤ (pos (2 ^ 47)) ≤ℤ least → most ≤ℤ pos (2 ^ 47) → (least ≤ℤ n) × (n ≤ℤ most) → to_z w64 (of_z w64 n) ≡ n
kept least most n low high within = omega (arith, ints)

-- the particle of the numbers, as the code reads them
pub read_particle : (ns : List ℤ) → AreWithin columns ns → record {
  id = unsigned_abs (read_at ns 0);
  at = record { x = unsigned_abs (read_at ns 1); y = unsigned_abs (read_at ns 2); z = unsigned_abs (read_at ns 3) };
  vel = read_at ns 4 ∷ read_at ns 5 ∷ read_at ns 6 ∷ [];
  mass = unsigned_abs (read_at ns 7);
  attr = read_at ns 8 ∷ read_at ns 9 ∷ read_at ns 10 ∷ read_at ns 11 ∷ pos 0 ∷ pos 0 ∷ pos 0 ∷ pos 0 ∷ [];
} ≡ particle_of ns
unfolding particle_of
read_particle ns within =
    let k0 = kept _ _ _ (le_z_yes tt) (le_z_yes tt) (column_within ns 0 within (omega arith)) in
    let k1 = kept _ _ _ (le_z_yes tt) (le_z_yes tt) (column_within ns 1 within (omega arith)) in
    let k2 = kept _ _ _ (le_z_yes tt) (le_z_yes tt) (column_within ns 2 within (omega arith)) in
    let k3 = kept _ _ _ (le_z_yes tt) (le_z_yes tt) (column_within ns 3 within (omega arith)) in
    let k4 = kept _ _ _ (le_z_yes tt) (le_z_yes tt) (column_within ns 4 within (omega arith)) in
    let k5 = kept _ _ _ (le_z_yes tt) (le_z_yes tt) (column_within ns 5 within (omega arith)) in
    let k6 = kept _ _ _ (le_z_yes tt) (le_z_yes tt) (column_within ns 6 within (omega arith)) in
    let k7 = kept _ _ _ (le_z_yes tt) (le_z_yes tt) (column_within ns 7 within (omega arith)) in
    let k8 = kept _ _ _ (le_z_yes tt) (le_z_yes tt) (column_within ns 8 within (omega arith)) in
    let k9 = kept _ _ _ (le_z_yes tt) (le_z_yes tt) (column_within ns 9 within (omega arith)) in
    let k10 = kept _ _ _ (le_z_yes tt) (le_z_yes tt) (column_within ns 10 within (omega arith)) in
    let k11 = kept _ _ _ (le_z_yes tt) (le_z_yes tt) (column_within ns 11 within (omega arith)) in
    λ i. record {
      id = unsigned_abs (k0 i);
      at = record { x = unsigned_abs (k1 i); y = unsigned_abs (k2 i); z = unsigned_abs (k3 i) };
      vel = k4 i ∷ k5 i ∷ k6 i ∷ [];
      mass = unsigned_abs (k7 i);
      attr = k8 i ∷ k9 i ∷ k10 i ∷ k11 i ∷ replicate 4 (pos 0);
    }
