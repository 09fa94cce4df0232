-- Sums of as few numbers as one and as many as all.
use Rattle.std.proofs.Common.{◌≡◌, ◌<◌, ◌≤◌, ◌+◌, ◌*◌, ◌^◌, ℕ, zero, suc, ℤ, pos, negsuc, ◌+ℤ◌, ◌*ℤ◌, ◌≤ℤ◌, FitsSigned, w64, Ok, List, [], ◌∷◌, length, drop, map, fold, refl, sym, ap, ap₂, ◌∙◌, arith}
use Rattle.std.specs.Int.{int_min, int_max}
use Rattle.std.proofs.lemmas.Int.{ints, clamps}
use Rattle.std.proofs.Math.IntN.{pos-*ℤ-pos, pos-*ℤ-negsuc}
use Rattle.pf_model.specs.declared.field.Field.{Field}
use Rattle.pf_model.specs.Particle.{Particle}
use Rattle.pf_num.specs.Exact.{exact}
use Rattle.kern_range.specs.declared.interval.Interval.{Interval}
use Rattle.kern_range.specs.Bodies.{of_particles, number_of_particle}
use Rattle.kern_range.proofs.IntervalLemmas.{exact-fits}

-- some times a number is no nearer to 0
times_above : (n k : ℕ) → k ≤ (n + 1) * k
times_above n k = omega (arith, ints)

grows : (n : ℕ) (x : ℤ) → pos 0 ≤ℤ x → x ≤ℤ (pos (n + 1) *ℤ x)
grows n (pos k) h = let up = times_above n k in omega (arith, ints)
grows n (negsuc k) h = absurd (omega (arith, ints))

falls : (n : ℕ) (x : ℤ) → x ≤ℤ pos 0 → (pos (n + 1) *ℤ x) ≤ℤ x
falls n (pos zero) h = omega (arith, ints)
falls n (pos (suc k)) h = absurd (omega (arith, ints))
falls n (negsuc k) h = let up = times_above n (suc k) in omega (arith, ints)

pub least_kept : (n : ℕ) (x : ℤ) → FitsSigned w64 x → pos 0 ≤ℤ x → Ok x ≡ exact (int_min x (pos (n + 1) *ℤ x))
least_kept n x f h = sym (ap exact (let up = grows n x h in omega (arith, ints, clamps)) ∙ exact-fits x f)

pub greatest_kept : (n : ℕ) (x : ℤ) → FitsSigned w64 x → x ≤ℤ pos 0 → Ok x ≡ exact (int_max x (pos (n + 1) *ℤ x))
greatest_kept n x f h = sym (ap exact (let down = falls n x h in omega (arith, ints, clamps)) ∙ exact-fits x f)

pub least_taken : (n : ℕ) (x : ℤ) → x ≤ℤ pos 0 → int_min x (pos (n + 1) *ℤ x) ≡ pos (n + 1) *ℤ x
least_taken n x h = let down = falls n x h in omega (arith, ints, clamps)

pub greatest_taken : (n : ℕ) (x : ℤ) → pos 0 ≤ℤ x → int_max x (pos (n + 1) *ℤ x) ≡ pos (n + 1) *ℤ x
greatest_taken n x h = let up = grows n x h in omega (arith, ints, clamps)

-- ---- the numbers of all particles

none_left : (bs : List Particle) (k : ℕ) → length bs ≤ k → drop k bs ≡ []
none_left [] zero h = refl
none_left [] (suc k) h = refl
none_left (b ∷ bs) zero h = absurd (omega (arith, h))
none_left (b ∷ bs) (suc k) h = none_left bs k (omega (arith, h))

pub all_taken : (first : Particle) (others : List Particle) (of : Field) (all : Interval) (k : ℕ) → length others ≤ k
    → fold int_min all.least (map (number_of_particle of) (drop k others)) ≡ (of_particles first others of).least
    → fold int_max all.greatest (map (number_of_particle of) (drop k others)) ≡ (of_particles first others of).greatest
    → all ≡ of_particles first others of
all_taken first others of all k h e f =
    let least = ap (λ (bs : List Particle). fold int_min all.least (map (number_of_particle of) bs)) (sym (none_left others k h)) ∙ e in
    let greatest = ap (λ (bs : List Particle). fold int_max all.greatest (map (number_of_particle of) bs)) (sym (none_left others k h)) ∙ f in
    ap₂ (λ (l g : ℤ). record { least = l; greatest = g }) least greatest
