-- The limits of moments and sources.
use Rattle.std.proofs.Common.{◌≡◌, ℕ, ◌+◌, ◌-◌, ◌*◌, ◌/◌, ◌^◌, ◌<◌, ◌≤◌, ℤ, pos, unsigned_abs, List, [], ◌∷◌, length, get_or, refl, sym, ◌∙◌, subst, arith}
use Rattle.std.specs.List.{All}
use Rattle.std.proofs.Math.Nat.{mul-le-mul_left}
use Rattle.std.proofs.lemmas.Nat.{div_below}
use Rattle.std.proofs.lemmas.List.Elements.{All-head, All-tail, All-replicate, All-weaker}
use Rattle.pf_model.specs.Particle.{Particle, IsParticle, IsAttribute}
use Rattle.pf_model.specs.Totals.{IsTotals}
use Rattle.pf_model.specs.Sums.{moment_of, pairwise_sums}
use Rattle.model_laws.specs.MomentLaws.{MomentsKeepTheirLimits, JoinedMomentsKeepTheirLimits, SourcesKeepTheirLimits}
use Rattle.pf_model.proofs.MomentLemmas.{IsSumOf-pairwise, inside-sums, three_of, weighted_at, attributes_of_one, count-moment_of, moment_of-append}

length-pairwise_sums : (xs ys : List ℤ) → length xs ≡ length ys → length (pairwise_sums xs ys) ≡ length ys
length-pairwise_sums [] [] e = refl
length-pairwise_sums [] (y ∷ ys) e = absurd (omega arith)
length-pairwise_sums (x ∷ xs) [] e = absurd (omega arith)
length-pairwise_sums (x ∷ xs) (y ∷ ys) e = let h = length-pairwise_sums xs ys (omega arith) in omega arith

pub IsTotals-together : JoinedMomentsKeepTheirLimits
IsTotals-together m n few p q = record {
  three = refl;
  eight = length-pairwise_sums m.attr n.attr (p.eight ∙ sym q.eight) ∙ q.eight;
  limits = record {
    sums = IsSumOf-pairwise m.count m.mass n.count n.mass m.attr n.attr few p.limits.sums q.limits.sums;
    inside = inside-sums m.mass n.mass m.weighted n.weighted p.limits.inside q.limits.inside;
  };
}

IsTotals-none : IsTotals (moment_of [])
unfolding moment_of
IsTotals-none = record {
  three = refl;
  eight = refl;
  limits = record {
    sums = record {
      few = omega arith;
      heavy = omega arith;
      light = omega arith;
      small = All-replicate (λ a. unsigned_abs a ≤ 0 * 2 ^ 40) 8 (pos 0) (omega arith);
    };
    inside = three_of (λ w. w ≤ 0 * (2 ^ 30 - 1)) 0 0 0 (omega arith) (omega arith) (omega arith);
  };
}

weighted_fits : (mass x : ℕ) → x < 2 ^ 30 → 0 + mass * x ≤ (0 + mass) * (2 ^ 30 - 1)
weighted_fits mass x fits =
    let inside : x ≤ 2 ^ 30 - 1 = omega arith in
    let most : mass * x ≤ mass * (2 ^ 30 - 1) = mul-le-mul_left mass inside in
    omega arith

IsTotals-one : (j : Particle) → IsParticle j → IsTotals (moment_of (j ∷ []))
unfolding moment_of
IsTotals-one j h =
    let heavy = h.limits.heavy in
    let P : List ℤ → Type 0 = λ l. All (λ a. unsigned_abs a ≤ 1 * 2 ^ 40) l in
    let small : All (λ a. unsigned_abs a ≤ 1 * 2 ^ 40) j.attr = All-weaker IsAttribute (λ a. unsigned_abs a ≤ 1 * 2 ^ 40) (λ a e. omega arith) j.attr h.limits.small in
    record {
      three = refl;
      eight = refl;
      limits = record {
        sums = record {
          few = omega arith;
          heavy = (let positive = heavy.positive in omega arith);
          light = (let fits = heavy.fits in omega arith);
          small = subst P (attributes_of_one j.attr h.eight) small;
        };
        inside =
            three_of (λ w. w ≤ (0 + j.mass) * (2 ^ 30 - 1)) _ _ _
            (weighted_fits j.mass j.at.x h.in_cube.x_fits) (weighted_fits j.mass j.at.y h.in_cube.y_fits) (weighted_fits j.mass j.at.z h.in_cube.z_fits);
      };
    }

pub moments_keep_their_limits : MomentsKeepTheirLimits
moments_keep_their_limits [] few each = IsTotals-none
moments_keep_their_limits (j ∷ js) few each =
    let one = IsTotals-one j (All-head IsParticle j js each) in
    let more = moments_keep_their_limits js (omega arith) (All-tail IsParticle j js each) in
    let counts : (moment_of (j ∷ [])).count + (moment_of js).count ≤ 65536 = rw (count-moment_of (j ∷ []), count-moment_of js) (omega arith) in
    subst IsTotals (sym (moment_of-append (j ∷ []) js)) (IsTotals-together (moment_of (j ∷ [])) (moment_of js) counts one more)

-- a mean of coordinates is a coordinate
mean_fits : (w mass : ℕ) → 1 ≤ mass → w ≤ mass * (2 ^ 30 - 1) → w / mass < 2 ^ 30
mean_fits w mass some inside = div_below w mass (2 ^ 30) (omega arith) (omega arith)

pub sources_keep_their_limits : SourcesKeepTheirLimits
sources_keep_their_limits m some h =
    let sums = h.limits.sums in
    let positive : 1 ≤ m.mass = (let heavy = sums.heavy in omega arith) in
    let fits : (k : ℕ) → get_or m.weighted k 0 / m.mass < 2 ^ 30 = λ k. mean_fits (get_or m.weighted k 0) m.mass positive (weighted_at (m.mass * (2 ^ 30 - 1)) m.weighted k h.limits.inside) in
    record {
      in_cube = record { x_fits = fits 0; y_fits = fits 1; z_fits = fits 2 };
      eight = h.eight;
      limits = record { some = some; sums = sums };
    }
