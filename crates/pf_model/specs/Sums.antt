-- The moment of particles, and what a kernel sees of them.
use Rattle.std.specs.Prelude.{◌≡◌, ℕ, ◌+◌, ◌*◌, ◌/◌, ℤ, pos, ◌+ℤ◌, ◌-ℤ◌, List, [], ◌∷◌, length, sum_by, slice_index}
use Rattle.std.specs.Prelude.{slice_index_or}
use Rattle.pf_model.specs.Particle.{Particle}
use Rattle.pf_model.specs.Totals.{Totals, IsTotals, Source}

-- the sum of a whole number of each
abbrev pub int_sum_by : {X : Type 0} → (X → ℤ) → List X → ℤ
int_sum_by f [] = pos 0
int_sum_by f (x ∷ xs) = f x +ℤ int_sum_by f xs

-- the attribute ck
abbrev pub attribute : List ℤ → ℕ → ℤ
attribute attr k = slice_index_or attr k (pos 0)

-- its sum over particles
abbrev pub attribute_sum : List Particle → ℕ → ℤ
attribute_sum js k = int_sum_by (λ j. attribute j.attr k) js

-- the moment of particles
unfoldable pub moment_of : List Particle → Totals
moment_of js = record {
  count = length js;
  mass = sum_by (λ j. j.mass) js;
  weighted =
      sum_by (λ j. j.mass * j.at.x) js ∷ sum_by (λ j. j.mass * j.at.y) js ∷ sum_by (λ j. j.mass * j.at.z) js ∷ [];
  attr =
      attribute_sum js 0 ∷ attribute_sum js 1 ∷ attribute_sum js 2 ∷ attribute_sum js 3
      ∷ attribute_sum js 4 ∷ attribute_sum js 5 ∷ attribute_sum js 6 ∷ attribute_sum js 7 ∷ [];
}

-- the sums of two lists, place by place
abbrev pub pairwise_sums : List ℤ → List ℤ → List ℤ
pairwise_sums [] bs = []
pairwise_sums (a ∷ more) [] = []
pairwise_sums (a ∷ more) (b ∷ bs) = (a +ℤ b) ∷ pairwise_sums more bs

-- the moment of some particles and others, from those of both: each sum is the sum of the two
abbrev pub together : Totals → Totals → Totals
together m n =
    let weighted = λ (k : ℕ). slice_index m.weighted k + slice_index n.weighted k in
    record {
      count = m.count + n.count;
      mass = m.mass + n.mass;
      weighted = weighted 0 ∷ weighted 1 ∷ weighted 2 ∷ [];
      attr = pairwise_sums m.attr n.attr;
    }

-- some moments added up
abbrev pub all_together : List Totals → Totals
all_together [] = moment_of []
all_together (m ∷ ms) = together m (all_together ms)

-- the differences of two lists, place by place
abbrev pub pairwise_differences : List ℤ → List ℤ → List ℤ
pairwise_differences [] bs = []
pairwise_differences (a ∷ more) [] = []
pairwise_differences (a ∷ more) (b ∷ bs) = (a -ℤ b) ∷ pairwise_differences more bs

-- the moment of the others, where `all` is the moment of `some` and others
pub record IsRest (all some rest : Totals) : Type 0 where
  pub limits : IsTotals rest
  pub makes : all ≡ together some rest

-- the source that particles with this moment are: its centre is, along each axis, the floor of the weighted sum over
-- the mass
abbrev pub source_of : Totals → Source
source_of m = record {
  at = record {
    x = slice_index m.weighted 0 / m.mass;
    y = slice_index m.weighted 1 / m.mass;
    z = slice_index m.weighted 2 / m.mass;
  };
  mass = m.mass;
  attr = m.attr;
  count = m.count;
}
