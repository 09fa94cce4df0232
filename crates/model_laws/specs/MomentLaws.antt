-- Laws of moments.
use Rattle.std.specs.Prelude.{◌≡◌, ◌+◌, ◌≤◌, List, ◌++◌, length, All, IsPermutation}
use Rattle.pf_model.specs.declared.limits.TheConstants.{MOST_PARTICLES}
use Rattle.pf_model.specs.declared.entry.Entry.{Entry}
use Rattle.pf_model.specs.Particle.{Particle, IsParticle}
use Rattle.pf_model.specs.Totals.{Totals, IsTotals, IsSource}
use Rattle.pf_model.specs.Sums.{moment_of, together, source_of}
use Rattle.pf_model.specs.Sufficiency.{moment_together}

-- the moment of some particles and others is that of both together
abbrev pub MomentsAddUp : Type 0
MomentsAddUp = (is js : List Particle) → moment_of (is ++ js) ≡ together (moment_of is) (moment_of js)

-- a moment that has each of its sums
pub record HasEachSum (m : Totals) : Type 0 where
  pub three : length m.weighted ≡ 3
  pub eight : length m.attr ≡ 8

-- moments that make the same together with another one are the same
abbrev pub MomentsCancel : Type 0
MomentsCancel =
    (m n o : Totals) → HasEachSum m → HasEachSum n → HasEachSum o → together m n ≡ together m o → n ≡ o

-- the order of particles changes nothing in their moment
abbrev pub MomentsIgnoreOrder : Type 0
MomentsIgnoreOrder = (js ks : List Particle) → IsPermutation js ks → moment_of js ≡ moment_of ks

-- the moment of few particles that keep their limits keeps its own
abbrev pub MomentsKeepTheirLimits : Type 0
MomentsKeepTheirLimits = (js : List Particle) → length js ≤ MOST_PARTICLES → All IsParticle js → IsTotals (moment_of js)

-- two moments, of few enough particles together, keep them together
abbrev pub JoinedMomentsKeepTheirLimits : Type 0
JoinedMomentsKeepTheirLimits =
    (m n : Totals) → m.count + n.count ≤ MOST_PARTICLES → IsTotals m → IsTotals n → IsTotals (together m n)

-- and where there is a particle, so does the source that they are
abbrev pub SourcesKeepTheirLimits : Type 0
SourcesKeepTheirLimits = (m : Totals) → 1 ≤ m.count → IsTotals m → IsSource (source_of m)

-- moments are joined in any order
abbrev pub MomentsJoinInAnyOrder : Type 0
MomentsJoinInAnyOrder =
    ((m n : Totals) → together m n ≡ together n m) × ((m n o : Totals) →
    together (together m n) o ≡ together m (together n o))

-- so the moment of some entries and others is that of both together
abbrev pub EntriesJoinTheirMoments : Type 0
EntriesJoinTheirMoments =
    (es fs : List Entry) → moment_together (es ++ fs) ≡ together (moment_together es) (moment_together fs)

-- and the order of entries changes nothing in it
abbrev pub EntriesJoinInAnyOrder : Type 0
EntriesJoinInAnyOrder = (es fs : List Entry) → IsPermutation es fs → moment_together es ≡ moment_together fs
