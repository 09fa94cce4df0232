-- Laws of ids.
use Rattle.std.specs.Prelude.{◌≡◌, Bool, List, filter, Contains, IsPermutation}
use Rattle.pf_model.specs.Particle.{Particle}
use Rattle.pf_model.specs.Particles.{HaveDistinctIds}

-- of particles with distinct ids, those with one id are one
abbrev pub ParticlesOfOneIdAreOne : Type 0
ParticlesOfOneIdAreOne =
    (js : List Particle) (p q : Particle) → HaveDistinctIds js → Contains js p → Contains js q → p.id ≡ q.id → p ≡ q

-- the order of particles changes nothing in this
abbrev pub DistinctIdsIgnoreOrder : Type 0
DistinctIdsIgnoreOrder = (js ks : List Particle) → IsPermutation js ks → HaveDistinctIds js → HaveDistinctIds ks

-- and some of them have distinct ids too
abbrev pub SomeHaveDistinctIds : Type 0
SomeHaveDistinctIds =
    (test : Particle → Bool) (js : List Particle) → HaveDistinctIds js → HaveDistinctIds (filter test js)
