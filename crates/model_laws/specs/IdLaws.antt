-- Laws of the order by ids.
use Rattle.std.specs.Prelude.{◌≡◌, ◌↔◌, Bool, List, map, filter, Contains, IsPermutation}
use Rattle.std.specs.List.Sorted.{IsStrictlyIncreasing}
use Rattle.pf_model.specs.Particle.{Particle}
use Rattle.pf_model.specs.Particles.{HaveDistinctIds, AreInIdOrder, by_id}

-- particles of distinct ids have one order by ids, whatever the order in which they are given
abbrev pub OrdersByIdAreOne : Type 0
OrdersByIdAreOne = (js ks : List Particle) → HaveDistinctIds js → IsPermutation js ks → by_id js ≡ by_id ks

-- no id comes twice in it
abbrev pub OrdersByIdHaveDistinctIds : Type 0
OrdersByIdHaveDistinctIds = (js : List Particle) → HaveDistinctIds (by_id js)

-- and it has the same particles
abbrev pub OrdersByIdKeepParticles : Type 0
OrdersByIdKeepParticles =
    (js : List Particle) (p : Particle) → HaveDistinctIds js → Contains (by_id js) p ↔ Contains js p

-- all of them
abbrev pub OrdersByIdHaveAll : Type 0
OrdersByIdHaveAll = (js : List Particle) → HaveDistinctIds js → IsPermutation js (by_id js)

-- each once, by ascending id
abbrev pub OrdersByIdAscend : Type 0
OrdersByIdAscend = (js : List Particle) → AreInIdOrder (by_id js)

-- no other list of these particles ascends by id
abbrev pub AscendingIsById : Type 0
AscendingIsById = (js ps : List Particle) → IsPermutation js ps → AreInIdOrder ps → by_id js ≡ ps

-- where the ids ascend, they differ
abbrev pub AscendingIdsDiffer : Type 0
AscendingIdsDiffer = (js : List Particle) → AreInIdOrder js → HaveDistinctIds js

-- the ids ascend exactly where they are strictly increasing numbers
abbrev pub AscendingIdsIncrease : Type 0
AscendingIdsIncrease = (js : List Particle) → AreInIdOrder js ↔ IsStrictlyIncreasing (map (λ j. j.id) js)

-- those of some of the particles ascend too
abbrev pub SomeIdsAscendToo : Type 0
SomeIdsAscendToo = (test : Particle → Bool) (js : List Particle) → AreInIdOrder js → AreInIdOrder (filter test js)
