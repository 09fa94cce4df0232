-- Lists of particles.
use Rattle.std.specs.Prelude.{◌≤◌, ◌<◌, List, AllPairs, length, map, nat_eq, nat_lt, IsPermutation}
use Rattle.std.specs.List.{IsDistinct, IsDistinct-prop}
use Rattle.std.proofs.Props.{props}
use Rattle.pf_model.specs.declared.limits.TheConstants.{MOST_PARTICLES}
use Rattle.pf_model.specs.Particle.{Particle}
use Rattle.order_laws.specs.Order.{in_order_once}

-- no two particles have one id
abbrev pub HaveDistinctIds : List Particle → Type 0
HaveDistinctIds js = IsDistinct nat_eq (map (λ j. j.id) js)

-- the same particles, maybe at other places and in another order: they have the same ids
abbrev pub HaveSameIds : List Particle → List Particle → Type 0
HaveSameIds js ks = IsPermutation (map (λ j. j.id) js) (map (λ k. k.id) ks)

-- the particles that a run can have: few, and of distinct ids
pub record AreBodies (js : List Particle) : Type 0 where
  pub few : length js ≤ MOST_PARTICLES
  pub distinct : HaveDistinctIds js

-- this holds in one way
pub AreBodies-prop : (js : List Particle) → IsProp (AreBodies js)
AreBodies-prop js = hlevel (props, IsDistinct-prop nat_eq (map (λ j. j.id) js))

-- ids ascend
abbrev pub AreInIdOrder : List Particle → Type 0
AreInIdOrder js = AllPairs (λ i j. i.id < j.id) js

-- the particles in the order of their ids
abbrev pub by_id : List Particle → List Particle
by_id js = in_order_once (λ p q. nat_lt p.id q.id) js
