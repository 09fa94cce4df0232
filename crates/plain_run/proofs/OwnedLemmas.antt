-- The particles that a rank owns.
use Rattle.std.proofs.Common.{◌≡◌, ℕ, ◌<◌, ◌≤◌, Bool, true, false, List, [], ◌∷◌, length, refl, subst, eqb-true, arith}
use Rattle.std.specs.Prelude.{nat_eq}
use Rattle.std.specs.List.{All, filter}
use Rattle.std.proofs.lemmas.List.Elements.{All-head, All-tail}
use Rattle.std.proofs.lemmas.List.Sums.{count_by-le-length, length-filter}
use Rattle.pf_geom.specs.Position.{IsPosition}
use Rattle.pf_geom.specs.Bounds.{IsBox}
use Rattle.pf_model.specs.Particle.{Particle}
use Rattle.pf_model.specs.Particles.{AreBodies}
use Rattle.model_laws.specs.ParticleLaws.{SomeHaveDistinctIds}
use Rattle.pf_model.specs.Division.{Division, IsDivision, rank_count}
use Rattle.pf_model.specs.Domains.{owner, particles_of, domain_box}
use Rattle.model_laws.specs.DomainLaws.{OwnersAreRanks, DomainBoxesHoldWhatIsOwned}

-- some of a list of bodies are such a list
pub some_are_bodies : SomeHaveDistinctIds → (test : Particle → Bool) (js : List Particle) → AreBodies js → AreBodies (filter test js)
some_are_bodies law test js h = record {
  few = (let long = length-filter test js in let most = count_by-le-length test js in let few = h.few in omega arith);
  distinct = law test js h.distinct;
}

some_found : (test : Particle → Bool) (P : Particle → Type 0) (j : Particle) (js : List Particle) (b : Bool) → test j ≡ b → P j
    → (1 ≤ length (filter test js) → (k : Particle) × P k × (test k ≡ true)) → 1 ≤ length (filter test (j ∷ js)) → (k : Particle) × P k × (test k ≡ true)
some_found test P j js true e here later some = (j, here, e)
some_found test P j js false e here later some = later (subst (λ (l : List Particle). 1 ≤ length l) (rw e refl) some)

-- one that passes the test, where some do
found : (test : Particle → Bool) (P : Particle → Type 0) (js : List Particle) → All P js → 1 ≤ length (filter test js) → (k : Particle) × P k × (test k ≡ true)
found test P [] all some = absurd (omega arith)
found test P (j ∷ js) all some = some_found test P j js (test j) refl (All-head P j js all) (found test P js (All-tail P j js all)) some

-- a rank with a particle is one of the ranks
pub owning_rank : OwnersAreRanks → (g : Division) (js : List Particle) (rank : ℕ) → IsDivision g → All (λ j. IsPosition j.at) js → 1 ≤ length (particles_of g js rank) → rank < rank_count g
owning_rank law g js rank division places some =
    let one = found (λ j. nat_eq (owner g js j.at) rank) (λ j. IsPosition j.at) js places some in
    subst (λ (n : ℕ). n < rank_count g) (eqb-true (owner g js one.0.at) rank one.2) (law g js one.0.at division)

-- and its domain box is a box
pub owning_box : DomainBoxesHoldWhatIsOwned → (g : Division) (js : List Particle) (rank : ℕ) → IsDivision g → All (λ j. IsPosition j.at) js → 1 ≤ length (particles_of g js rank) → IsBox (domain_box g js rank)
owning_box law g js rank division places some =
    let one = found (λ j. nat_eq (owner g js j.at) rank) (λ j. IsPosition j.at) js places some in
    subst (λ (n : ℕ). IsBox (domain_box g js n)) (eqb-true (owner g js one.0.at) rank one.2) (law g js one.0.at division places one.1).0
