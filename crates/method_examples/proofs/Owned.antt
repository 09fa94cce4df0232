-- The bodies that a rank owns, by the cuts that all bodies make.
use Rattle.std.proofs.Common.{◌≡◌, ℕ, Bool, List, length, filter, nat_eq, ◌∙◌, ap, sym, subst, arith}
use Rattle.std.proofs.lemmas.List.Sums.{length-filter, count_by-le-length}
use Rattle.pf_model.specs.Particle.{Particle}
use Rattle.pf_model.specs.Particles.{AreBodies}
use Rattle.model_laws.specs.ParticleLaws.{SomeHaveDistinctIds}
use Rattle.pf_model.specs.Division.{Division}
use Rattle.pf_model.specs.Domains.{Multisection, cuts_for, owner_by, owner, particles_of}

pub owned_are : (g : Division) (js own : List Particle) (cuts : Multisection) (rank : ℕ) → cuts ≡ cuts_for g js → own ≡ filter (λ j. nat_eq (owner_by cuts j.at) rank) js → own ≡ particles_of g js rank
unfolding owner
owned_are g js own cuts rank is owned = owned ∙ ap (λ (s : Multisection). filter (λ j. nat_eq (owner_by s j.at) rank) js) is

pub some_are_bodies : SomeHaveDistinctIds → (test : Particle → Bool) (js own : List Particle) → own ≡ filter test js → AreBodies js → AreBodies own
some_are_bodies law test js own is bodies =
    let few = bodies.few in
    let kept = length-filter test js in
    let short = count_by-le-length test js in
    let long = ap length is in
    subst AreBodies (sym is) (record { few = omega arith; distinct = law test js bodies.distinct })
