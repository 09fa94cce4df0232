-- Ranks that have what they own.
use Rattle.std.proofs.Common.{◌≡◌, ℕ, List, length, get_or, map, nat_eq, ◌∙◌, ap, arith}
use Rattle.std.specs.List.Sorted.{IsStrictlyIncreasing}
use Rattle.std.proofs.lemmas.List.FromFn.{get_or-map-range_with_len, length-map-range_with_len}
use Rattle.std.proofs.lemmas.List.Sorted.{IsPermutation-refl}
use Rattle.pf_model.specs.Division.{Division, rank_count}
use Rattle.pf_model.specs.Domains.{owner, particles_of}
use Rattle.pf_model.specs.Particle.{Particle}
use Rattle.pf_model.specs.Particles.{by_id}
use Rattle.exchange.specs.States.{Holding}
use Rattle.tree_phase.specs.Trees.{HaveOwn}
use Rattle.rank_step.specs.Laws.{OwnLaws}
use Rattle.rank_step.specs.Ranks.{with_owners}
use Rattle.rank_step.proofs.DealLemmas.{rank_with}

module _ (laws : OwnLaws) (g : Division) (js : List Particle) (up : IsStrictlyIncreasing (map (λ p. p.id) js)) where
  owned : ℕ → List Particle
  owned rank = by_id (particles_of g js rank)

  owned_is : (rank : ℕ) → owned rank ≡ particles_of g js rank
  unfolding owned
  owned_is rank =
      let own = particles_of g js rank in
      laws.by_id own own (IsPermutation-refl own) (laws.some (λ j. nat_eq (owner g js j.at) rank) js ((laws.increase js).1 up))

  pub have_own : (ranks : List Holding) → ranks ≡ with_owners g js → HaveOwn g js ranks
  unfolding owned
  have_own ranks is = record {
    counted = ap length is ∙ length-map-range_with_len (rank_with owned) 0 (rank_count g);
    each = λ rank x within.
        (let long = ap length is ∙ length-map-range_with_len (rank_with owned) 0 (rank_count g) in
        ap (λ (hs : List Holding). (get_or hs rank x).bodies) is
        ∙ ap (λ (h : Holding). h.bodies) (get_or-map-range_with_len (rank_with owned) 0 (rank_count g) rank rank x (omega arith) (omega arith))
        ∙ owned_is rank);
  }
