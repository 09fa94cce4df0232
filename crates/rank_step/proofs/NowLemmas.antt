-- Particles where they are now, found by their ids.
use Rattle.std.proofs.Common.{◌≡◌, ℕ, ◌<◌, List, [], ◌∷◌, ◌++◌, length, get_or, map, refl, sym, ◌∙◌, ap, subst, arith}
use Rattle.std.specs.List.{Contains}
use Rattle.std.specs.List.Sorted.{IsPermutation, IsStrictlyIncreasing}
use Rattle.std.proofs.lemmas.List.{get_or-map, length-map, map-append, same_lists}
use Rattle.std.proofs.lemmas.List.Elements.{Contains-get_or}
use Rattle.std.proofs.lemmas.List.Sorted.{IsPermutation-map}
use Rattle.pf_model.specs.Division.{Division}
use Rattle.pf_model.specs.Particle.{Particle}
use Rattle.pf_model.specs.Reuse.{as_in}
use Rattle.pf_model.specs.declared.entry.Entry.TheVariants.{One}
use Rattle.exchange.specs.States.{Holding}
use Rattle.exchange.specs.ExchangeLaws.{particles_held}
use Rattle.rank_step.specs.Laws.{NowLaws}
use Rattle.rank_step.specs.Ranks.{HaveTogether, held_now}

same_one : (p q : Particle) → One p ≡ One q → p ≡ q
same_one p q e = cc

module _ (laws : NowLaws) (now : List Particle) (up : IsStrictlyIncreasing (map (λ p. p.id) now)) where
  -- a particle is found by its id
  pub found : (p q : Particle) → Contains now q → q.id ≡ p.id → as_in now p ≡ q
  found p q has same = same_one (as_in now p) q (laws.found now [] p q (laws.differ now ((laws.increase now).1 up)) has same)

  module _ (built : List Particle) (same : map (λ (p : Particle). p.id) built ≡ map (λ (p : Particle). p.id) now) where
    as_many : length built ≡ length now
    as_many = sym (length-map built (λ (p : Particle). p.id)) ∙ ap length same ∙ length-map now (λ (p : Particle). p.id)

    same_at : (k : ℕ) (d : Particle) → k < length built → (get_or now k d).id ≡ (get_or built k d).id
    same_at k d within =
        let many = as_many in
        sym (get_or-map (λ (p : Particle). p.id) now k d 0 (omega arith)) ∙ ap (λ (ids : List ℕ). get_or ids k 0) (sym same) ∙ get_or-map (λ (p : Particle). p.id) built k d 0 within

    found_at : (k : ℕ) (d : Particle) → k < length built → as_in now (get_or built k d) ≡ get_or now k d
    found_at k d within =
        let many = as_many in
        found (get_or built k d) (get_or now k d) (Contains-get_or now k d (omega arith)) (same_at k d within)

    -- those with the ids of some particles are now these
    pub all_now : map (as_in now) built ≡ now
    all_now =
        let long = length-map built (as_in now) in
        same_lists (map (as_in now) built) now (long ∙ as_many)
        (λ k d within. (let inside : k < length built = omega arith in get_or-map (as_in now) built k d d inside ∙ found_at k d inside))

    pub id_now : (p : Particle) → Contains built p → (as_in now p).id ≡ p.id
    id_now p (k, within, is) =
        ap (λ (q : Particle). (as_in now q).id) (sym is) ∙ ap (λ (q : Particle). q.id) (found_at k p within) ∙ same_at k p within
        ∙ ap (λ (q : Particle). q.id) is

-- ---- what ranks have, as it is now

numbers_now : (now : List Particle) (ranks : List Holding) → map (λ (h : Holding). h.rank) (map (held_now now) ranks) ≡ map (λ (h : Holding). h.rank) ranks
numbers_now now [] = refl
numbers_now now (h ∷ hs) = ap (λ rest. h.rank ∷ rest) (numbers_now now hs)

held_is : (now : List Particle) (ranks : List Holding) → particles_held (map (held_now now) ranks) ≡ map (as_in now) (particles_held ranks)
held_is now [] = refl
held_is now (h ∷ hs) = ap (λ rest. map (as_in now) h.bodies ++ rest) (held_is now hs) ∙ sym (map-append (as_in now) h.bodies (particles_held hs))

pub together_now : NowLaws → (g : Division) (now built : List Particle) (ranks : List Holding) → IsStrictlyIncreasing (map (λ p. p.id) now) → map (λ p. p.id) built ≡ map (λ p. p.id) now → HaveTogether g built ranks → HaveTogether g now (map (held_now now) ranks)
together_now laws g now built ranks up same have = record {
  by_number = numbers_now now ranks ∙ have.by_number;
  all =
      subst (λ (l : List Particle). IsPermutation l (particles_held (map (held_now now) ranks))) (all_now laws now up built same)
      (subst (IsPermutation (map (as_in now) built)) (sym (held_is now ranks)) (IsPermutation-map (as_in now) built (particles_held ranks) have.all));
}
