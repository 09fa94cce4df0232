-- The particles of all ranks, before and after they change ranks.
use Rattle.std.proofs.Common.{◌≡◌, ℕ, zero, suc, ◌+◌, ◌<◌, ◌≤◌, Bool, not, List, [], ◌∷◌, ◌++◌, length, get_or, map, nat_eq, refl, sym, ◌∙◌, ap, subst, arith}
use Rattle.std.specs.List.{filter, flat_map, range_with_len, Contains}
use Rattle.std.specs.List.Sorted.{IsPermutation}
use Rattle.std.proofs.lemmas.Bool.{cond-true, cond-false, eqb-true, eq-eqb, ne_eqb}
use Rattle.std.proofs.lemmas.List.Folds.{flat_map-map}
use Rattle.std.proofs.lemmas.List.Elements.{filter-append}
use Rattle.std.proofs.lemmas.List.Sums.{count_by-le-length, length-filter}
use Rattle.std.proofs.lemmas.List.Sorted.{IsPermutation-refl, IsPermutation-trans, IsPermutation-append_right, IsPermutation-filter_both, length_permutation}
use Rattle.pf_model.specs.Particle.{Particle}
use Rattle.model_laws.specs.ParticleLaws.{DistinctIdsIgnoreOrder, SomeHaveDistinctIds}
use Rattle.model_laws.specs.IdLaws.{OrdersByIdAreOne, OrdersByIdHaveDistinctIds, OrdersByIdKeepParticles}
use Rattle.pf_model.specs.Division.{rank_count}
use Rattle.pf_model.specs.Domains.{Multisection, owner_by}
use Rattle.exchange.specs.States.{Holding, Package, owned_by, left_with, parcel_for, joined}
use Rattle.exchange.specs.ExchangeLaws.{AreOfAllRanks, particles_held, parcels_to, EachRankHasItsOwn, EachParticleIsWithItsOwner}
use Rattle.order_laws.specs.OrderLaws.{PartsKeepPermutations, TestsKeepWhatPasses}

filter-flat_map : {E F : Type 0} (p : F → Bool) (f : E → List F) (xs : List E) → filter p (flat_map f xs) ≡ flat_map (λ x. filter p (f x)) xs
filter-flat_map p f [] = refl
filter-flat_map p f (x ∷ xs) = filter-append p (f x) (flat_map f xs) ∙ ap (λ l. filter p (f x) ++ l) (filter-flat_map p f xs)

tail_of : List ℕ → List ℕ
tail_of [] = []
tail_of (n ∷ ns) = ns

-- of states with one rank after another, one has a given rank
none_before : (hs : List Holding) (start len n : ℕ) → map (λ (h : Holding). h.rank) hs ≡ range_with_len start len → n < start → filter (λ h. nat_eq h.rank n) hs ≡ []
none_before [] start len n e less = refl
none_before (h ∷ hs) start zero n e less = absurd (cc)
none_before (h ∷ hs) start (suc len) n e less =
    let head : h.rank ≡ start = cc in
    let tail : map (λ (k : Holding). k.rank) hs ≡ range_with_len (start + 1) len = cc in
    cond-false (nat_eq h.rank n) (h ∷ filter (λ k. nat_eq k.rank n) hs) (filter (λ k. nat_eq k.rank n) hs) (ne_eqb h.rank n (λ f. omega arith)) ∙ none_before hs (start + 1) len n tail (omega arith)

at_least : (hs : List Holding) (start len k : ℕ) (d : Holding) → map (λ (h : Holding). h.rank) hs ≡ range_with_len start len → k < length hs → start ≤ (get_or hs k d).rank
at_least [] start len k d e within = absurd (omega arith)
at_least (h ∷ hs) start zero k d e within = absurd (cc)
at_least (h ∷ hs) start (suc len) zero d e within = (let head : h.rank ≡ start = cc in omega arith)
at_least (h ∷ hs) start (suc len) (suc k) d e within =
    let tail : map (λ (j : Holding). j.rank) hs ≡ range_with_len (start + 1) len = cc in
    let rest = at_least hs (start + 1) len k d tail (omega arith) in
    omega arith

only_one : (hs : List Holding) (start len : ℕ) (h : Holding) → map (λ (k : Holding). k.rank) hs ≡ range_with_len start len → Contains hs h → filter (λ k. nat_eq k.rank h.rank) hs ≡ h ∷ []
only_one [] start len h e (k, within, is) = absurd (omega arith)
only_one (j ∷ hs) start zero h e there = absurd (cc)
only_one (j ∷ hs) start (suc len) h e (zero, within, is) =
    let head : j.rank ≡ start = cc in
    let tail : map (λ (k : Holding). k.rank) hs ≡ range_with_len (start + 1) len = cc in
    let same : j.rank ≡ h.rank = ap (λ (k : Holding). k.rank) is in
    cond-true (nat_eq j.rank h.rank) (j ∷ filter (λ k. nat_eq k.rank h.rank) hs) (filter (λ k. nat_eq k.rank h.rank) hs) (eq-eqb j.rank h.rank same)
    ∙ (λ i. is i ∷ none_before hs (start + 1) len h.rank tail (omega arith) i)
only_one (j ∷ hs) start (suc len) h e (suc k, within, is) =
    let head : j.rank ≡ start = cc in
    let tail : map (λ (i : Holding). i.rank) hs ≡ range_with_len (start + 1) len = cc in
    let later = at_least hs (start + 1) len k h tail (omega arith) in
    let same : (get_or hs k h).rank ≡ h.rank = ap (λ (i : Holding). i.rank) is in
    cond-false (nat_eq j.rank h.rank) (j ∷ filter (λ i. nat_eq i.rank h.rank) hs) (filter (λ i. nat_eq i.rank h.rank) hs) (ne_eqb j.rank h.rank (λ f. omega arith))
    ∙ only_one hs (start + 1) len h tail (k, omega arith, is)

-- what a rank owns of all particles is what is left to it and what comes
owned_is_joined : PartsKeepPermutations Holding Particle → PartsKeepPermutations Package Particle → (s : Multisection) (hs : List Holding) (h : Holding) (parcels : List Package) → AreOfAllRanks s hs → Contains hs h → IsPermutation (parcels_to s hs h.rank) parcels →
    IsPermutation (owned_by s h.rank (particles_held hs)) (joined (left_with s h).bodies parcels)
owned_is_joined of_states of_parcels s hs h parcels ranks there come =
    let own = λ (k : Holding). owned_by s h.rank k.bodies in
    let here = λ (k : Holding). nat_eq k.rank h.rank in
    let others : List Holding = filter (λ k. not (nat_eq k.rank h.rank)) hs in
    let each : owned_by s h.rank (particles_held hs) ≡ flat_map own hs = filter-flat_map (λ (j : Particle). nat_eq (owner_by s j.at) h.rank) (λ (k : Holding). k.bodies) hs in
    let split : IsPermutation (flat_map own hs) (flat_map own (filter here hs ++ others)) =
    of_states own own hs (filter here hs ++ others) (λ k. IsPermutation-refl (own k)) (IsPermutation-filter_both here (λ (k : Holding). not (nat_eq k.rank h.rank)) (λ k. refl) hs) in
    let parts : flat_map own (filter here hs ++ others) ≡ own h ++ flat_map own others =
    ap (λ (l : List Holding). flat_map own (l ++ others)) (only_one hs 0 (rank_count s.grid) h ranks there) in
    let sent : flat_map (λ (p : Package). p.bodies) (parcels_to s hs h.rank) ≡ flat_map own others = flat_map-map (λ (p : Package). p.bodies) (λ (k : Holding). parcel_for s k h.rank) others in
    let arrived : IsPermutation (flat_map own others) (flat_map (λ (p : Package). p.bodies) parcels) =
    subst (λ (l : List Particle). IsPermutation l (flat_map (λ (p : Package). p.bodies) parcels)) sent (of_parcels (λ p. p.bodies) (λ p. p.bodies) (parcels_to s hs h.rank) parcels (λ p. IsPermutation-refl p.bodies) come) in
    let whole : IsPermutation (flat_map own hs) (own h ++ flat_map own others) = subst (IsPermutation (flat_map own hs)) parts split in
    subst (λ (l : List Particle). IsPermutation l (joined (left_with s h).bodies parcels)) (sym each)
    (IsPermutation-trans (flat_map own hs) (own h ++ flat_map own others) (joined (left_with s h).bodies parcels) whole (IsPermutation-append_right (own h) (flat_map own others) (flat_map (λ (p : Package). p.bodies) parcels) arrived))

pub each_rank_has_its_own : DistinctIdsIgnoreOrder → OrdersByIdAreOne → SomeHaveDistinctIds → PartsKeepPermutations Holding Particle → PartsKeepPermutations Package Particle → EachRankHasItsOwn
each_rank_has_its_own ignore one some of_states of_parcels s hs h parcels ranks bodies there come =
    let test = λ (j : Particle). nat_eq (owner_by s j.at) h.rank in
    let owned : List Particle = owned_by s h.rank (particles_held hs) in
    let all : List Particle = joined (left_with s h).bodies parcels in
    let same = owned_is_joined of_states of_parcels s hs h parcels ranks there come in
    let apart = some test (particles_held hs) bodies.distinct in
    let kept = length-filter test (particles_held hs) in
    let most = count_by-le-length test (particles_held hs) in
    let long = length_permutation owned all same in
    let few = bodies.few in
    record {
      are_bodies = record { few = omega arith; distinct = ignore owned all same apart };
      same = same;
      ordered = sym (one owned all apart same);
    }

pub each_particle_is_with_its_owner : OrdersByIdHaveDistinctIds → OrdersByIdKeepParticles → SomeHaveDistinctIds → TestsKeepWhatPasses Particle → EachParticleIsWithItsOwner
each_particle_is_with_its_owner distinct keep some tests s js rank apart =
    let test = λ (j : Particle). nat_eq (owner_by s j.at) rank in
    let owned : List Particle = owned_by s rank js in (
      distinct owned,
      λ j.
          let kept = keep owned j (some test js apart) in (
            λ there. (let both = (tests test js j).0 (kept.0 there) in (both.0, eqb-true (owner_by s j.at) rank both.1)),
            λ both. kept.1 ((tests test js j).1 (both.0, eq-eqb (owner_by s j.at) rank both.1)),
          ),
    )
