-- The parcels of a rank while its particles are put into them.
use Rattle.std.proofs.Common.{◌≡◌, ℕ, ◌+◌, ◌<◌, true, false, cond, not, List, [], ◌∷◌, ◌++◌, length, get_or, set, take, map, nat_eq, inl, inr, refl, sym, ◌∙◌, ap, arith}
use Rattle.std.specs.List.{filter, range_with_len}
use Rattle.std.proofs.lemmas.Bool.{cases_eq, cond-true, cond-false, eq-eqb, ne_eqb, not_from_false, not_from_true}
use Rattle.std.proofs.lemmas.List.{append-nil, same_lists, length-set, get_or-set_same, get_or-set_other}
use Rattle.std.proofs.lemmas.List.Elements.{filter_more, filter-append}
use Rattle.std.proofs.lemmas.List.FromFn.{length-map-range_with_len, get_or-map-range_with_len}
use Rattle.pf_model.specs.Particle.{Particle}
use Rattle.pf_model.specs.Domains.{Multisection, owner_by}
use Rattle.exchange.specs.States.{Holding, Package, owned_by, parcel_for}

-- the particles that a rank doesn't own
abbrev pub leaving : Multisection → ℕ → List Particle → List Particle
leaving s rank js = filter (λ j. not (nat_eq (owner_by s j.at) rank)) js

-- what is put into the parcel for a rank
abbrev pub pile_for : Multisection → ℕ → List Particle → ℕ → Package
pile_for s src js dst = record { src = src; dst = dst; bodies = owned_by s dst (leaving s src js) }

abbrev pub piles : Multisection → ℕ → List Particle → ℕ → List Package
piles s src js count = map (pile_for s src js) (range_with_len 0 count)

-- a particle that stays changes no parcel
pub pile_kept : (s : Multisection) (src : ℕ) (js : List Particle) (i : ℕ) (j : Particle) → i < length js → j ≡ get_or js i j → owner_by s j.at ≡ src → leaving s src (take (i + 1) js) ≡ leaving s src (take i js)
pile_kept s src js i j within is own =
    let goes = λ (p : Particle). not (nat_eq (owner_by s p.at) src) in
    let stays : goes j ≡ false = not_from_true _ (eq-eqb (owner_by s j.at) src own) in
    filter_more goes js i j within
    ∙ ap (λ (p : Particle). leaving s src (take i js) ++ cond (goes p) (p ∷ []) []) (sym is)
    ∙ ap (λ l. leaving s src (take i js) ++ l) (cond-false (goes j) (j ∷ []) [] stays)
    ∙ append-nil (leaving s src (take i js))

-- one that leaves is put into the parcel for its owner
leaving_more : (s : Multisection) (src : ℕ) (js : List Particle) (i : ℕ) (j : Particle) → i < length js → j ≡ get_or js i j → (owner_by s j.at ≡ src → ⊥) → leaving s src (take (i + 1) js) ≡ leaving s src (take i js) ++ j ∷ []
leaving_more s src js i j within is other =
    let goes = λ (p : Particle). not (nat_eq (owner_by s p.at) src) in
    let leaves : goes j ≡ true = not_from_false _ (ne_eqb (owner_by s j.at) src other) in
    filter_more goes js i j within
    ∙ ap (λ (p : Particle). leaving s src (take i js) ++ cond (goes p) (p ∷ []) []) (sym is)
    ∙ ap (λ l. leaving s src (take i js) ++ l) (cond-true (goes j) (j ∷ []) [] leaves)

pub piles_more : (s : Multisection) (src : ℕ) (js : List Particle) (i : ℕ) (j : Particle) (count to : ℕ) (before : List Package) (old new : Package) → i < length js → j ≡ get_or js i j →
    to ≡ owner_by s j.at → (to ≡ src → ⊥) → to < count → before ≡ piles s src (take i js) count → old ≡ get_or before to old → new ≡ record old { bodies = old.bodies ++ j ∷ [] } →
    set before to new ≡ piles s src (take (i + 1) js) count
piles_more s src js i j count to before old new within is own other below were read put =
    let then = pile_for s src (take i js) in
    let now = pile_for s src (take (i + 1) js) in
    let long : length before ≡ count = ap length were ∙ length-map-range_with_len then 0 count in
    let long_now = length-map-range_with_len now 0 count in
    let long_set = length-set before to new in
    let more = leaving_more s src js i j within is (λ e. other (own ∙ e)) in
    let pile = λ (dst : ℕ).
    let e : owned_by s dst (leaving s src (take (i + 1) js)) ≡ owned_by s dst (leaving s src (take i js)) ++ cond (nat_eq (owner_by s j.at) dst) (j ∷ []) [] =
    ap (owned_by s dst) more ∙ filter-append (λ (p : Particle). nat_eq (owner_by s p.at) dst) (leaving s src (take i js)) (j ∷ []) in
    e in
    same_lists (set before to new) (piles s src (take (i + 1) js) count) (omega arith)
    (λ k d inside.
    let there : get_or (piles s src (take (i + 1) js) count) k d ≡ now k = get_or-map-range_with_len now 0 count k k d (omega arith) (omega arith) in
    elim (cases_eq k to) [
      | inl same ↦
          let old_is : old ≡ then to = read ∙ ap (λ (l : List Package). get_or l to old) were ∙ get_or-map-range_with_len then 0 count to to old below (omega arith) in
          let kept : cond (nat_eq (owner_by s j.at) to) (j ∷ []) [] ≡ j ∷ [] = cond-true (nat_eq (owner_by s j.at) to) (j ∷ []) [] (eq-eqb (owner_by s j.at) to (sym own)) in
          let bodies : old.bodies ++ j ∷ [] ≡ (now to).bodies = ap (λ (p : Package). p.bodies ++ j ∷ []) old_is ∙ ap (λ l. (then to).bodies ++ l) (sym kept) ∙ sym (pile to) in
          let new_is : new ≡ now to = put ∙ (λ m. record { src = (old_is m).src; dst = (old_is m).dst; bodies = bodies m }) in
          ap (λ (m : ℕ). get_or (set before to new) m d) same ∙ get_or-set_same before to new d (omega arith) ∙ new_is ∙ ap now (sym same) ∙ sym there
      | inr apart ↦
          let none : cond (nat_eq (owner_by s j.at) k) (j ∷ []) [] ≡ [] = cond-false (nat_eq (owner_by s j.at) k) (j ∷ []) [] (ne_eqb (owner_by s j.at) k (λ e. apart (omega arith))) in
          let bodies : (then k).bodies ≡ (now k).bodies = sym (pile k ∙ ap (λ l. (then k).bodies ++ l) none ∙ append-nil (then k).bodies) in
          let was : get_or before k d ≡ then k = ap (λ (l : List Package). get_or l k d) were ∙ get_or-map-range_with_len then 0 count k k d (omega arith) (omega arith) in
          get_or-set_other before to k new d apart ∙ was ∙ (λ m. record { src = src; dst = k; bodies = bodies m }) ∙ sym there
    ])

-- without its own parcel, a rank's parcels are those for the others
owned_leaving : (s : Multisection) (src dst : ℕ) (js : List Particle) → (dst ≡ src → ⊥) → owned_by s dst (leaving s src js) ≡ owned_by s dst js
owned_leaving s src dst [] apart = refl
owned_leaving s src dst (j ∷ js) apart =
    let own = owner_by s j.at in
    let rest = owned_leaving s src dst js apart in
    elim (cases_eq own src) [
      | inl stays ↦
          ap (owned_by s dst) (cond-false (not (nat_eq own src)) (j ∷ leaving s src js) (leaving s src js) (not_from_true _ (eq-eqb own src stays)))
          ∙ rest ∙ sym (cond-false (nat_eq own dst) (j ∷ owned_by s dst js) (owned_by s dst js) (ne_eqb own dst (λ e. apart (sym e ∙ stays))))
      | inr leaves ↦
          ap (owned_by s dst) (cond-true (not (nat_eq own src)) (j ∷ leaving s src js) (leaving s src js) (not_from_false _ (ne_eqb own src leaves)))
          ∙ (λ m. cond (nat_eq own dst) (j ∷ rest m) (rest m))
    ]

pub others_of_piles : (s : Multisection) (h : Holding) (dsts : List ℕ) →
    filter (λ p. not (nat_eq p.dst h.rank)) (map (pile_for s h.rank h.bodies) dsts) ≡ map (parcel_for s h) (filter (λ dst. not (nat_eq dst h.rank)) dsts)
others_of_piles s h [] = refl
others_of_piles s h (dst ∷ dsts) =
    let rest = others_of_piles s h dsts in
    let kept = not (nat_eq dst h.rank) in
    elim (cases_eq dst h.rank) [
      | inl own ↦
          let out : kept ≡ false = not_from_true _ (eq-eqb dst h.rank own) in
          cond-false kept _ _ out ∙ rest ∙ sym (ap (map (parcel_for s h)) (cond-false kept (dst ∷ filter (λ d. not (nat_eq d h.rank)) dsts) (filter (λ d. not (nat_eq d h.rank)) dsts) out))
      | inr other ↦
          let there : kept ≡ true = not_from_false _ (ne_eqb dst h.rank other) in
          cond-true kept _ _ there
          ∙ (λ m. record { src = h.rank; dst = dst; bodies = owned_leaving s h.rank dst h.bodies other m } ∷ rest m)
          ∙ sym (ap (map (parcel_for s h)) (cond-true kept (dst ∷ filter (λ d. not (nat_eq d h.rank)) dsts) (filter (λ d. not (nat_eq d h.rank)) dsts) there))
    ]
