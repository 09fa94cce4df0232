-- What stands at the places that an index tells.
use Rattle.std.proofs.Common.{◌≡◌, ℕ, zero, suc, ◌+◌, ◌-◌, ◌/◌, ◌^◌, ◌<◌, ◌≤◌, Bool, true, false, List, [], ◌∷◌, ◌++◌, length, get_or, map, take, inl, inr, Option, Some, None, slice_get, refl, sym, ◌∙◌, ap, subst, arith, ltb, leb, nat_eq}
use Rattle.std.specs.List.{Contains, IsDistinct}
use Rattle.std.specs.List.Sorted.{IsPartitionPoint, IsNonDecreasing, IsNonDecreasingBy, IsPermutation}
use Rattle.std.proofs.lemmas.Bool.{cases_lt, ltb-true, ltb-false, leb-true, leb-false, eqb-true, eqb-false, eq-eqb, and_parts, and_from, true≢false}
use Rattle.std.proofs.lemmas.List.{length-map, get_or-map, get_or_default, take_more, take_all, map-append}
use Rattle.std.proofs.lemmas.List.Elements.{All-from_recursion, Contains-push, Contains-push_cases, Contains-append_left}
use Rattle.std.proofs.lemmas.Option.{slice_get_within, slice_get-get_or, get_or_from_slice_get}
use Rattle.std.proofs.lemmas.List.Sorted.{Contains-permutation, IsPermutation-sym}
use Rattle.pf_geom.specs.Octant.{Octant}
use Rattle.pf_model.specs.declared.entry.Entry.{Entry}
use Rattle.pf_model.specs.declared.entry.Entry.TheVariants.{Cell, One}
use Rattle.pf_model.specs.Particle.{Particle}
use Rattle.pf_model.specs.Totals.{Totals}
use Rattle.pf_model.specs.Particles.{HaveDistinctIds}
use Rattle.pf_model.specs.Sufficiency.{lies_in}
use Rattle.morton_tree.specs.Tree.{IsInKeyOrder}
use Rattle.morton_tree.specs.declared.span.Span.{Span}
use Rattle.group_lists.specs.declared.item_index.IdPlace.{IdPlace}
use Rattle.group_lists.specs.declared.item_index.ItemIndex.{ItemIndex}
use Rattle.group_lists.specs.Keyed.{item_key}
use Rattle.group_lists.specs.Listing.{IsSpanOf}
use Rattle.group_lists.specs.Indexed.{IsParticleAt, AreIdsOf, HaveDistinctPlaces, IsIndexOf, LieByPlace, as_items}
use Rattle.group_lists.proofs.KeyedLemmas.{is_cell_of, is_lower, place_key, keys_rise}
use Rattle.group_lists.proofs.PlacedLemmas.{rise_along}
use Rattle.group_lists.proofs.ElementLemmas.{map-map}

abbrev pub itself : ℕ → ℕ
itself n = n

-- whether a key is in a cell of the level that isn't after the cell
abbrev pub is_not_above : Octant → ℕ → Bool
is_not_above c key = leb (key / 8 ^ (30 - c.level)) c.key

-- where the keys of a cell begin, and where they end
pub record AreEnds (c : Octant) (ks : List ℕ) (a b : ℕ) : Type 0 where
  pub begins : a ≤ length ks
  pub ends : b ≤ length ks
  pub lower : IsPartitionPoint (λ k. is_lower itself c k ≡ true) (λ k. is_lower itself c k ≡ false) ks a
  pub not_above : IsPartitionPoint (λ k. is_not_above c k ≡ true) (λ k. is_not_above c k ≡ false) ks b

pub ends_ordered : (c : Octant) (ks : List ℕ) (a b : ℕ) → AreEnds c ks a b → a ≤ b
ends_ordered c ks a b e =
    elim (cases_lt b a) [
      | inl less ↦
          let begins = e.begins in
          let key = get_or ks b 0 / 8 ^ (30 - c.level) in
          let low = ltb-true key c.key (e.lower.0 b 0 (omega arith) less) in
          let high = leb-false key c.key (e.not_above.1 b 0 (omega arith) (omega arith)) in
          absurd (omega arith)
      | inr more ↦ more
    ]

pub span_of_ends : (c : Octant) (ks : List ℕ) (a b : ℕ) → AreEnds c ks a b → IsSpanOf (is_cell_of itself c) ks (record { first = a; len = b - a })
span_of_ends c ks a b e =
    let order = ends_ordered c ks a b e in
    let ends = e.ends in
    record {
      inside = omega arith;
      exactly = λ k x within.
          let key = get_or ks k x / 8 ^ (30 - c.level) in (
            λ test.
                let same = eqb-true c.key key (and_parts _ _ test).1 in (
                  elim (cases_lt k a) [
                    | inl less ↦ (let low = ltb-true key c.key (e.lower.0 k x (omega arith) less) in absurd (omega arith))
                    | inr more ↦ more
                  ],
                  elim (cases_lt k b) [
                    | inl less ↦ omega arith
                    | inr more ↦ (let high = leb-false key c.key (e.not_above.1 k x more within) in absurd (omega arith))
                  ],
                ),
            λ place.
                let least = place.0 in
                let most = place.1 in
                let low = ltb-false key c.key (e.lower.1 k x least within) in
                let high = leb-true key c.key (e.not_above.0 k x (omega arith) (omega arith)) in
                and_from _ _ (eq-eqb c.level c.level refl) (eq-eqb c.key key (omega arith)),
          );
    }

-- a span of keys is one of items
pub span_from_keys : (c : Octant) (m : Totals) (items : List Entry) (index : ItemIndex) (s : Span) → IsIndexOf items index → LieByPlace items (Cell c m) → IsSpanOf (is_cell_of itself c) index.keys.items s → IsSpanOf (λ f. lies_in f (Cell c m)) items s
span_from_keys c m items index s h fit span =
    let long : length index.keys.items ≡ length items = ap length h.keyed ∙ length-map items item_key in
    let inside = span.inside in
    record {
      inside = omega arith;
      exactly = λ k f within.
          let item = get_or items k f in
          let key : get_or index.keys.items k 0 ≡ item_key item = ap (λ (ks : List ℕ). get_or ks k 0) h.keyed ∙ get_or-map item_key items k f 0 within in
          let lies : lies_in item (Cell c m) ≡ is_cell_of itself c (get_or index.keys.items k 0) =
          fit item (k, within, get_or_default items k item f within) ∙ ap (is_cell_of itself c) (sym key) in
          let place = span.exactly k 0 (omega arith) in
          (λ e. place.0 (sym lies ∙ e), λ at. lies ∙ place.1 at);
    }

-- the particle that an item is, where it lies in a particle
pub one_of_id : (f : Entry) (p : Particle) → lies_in f (One p) ≡ true → (q : Particle) × (f ≡ One q) × (q.id ≡ p.id)
one_of_id (Cell d n) p e = absurd (true≢false (sym e))
one_of_id (One q) p e = (q, refl, eqb-true q.id p.id e)

-- the particle at a place that the ids tell is the only one of its id
pub span_of_one : (items : List Entry) (ids : List IdPlace) (i : IdPlace) (p : Particle) → AreIdsOf items ids → HaveDistinctPlaces items → Contains ids i → i.id ≡ p.id → IsSpanOf (λ f. lies_in f (One p)) items (record { first = i.place; len = 1 })
span_of_one items ids i p are apart there named =
    let found = are.sound i there in
    let q = found.0 in
    let within = slice_get_within items i.place (One q) found.1 in
    record {
      inside = omega arith;
      exactly = λ k f inside. (
        λ e.
            let one = one_of_id (get_or items k f) p e in
            let read : slice_get items k ≡ Some (One one.0) = slice_get-get_or items k f inside ∙ ap Some one.1 in
            let same : k ≡ i.place = apart k i.place one.0 q read found.1 (one.2 ∙ sym named ∙ sym found.2) in
            (omega arith, omega arith),
        λ place.
            let low = place.0 in
            let high = place.1 in
            let same : k ≡ i.place = omega arith in
            let at : get_or items k f ≡ One q = ap (λ (n : ℕ). get_or items n f) same ∙ get_or_from_slice_get items i.place (One q) f found.1 in
            ap (λ (g : Entry). lies_in g (One p)) at ∙ eq-eqb q.id p.id (found.2 ∙ named),
      );
    }

-- no particle has an id that the ids lack
pub span_of_none : (items : List Entry) (ids : List IdPlace) (p : Particle) → AreIdsOf items ids → ((i : IdPlace) → Contains ids i → i.id ≡ p.id → ⊥) → IsSpanOf (λ f. lies_in f (One p)) items (record { first = 0; len = 0 })
span_of_none items ids p are none = record {
  inside = omega arith;
  exactly = λ k f inside. (
    λ e.
        let one = one_of_id (get_or items k f) p e in
        let read : slice_get items k ≡ Some (One one.0) = slice_get-get_or items k f inside ∙ ap Some one.1 in
        absurd (none (record { id = one.0.id; place = k }) (are.complete k one.0 read) one.2),
    λ place. (let high = place.1 in let low = place.0 in absurd (omega arith)),
  );
}

abbrev pub place_id : IdPlace → ℕ
place_id i = i.id

-- past the ids there is none
pub none_past : (ids : List IdPlace) (id at : ℕ) → IsPartitionPoint (λ i. ltb (place_id i) id ≡ true) (λ i. ltb (place_id i) id ≡ false) ids at → length ids ≤ at → (i : IdPlace) → Contains ids i → i.id ≡ id → ⊥
none_past ids id at point past i there same =
    let within : there.0 < length ids = there.1 in
    let low = ltb-true (place_id (get_or ids there.0 i)) id (point.0 there.0 i (omega arith) (omega arith)) in
    let is = ap place_id there.2 in
    absurd (omega arith)

-- nor where the first that isn't lower has another id
pub none_at : (items : List Entry) (ids : List IdPlace) (id at : ℕ) (found : IdPlace) → AreIdsOf items ids → IsPartitionPoint (λ i. ltb (place_id i) id ≡ true) (λ i. ltb (place_id i) id ≡ false) ids at → at < length ids → get_or ids at found ≡ found → (found.id ≡ id → ⊥) → (i : IdPlace) → Contains ids i → i.id ≡ id → ⊥
none_at items ids id at found are point inside is other i there same =
    let within : there.0 < length ids = there.1 in
    let named = ap place_id there.2 in
    elim (cases_lt there.0 at) [
      | inl less ↦ (let low = ltb-true (place_id (get_or ids there.0 i)) id (point.0 there.0 i (omega arith) less) in absurd (omega arith))
      | inr more ↦
          let up = are.ascending at there.0 i more within in
          let here : get_or ids at i ≡ found = get_or_default ids at i found inside ∙ is in
          let id_is = ap place_id here in
          let high = ltb-false (place_id (get_or ids at i)) id (point.1 at i (omega arith) inside) in
          other (let h : found.id ≡ id = omega arith in h)
    ]

-- the id of the particle that is read, if it is one
abbrev one_id : Option Entry → ℕ
one_id None = 0
one_id (Some (Cell c m)) = 0
one_id (Some (One p)) = p.id

-- the ids of the particles among the first items
pub record AreIdsUpTo (items : List Entry) (n : ℕ) (ids : List IdPlace) : Type 0 where
  pub sound : (i : IdPlace) → Contains ids i → IsParticleAt items i
  pub complete : (k : ℕ) (p : Particle) → k < n → slice_get items k ≡ Some (One p) → Contains ids (record { id = p.id; place = k })

pub no_ids : (items : List Entry) (ids : List IdPlace) → ids ≡ [] → AreIdsUpTo items 0 ids
no_ids items ids e = record {
  sound = λ i there. (let within : there.0 < length ids = there.1 in let none = ap length e in absurd (omega arith));
  complete = λ k p less at. absurd (omega arith);
}

-- with one particle more
pub ids_more : (items : List Entry) (n m : ℕ) (ids more : List IdPlace) (p : Particle) (i : IdPlace) → AreIdsUpTo items n ids → slice_get items n ≡ Some (One p) → i ≡ record { id = p.id; place = n } → more ≡ ids ++ i ∷ [] → m ≡ n + 1 → AreIdsUpTo items m more
ids_more items n m ids more p i h at named pushed next =
    let here : Contains (ids ++ i ∷ []) (record { id = p.id; place = n }) = subst (Contains (ids ++ i ∷ [])) named (Contains-push ids i) in
    subst (λ (l : List IdPlace). AreIdsUpTo items m l) (sym pushed) (record {
      sound = λ j there. elim (Contains-push_cases ids i j there) [
        | inl before ↦ h.sound j before
        | inr same ↦ subst (IsParticleAt items) (sym named ∙ same) (p, at, refl)
      ];
      complete = λ k q less read. elim (cases_lt k n) [
        | inl before ↦ Contains-append_left ids (i ∷ []) _ (h.complete k q before read)
        | inr last ↦
            let place : n ≡ k = omega arith in
            let both : Some (One p) ≡ Some (One q) = sym at ∙ ap (slice_get items) place ∙ read in
            let id : p.id ≡ q.id = ap one_id both in
            subst (Contains (ids ++ i ∷ [])) (λ e. record { id = id e; place = place e }) here
      ];
    })

-- and past an item that is none
pub ids_skip : (items : List Entry) (n m : ℕ) (ids : List IdPlace) → AreIdsUpTo items n ids → ((p : Particle) → slice_get items n ≡ Some (One p) → ⊥) → m ≡ n + 1 → AreIdsUpTo items m ids
ids_skip items n m ids h none next = record {
  sound = h.sound;
  complete = λ k q less read. elim (cases_lt k n) [
    | inl before ↦ h.complete k q before read
    | inr last ↦ (let place : k ≡ n = omega arith in absurd (none q (ap (slice_get items) (sym place) ∙ read)))
  ];
}

-- sorted by id they are the ids of all
pub ids_sorted : (items : List Entry) (n : ℕ) (raw sorted : List IdPlace) → length items ≤ n → AreIdsUpTo items n raw → IsPermutation raw sorted → IsNonDecreasingBy place_id sorted → AreIdsOf items sorted
ids_sorted items n raw sorted all h same up = record {
  ascending = up;
  sound = λ i there. h.sound i (Contains-permutation sorted raw i (IsPermutation-sym raw sorted same) there);
  complete = λ k p read. Contains-permutation raw sorted _ same (h.complete k p (let within = slice_get_within items k (One p) read in omega arith) read);
}

-- the keys of the first bodies, with one more
pub keys_push : (js : List Particle) (n : ℕ) (keys more : List ℕ) (p : Particle) (key : ℕ) → n < length js → p ≡ get_or js n p → key ≡ place_key p → keys ≡ map place_key (take n js) → more ≡ keys ++ key ∷ [] → more ≡ map place_key (take (n + 1) js)
keys_push js n keys more p key within at key_is before pushed =
    pushed ∙ (λ i. before i ++ key_is i ∷ []) ∙ sym (map-append place_key (take n js) (p ∷ []))
    ∙ ap (map place_key) ((λ i. take n js ++ at i ∷ []) ∙ sym (take_more js n p within))

pub keys_of_bodies : (js : List Particle) (n : ℕ) (keys : List ℕ) → length js ≤ n → keys ≡ map place_key (take n js) → keys ≡ map item_key (as_items js)
keys_of_bodies js n keys all is = is ∙ ap (map place_key) (take_all n js all) ∙ sym (map-map item_key (λ (j : Particle). One j) js)

pub keys_rise_as_items : (js : List Particle) (keys : List ℕ) → IsInKeyOrder js → keys ≡ map item_key (as_items js) → IsNonDecreasing keys
keys_rise_as_items js keys ordered is = rise_along place_key js keys (is ∙ map-map item_key (λ (j : Particle). One j) js) (keys_rise js ordered)

-- distinct numbers stand at one place each
distinct_at : (ns : List ℕ) → IsDistinct nat_eq ns → (k l n : ℕ) → slice_get ns k ≡ Some n → slice_get ns l ≡ Some n → k ≡ l
unfolding IsDistinct
distinct_at [] d k l n at_k at_l = cc
distinct_at (m ∷ ms) d zero zero n at_k at_l = refl
distinct_at (m ∷ ms) d zero (suc l) n at_k at_l =
    let within = slice_get_within ms l n at_l in
    let here : m ≡ n = cc in
    let there = get_or_from_slice_get ms l n n at_l in
    absurd (eqb-false m (get_or ms l n) (All-from_recursion (λ y. nat_eq m y ≡ false) ms d.0 l n within) (here ∙ sym there))
distinct_at (m ∷ ms) d (suc k) zero n at_k at_l =
    let within = slice_get_within ms k n at_k in
    let here : m ≡ n = cc in
    let there = get_or_from_slice_get ms k n n at_k in
    absurd (eqb-false m (get_or ms k n) (All-from_recursion (λ y. nat_eq m y ≡ false) ms d.0 k n within) (here ∙ sym there))
distinct_at (m ∷ ms) d (suc k) (suc l) n at_k at_l = ap suc (distinct_at ms d.1 k l n at_k at_l)

-- the id of an item that is a particle
abbrev id_of : Option Entry → Option ℕ
id_of None = None
id_of (Some (Cell c m)) = None
id_of (Some (One p)) = Some p.id

id_read : (js : List Particle) (k : ℕ) (p : Particle) → slice_get (as_items js) k ≡ Some (One p) → slice_get (map (λ j. j.id) js) k ≡ Some p.id
id_read [] k p e = cc
id_read (j ∷ js) zero p e = ap id_of e
id_read (j ∷ js) (suc k) p e = id_read js k p e

-- no two bodies have one id
pub bodies_distinct : (js : List Particle) → HaveDistinctIds js → HaveDistinctPlaces (as_items js)
bodies_distinct js distinct k l p q at_k at_l same =
    distinct_at (map (λ j. j.id) js) distinct k l q.id (id_read js k p at_k ∙ ap Some same) (id_read js l q at_l)
