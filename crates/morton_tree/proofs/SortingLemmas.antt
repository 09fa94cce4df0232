-- What is sorted in place of particles, and the particles in that order.
use Rattle.std.proofs.Common.{◌≡◌, ℕ, ◌+◌, ◌<◌, List, [], ◌∷◌, ◌++◌, length, get_or, map, take, drop, refl, sym, ◌∙◌, ap, subst, arith}
use Rattle.std.specs.List.{All, range_with_len}
use Rattle.std.specs.List.Sorted.{IsPermutation, IsSortedBy}
use Rattle.std.specs.Ordering.{nat_cmp, ordering_then, is_lt}
use Rattle.std.proofs.Math.Seq.{take-append_seam}
use Rattle.std.proofs.lemmas.List.{length-map, get_or-map, get_or_default, map-append, take_more}
use Rattle.std.proofs.lemmas.List.FromFn.{length-range_with_len, get_or-range_with_len, map-range_with_len_more, fill_by_all}
use Rattle.std.proofs.lemmas.List.Elements.{All-head, All-tail, All-map}
use Rattle.std.proofs.lemmas.List.Sorted.{All-permutation, IsPermutation-map}
use Rattle.pf_geom.specs.Key.{morton_key}
use Rattle.pf_model.specs.Particle.{Particle}
use Rattle.morton_tree.specs.declared.placed.Placed.{Placed}
use Rattle.morton_tree.specs.Sorting.{nobody, particle_at, placed_at, all_placed, is_before}
use Rattle.morton_tree.proofs.TreeLemmas.{is_less}

abbrev key_of : Particle → ℕ
key_of j = morton_key j.at

-- it has the key, the id and the place of a particle of the list
pub record IsPlacedIn (js : List Particle) (p : Placed) : Type 0 where
  pub within : p.place < length js
  pub key : p.key ≡ morton_key (particle_at js p).at
  pub id : p.id ≡ (particle_at js p).id

pub each_placed : (js : List Particle) → All (IsPlacedIn js) (all_placed js)
each_placed js =
    All-map (IsPlacedIn js) (placed_at js) (range_with_len 0 (length js)) (λ k d within.
    let at = get_or-range_with_len 0 (length js) k d (let long = length-range_with_len 0 (length js) in omega arith) in
    let long = length-range_with_len 0 (length js) in
    record { within = omega arith; key = refl; id = refl })

pub placed_is : (js : List Particle) (k key id : ℕ) (j : Particle) → k < length js → j ≡ get_or js k j → key ≡ morton_key j.at → id ≡ j.id → record { key = key; id = id; place = k } ≡ placed_at js k
placed_is js k key id j within at same_key same_id =
    let own : j ≡ get_or js k nobody = at ∙ get_or_default js k j nobody within in
    let key_is = same_key ∙ ap key_of own in
    let id_is = same_id ∙ ap (λ (i : Particle). i.id) own in
    λ i. record { key = key_is i; id = id_is i; place = k }

pub placed_more : (js : List Particle) (k : ℕ) (ps : List Placed) (p : Placed) → ps ≡ map (placed_at js) (range_with_len 0 k) → p ≡ placed_at js k → ps ++ p ∷ [] ≡ map (placed_at js) (range_with_len 0 (k + 1))
placed_more js k ps p before is =
    ap (λ (l : List Placed). l ++ p ∷ []) before ∙ ap (λ (q : Placed). map (placed_at js) (range_with_len 0 k) ++ q ∷ []) is
    ∙ sym (map-range_with_len_more (placed_at js) 0 k k (omega arith))

-- the particles at the places of all
read_placed : (js : List Particle) (ks : List ℕ) → map (particle_at js) (map (placed_at js) ks) ≡ map (λ k. get_or js k nobody) ks
read_placed js [] = refl
read_placed js (k ∷ ks) = ap (λ (l : List Particle). get_or js k nobody ∷ l) (read_placed js ks)

pub all_read : (js : List Particle) → map (particle_at js) (all_placed js) ≡ js
all_read js = read_placed js (range_with_len 0 (length js)) ∙ sym (fill_by_all (λ k. get_or js k nobody) js (length js) nobody refl (λ k within. refl))

-- one more of them
pub read_more : (js : List Particle) (ps : List Placed) (k : ℕ) (d : Placed) (j : Particle) (done : List Particle) → k < length ps → (get_or ps k d).place < length js → j ≡ get_or js (get_or ps k d).place j → done ≡ map (particle_at js) (take k ps) →
    done ++ j ∷ [] ≡ map (particle_at js) (take (k + 1) ps)
read_more js ps k d j done within inside is before =
    let p = get_or ps k d in
    ap (λ (l : List Particle). l ++ j ∷ []) before ∙ ap (λ (i : Particle). map (particle_at js) (take k ps) ++ i ∷ []) (is ∙ get_or_default js p.place j nobody inside)
    ∙ sym (map-append (particle_at js) (take k ps) (p ∷ [])) ∙ ap (map (particle_at js)) (sym (take_more ps k d within))

-- in any order they are the same particles
pub read_permutation : (js : List Particle) (ps : List Placed) → IsPermutation (all_placed js) ps → IsPermutation js (map (particle_at js) ps)
read_permutation js ps same =
    subst (λ (l : List Particle). IsPermutation l (map (particle_at js) ps)) (all_read js) (IsPermutation-map (particle_at js) (all_placed js) ps same)

pub placed_permutation : (js : List Particle) (ps : List Placed) → IsPermutation (all_placed js) ps → All (IsPlacedIn js) ps
placed_permutation js ps same = All-permutation (IsPlacedIn js) (all_placed js) ps same (each_placed js)

-- their keys
pub keys_are : (js : List Particle) (ps : List Placed) → All (IsPlacedIn js) ps → map (λ p. p.key) ps ≡ map key_of (map (particle_at js) ps)
keys_are js [] each = refl
keys_are js (p ∷ ps) each =
    let key = (All-head (IsPlacedIn js) p ps each).key in
    let rest = keys_are js ps (All-tail (IsPlacedIn js) p ps each) in
    λ i. key i ∷ rest i

same_order : (js : List Particle) (p q : Placed) → IsPlacedIn js p → IsPlacedIn js q → is_less (particle_at js p) (particle_at js q) ≡ is_before p q
same_order js p q h k =
    let hk = h.key in
    let hi = h.id in
    let kk = k.key in
    let ki = k.id in
    sym (λ i. is_lt (ordering_then (nat_cmp (hk i) (kk i)) (nat_cmp (hi i) (ki i))))

-- and their order
pub sorted_particles : (js : List Particle) (ps : List Placed) → All (IsPlacedIn js) ps → IsSortedBy is_before ps → IsSortedBy is_less (map (particle_at js) ps)
sorted_particles js ps each sorted k d least within =
    let long = length-map ps (particle_at js) in
    let none : Placed = record { key = 0; id = 0; place = 0 } in
    let p = get_or ps k none in
    let q = get_or ps (k + 1) none in
    let at_p : get_or (map (particle_at js) ps) k d ≡ particle_at js p = get_or-map (particle_at js) ps k none d (omega arith) in
    let at_q : get_or (map (particle_at js) ps) (k + 1) d ≡ particle_at js q = get_or-map (particle_at js) ps (k + 1) none d (omega arith) in
    (λ i. is_less (at_q i) (at_p i)) ∙ same_order js q p (each (k + 1) none (omega arith)) (each k none (omega arith)) ∙ sorted k none least (omega arith)

-- what a slice of a list leaves in it
pub put_back : {X : Type 0} (len : ℕ) (old new seen : List X) → len ≡ length old → length new ≡ length old → seen ≡ take len (new ++ drop (length new) old) → seen ≡ new
put_back len old new seen whole same is =
    let long : len ≡ length new = whole ∙ sym same in
    is ∙ ap (λ (n : ℕ). take n (new ++ drop (length new) old)) long ∙ take-append_seam new (drop (length new) old)
