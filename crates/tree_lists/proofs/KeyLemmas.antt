-- The keys of particles in key order.
use Rattle.std.proofs.Common.{◌≡◌, ℕ, ◌-◌, ◌/◌, ◌^◌, ◌<◌, ◌≤◌, true, List, [], ◌∷◌, length, get_or, map, inl, inr, refl, ◌∙◌, ap, arith}
use Rattle.std.specs.List.{All}
use Rattle.std.specs.List.Sorted.{IsNonDecreasing}
use Rattle.std.proofs.lemmas.Bool.{cases_lt, ltb-true, eqb-true, or_cases, and_parts}
use Rattle.std.proofs.lemmas.List.{length-map, get_or-map}
use Rattle.pf_geom.specs.Key.{morton_key}
use Rattle.pf_geom.specs.Octant.{Octant, cell_at}
use Rattle.pf_geom.specs.CellLaws.{KeysFit}
use Rattle.pf_model.specs.Particle.{Particle}
use Rattle.pf_model.specs.Domains.{comes_first}
use Rattle.morton_tree.specs.Tree.{IsInKeyOrder}
use Rattle.tree_lists.proofs.PieceLemmas.{positions}

abbrev nobody : Particle
nobody = record { id = 0; at = record { x = 0; y = 0; z = 0 }; vel = []; mass = 0; attr = [] }

abbrev pub octant : ℕ → ℕ → Octant
octant level key = record { level = level; key = key }

abbrev pub key_of : Particle → ℕ
key_of j = morton_key j.at

pub keys_of_positions : (js : List Particle) → map key_of js ≡ map morton_key (positions js)
keys_of_positions [] = refl
keys_of_positions (j ∷ js) = ap (λ (ks : List ℕ). key_of j ∷ ks) (keys_of_positions js)

pub keys_fit : KeysFit → (js : List Particle) → All (λ key. key < 2 ^ 90) (map key_of js)
keys_fit law js k d within =
    let count = length-map js key_of in
    let read : get_or (map key_of js) k d ≡ key_of (get_or js k nobody) = get_or-map key_of js k nobody d (omega arith) in
    let fits = law (get_or js k nobody).at in
    omega arith

first_key : (i j : Particle) → comes_first morton_key i j ≡ true → key_of i ≤ key_of j
first_key i j e =
    elim (or_cases _ _ e) [
      | inl h ↦ (let less = ltb-true (key_of i) (key_of j) h in omega arith)
      | inr h ↦ (let same = eqb-true (key_of i) (key_of j) (and_parts _ _ h).0 in omega arith)
    ]

pub keys_rise : (js : List Particle) → IsInKeyOrder js → (i j : ℕ) (d : Particle) → i ≤ j → j < length js → key_of (get_or js i d) ≤ key_of (get_or js j d)
keys_rise js ordered i j d least within =
    elim (cases_lt i j) [
      | inl less ↦ first_key (get_or js i d) (get_or js j d) (ordered i j d less within)
      | inr more ↦ (let same : i ≡ j = omega arith in let e = ap (λ (k : ℕ). key_of (get_or js k d)) same in omega arith)
    ]

pub keys_ascend : (js : List Particle) → IsInKeyOrder js → IsNonDecreasing (map key_of js)
keys_ascend js ordered i j d least within =
    let count = length-map js key_of in
    let read_i : get_or (map key_of js) i d ≡ key_of (get_or js i nobody) = get_or-map key_of js i nobody d (omega arith) in
    let read_j : get_or (map key_of js) j d ≡ key_of (get_or js j nobody) = get_or-map key_of js j nobody d (omega arith) in
    let rise = keys_rise js ordered i j nobody least (omega arith) in
    omega arith

-- the cell of a particle, by the key that is kept of it
pub cell_by_key : (js : List Particle) (keys : List ℕ) (place level key : ℕ) (d : Particle) → keys ≡ map key_of js → place < length js → key ≡ get_or keys place 0 / 8 ^ (30 - level) → octant level key ≡ cell_at (get_or js place d).at level
cell_by_key js keys place level key d are within is =
    let read : get_or keys place 0 ≡ key_of (get_or js place d) = ap (λ (ks : List ℕ). get_or ks place 0) are ∙ get_or-map key_of js place d 0 within in
    ap (octant level) (is ∙ ap (λ (k : ℕ). k / 8 ^ (30 - level)) read)
