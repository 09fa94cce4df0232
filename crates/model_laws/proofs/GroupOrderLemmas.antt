-- Groups of the same particles in another order, and groups of one place.
use Rattle.std.proofs.Common.{◌≡◌, ℕ, ◌-◌, ◌/◌, ◌^◌, List, length, inl, inr, refl, ◌∙◌, ap, subst, arith}
use Rattle.std.specs.List.{All, Contains}
use Rattle.std.specs.List.Sorted.{IsPermutation}
use Rattle.std.proofs.lemmas.Bool.{cases_lt}
use Rattle.std.proofs.lemmas.List.Sorted.{length_permutation, Contains-permutation, IsPermutation-sym}
use Rattle.std.proofs.lemmas.List.Elements.{All-contains}
use Rattle.pf_geom.specs.Position.{Position, IsPosition}
use Rattle.pf_geom.specs.Key.{morton_key}
use Rattle.pf_geom.specs.Octant.{Octant, cell_at, IsIn}
use Rattle.pf_geom.specs.CellLaws.{KeysAreDistinct}
use Rattle.pf_model.specs.Particle.{Particle}
use Rattle.pf_model.specs.Interaction.{is_cell}
use Rattle.pf_model.specs.Group.{particles_in, group_level, group_cell, group_of, group_cells}
use Rattle.model_laws.specs.GroupLaws.{GroupCellsAreOrdered, GroupsIgnoreOrder, GroupsOfOneAreOnePlace}
use Rattle.order_laws.proofs.PermutationLemmas.{IsPermutation-filter}
use Rattle.order_laws.proofs.ElementLemmas.{only_element, all_from_contains, some_from_contains}
use Rattle.model_laws.proofs.MemberLemmas.{in_cell, cell_has}
use Rattle.model_laws.proofs.GroupLemmas.{group_level-is, group_levels_are_least}
use Rattle.model_laws.proofs.BoxLemmas.{box_at_one_place}

-- the same particles in a cell
in_cell_permuted : (js ks : List Particle) → IsPermutation js ks → (c : Octant) → IsPermutation (particles_in c js) (particles_in c ks)
in_cell_permuted js ks h c = IsPermutation-filter (λ (j : Particle). is_cell c (cell_at j.at c.level)) js ks h

level_permuted : (limit : ℕ) (js ks : List Particle) → IsPermutation js ks → (p : Position) → group_level limit js p ≡ group_level limit ks p
level_permuted limit js ks h p =
    let is = group_level-is limit js p in
    let count : (level : ℕ) → length (particles_in (cell_at p level) ks) ≡ length (particles_in (cell_at p level) js) = λ level.
    length_permutation (particles_in (cell_at p level) js) (particles_in (cell_at p level) ks) (in_cell_permuted js ks h (cell_at p level)) in
    let level = group_level limit js p in
    (group_levels_are_least limit ks p level).1 (record {
      within = is.within;
      few = λ less. (let e = count level in let few = is.few less in omega arith);
      many_above = λ lower less. (let e = count lower in let many = is.many_above lower less in omega arith);
    })

cell_permuted : (limit : ℕ) (js ks : List Particle) → IsPermutation js ks → (p : Position) → group_cell limit js p ≡ group_cell limit ks p
cell_permuted limit js ks h p = ap (cell_at p) (level_permuted limit js ks h p)

pub groups_ignore_order : GroupCellsAreOrdered → GroupsIgnoreOrder
groups_ignore_order law limit js ks h =
    let are = (law limit js (group_cells limit js)).1 refl in
    let back = IsPermutation-sym js ks h in
    let P : Octant → Type 0 = λ c. Contains (group_cells limit js) c in (
      cell_permuted limit js ks h,
      (law limit ks (group_cells limit js)).0 (record {
        ordered = are.ordered;
        complete = λ j inside. subst P (cell_permuted limit js ks h j.at) (are.complete j (Contains-permutation ks js j back inside));
        sound = λ c inside. (let found = are.sound c inside in (found.0, Contains-permutation js ks found.0 h found.1, found.2 ∙ cell_permuted limit js ks h found.0.at));
      }),
      in_cell_permuted js ks h,
    )

-- a cell of the deepest level is one place
deepest_is_place : KeysAreDistinct → (p q : Position) → IsPosition p → IsPosition q → cell_at p 30 ≡ cell_at q 30 → p ≡ q
deepest_is_place keys p q p_is q_is same =
    (keys p q p_is q_is).0 (let key : morton_key p / 8 ^ (30 - 30) ≡ morton_key q / 8 ^ (30 - 30) = ap (λ (c : Octant). c.key) same in omega arith)

pub groups_of_one_are_one_place : KeysAreDistinct → GroupsOfOneAreOnePlace
groups_of_one_are_one_place keys own i places inside =
    let level = group_level 1 own i.at in
    let c = group_cell 1 own i.at in
    let is = group_level-is 1 own i.at in
    let within = is.within in
    let P : Particle → Type 0 = λ j. IsPosition j.at in
    let one : (j : Particle) → Contains own j → IsIn j.at c → j.at ≡ i.at = λ j there h.
    elim (cases_lt level 30) [
      | inl less ↦ ap (λ (k : Particle). k.at) (only_element (particles_in c own) j i (is.few less) (cell_has c own j there h) (cell_has c own i inside refl))
      | inr more ↦
          let last : level ≡ 30 = omega arith in
          let Q : ℕ → Type 0 = λ n. cell_at j.at n ≡ cell_at i.at n in
          deepest_is_place keys j.at i.at (All-contains P own j places there) (All-contains P own i places inside) (subst Q last h)
    ] in
    let all : All (λ j. j.at ≡ i.at) (group_of 1 own i) = all_from_contains (λ (j : Particle). j.at ≡ i.at) (group_of 1 own i)
    (λ j h. let both = in_cell c own j h in one j both.0 both.1) in (
      λ j there. (one j there, λ same. ap (λ (p : Position). cell_at p level) same),
      box_at_one_place (group_of 1 own i) i.at (some_from_contains (group_of 1 own i) i (cell_has c own i inside refl)) all,
    )
