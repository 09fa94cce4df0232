-- For groups of one particle the boxes of all groups are the places of the particles, whatever the grid.
use Rattle.std.proofs.Common.{◌≡◌, ℕ, inl, inr, ◌*◌, ◌-◌, ◌^◌, List, [], ◌∷◌, map, length, nat_eq, refl, sym, ◌∙◌, ap, subst, arith}
use Rattle.std.specs.Prelude.{IsTrue, sum_by, nat_lt}
use Rattle.std.proofs.lemmas.Bool.Decides.{nat_tests}
use Rattle.std.specs.List.{All, flat_map, range_with_len}
use Rattle.std.proofs.lemmas.Bool.{eqb-true, eq-eqb}
use Rattle.std.proofs.lemmas.List.Elements.{All-nil, All-cons, All-contains}
use Rattle.pf_geom.specs.Position.{Position, IsPosition}
use Rattle.pf_geom.specs.Bounds.{Bounds}
use Rattle.pf_geom.specs.Octant.{Octant}
use Rattle.pf_model.specs.Particle.{Particle}
use Rattle.pf_model.specs.Criterion.{Criterion}
use Rattle.pf_model.specs.Division.{Division, IsDivision, rank_count}
use Rattle.pf_model.specs.Domains.{owner, particles_of}
use Rattle.model_laws.specs.DomainLaws.{OwnersAreRanks}
use Rattle.pf_model.specs.Group.{particles_in, group_cell, group_cells, group_of, box_of, has_lower_corner}
use Rattle.pf_model.specs.Groups.{groups_of_rank, all_groups, group_with, group_list}
use Rattle.model_laws.specs.GroupLaws.{AreGroupCells, GroupCellsAreOrdered, GroupsOfOneAreOnePlace}
use Rattle.pf_model.specs.Interaction.{list_of}
use Rattle.run_model.proofs.OnceEach.{In, Once, in_from_contains, contains_from_in, same_sum, in_map, map_in, once_map, once_from_pairs, in_filter, filter_in, in_flat_range, flat_range_in, once_flat_range, sum_map, sum_flat}

-- the box of one point
abbrev pub point : Position → Bounds
point p = record { lo = p; hi = p }

abbrev pub AreInCube : List Particle → Type 0
AreInCube js = All (λ (j : Particle). IsPosition j.at) js

-- what the three laws of pf_model say
pub record PlaceLaws : Type 0 where
  pub one : GroupsOfOneAreOnePlace
  pub cells : GroupCellsAreOrdered
  pub owners : OwnersAreRanks

-- ---- the particles of a rank

abbrev own_of : Division → List Particle → ℕ → List Particle
own_of g js r = particles_of g js r

in_own : (g : Division) (js : List Particle) (r : ℕ) (j : Particle) → In j (own_of g js r) → In j js × (owner g js j.at ≡ r)
in_own g js r j h = (let kept = in_filter (λ (k : Particle). nat_eq (owner g js k.at) r) j js h in (kept.0, eqb-true _ _ kept.1))

own_in : (g : Division) (js : List Particle) (j : Particle) → In j js → In j (own_of g js (owner g js j.at))
own_in g js j h = filter_in (λ (k : Particle). nat_eq (owner g js k.at) (owner g js j.at)) j js (eq-eqb _ _ refl) h

all_from_in : (P : Particle → Type 0) (js : List Particle) → ((j : Particle) → In j js → P j) → All P js
all_from_in P [] h = All-nil P
all_from_in P (j ∷ js) h = All-cons P j js (h j (inl refl)) (all_from_in P js (λ k i. h k (inr i)))

own_in_cube : (g : Division) (js : List Particle) (r : ℕ) → AreInCube js → AreInCube (own_of g js r)
own_in_cube g js r h =
    all_from_in (λ (j : Particle). IsPosition j.at) (own_of g js r) (λ j i. All-contains (λ (k : Particle). IsPosition k.at) js j h (contains_from_in js j (in_own g js r j i).0))

-- ---- the cells of a rank's groups

-- the cell of the group at a member's place
record IsGroupAt (own : List Particle) (c : Octant) : Type 0 where
  pub member : Particle
  pub inside : In member own
  pub cell : c ≡ group_cell 1 own member.at
  pub box : box_of (particles_in c own) ≡ point member.at

abbrev place : List Particle → Octant → Position
place own c = (box_of (particles_in c own)).lo

never_lower : (n : ℕ) → IsTrue (nat_lt n n) → ⊥
never_lower n e = grind (arith, nat_tests)

module _ (laws : PlaceLaws) where
  are_cells : (own : List Particle) → AreGroupCells 1 own (group_cells 1 own)
  are_cells own = (laws.cells 1 own (group_cells 1 own)).1 refl

  box_at : (own : List Particle) (j : Particle) → AreInCube own → In j own → box_of (group_of 1 own j) ≡ point j.at
  box_at own j h i = (laws.one own j h (contains_from_in own j i)).1

  group_at : (own : List Particle) → AreInCube own → (c : Octant) → In c (group_cells 1 own) → IsGroupAt own c
  group_at own h c i =
      let found = (are_cells own).sound c (contains_from_in (group_cells 1 own) c i) in
      let inside = in_from_contains own found.0 found.1 in
      record {
        member = found.0;
        inside = inside;
        cell = found.2;
        box = ap (λ (d : Octant). box_of (particles_in d own)) found.2 ∙ box_at own found.0 h inside;
      }

  place_is : (own : List Particle) (c : Octant) (at : IsGroupAt own c) → place own c ≡ at.member.at
  place_is own c at = ap (λ (b : Bounds). b.lo) at.box

  cell_again : (own : List Particle) → AreInCube own → (c : Octant) → In c (group_cells 1 own) → group_cell 1 own (place own c) ≡ c
  cell_again own h c i = (let at = group_at own h c i in ap (group_cell 1 own) (place_is own c at) ∙ sym at.cell)

  once_cells : (own : List Particle) → Once (group_cells 1 own)
  once_cells own =
      once_from_pairs (λ c d. IsTrue (has_lower_corner c d)) (λ c e. never_lower (c.key * 8 ^ (30 - c.level)) e) (group_cells 1 own) (are_cells own).ordered

  -- ---- the places of all ranks

  rank_places : Division → List Particle → ℕ → List Position
  rank_places g js r = map (place (own_of g js r)) (group_cells 1 (own_of g js r))

  places : Division → List Particle → List Position
  places g js = flat_map (rank_places g js) (range_with_len 0 (rank_count g))

  in_rank : (g : Division) (js : List Particle) → AreInCube js → (r : ℕ) (p : Position) → In p (rank_places g js r) → (j : Particle) × In j js × (owner g js j.at ≡ r) × (j.at ≡ p)
  unfolding rank_places
  in_rank g js h r p i =
      let own = own_of g js r in
      let found = in_map (place own) (group_cells 1 own) p i in
      let at = group_at own (own_in_cube g js r h) found.0 found.1 in
      let mine = in_own g js r at.member at.inside in
      (at.member, mine.0, mine.1, sym (place_is own found.0 at) ∙ found.2)

  rank_in : (g : Division) (js : List Particle) → AreInCube js → (j : Particle) → In j js → In j.at (rank_places g js (owner g js j.at))
  unfolding rank_places
  rank_in g js h j i =
      let r = owner g js j.at in
      let own = own_of g js r in
      let mine = own_in g js j i in
      let c = group_cell 1 own j.at in
      let listed = in_from_contains (group_cells 1 own) c ((are_cells own).complete j (contains_from_in own j mine)) in
      let same : place own c ≡ j.at = ap (λ (b : Bounds). b.lo) (box_at own j (own_in_cube g js r h) mine) in
      subst (λ (p : Position). In p (map (place own) (group_cells 1 own))) same (map_in (place own) (group_cells 1 own) c listed)

  once_rank : (g : Division) (js : List Particle) → AreInCube js → (r : ℕ) → Once (rank_places g js r)
  unfolding rank_places
  once_rank g js h r =
      let own = own_of g js r in
      once_map (place own) (group_cell 1 own) (group_cells 1 own) (cell_again own (own_in_cube g js r h)) (once_cells own)

  once_places : (g : Division) (js : List Particle) → AreInCube js → Once (places g js)
  unfolding places
  once_places g js h =
      once_flat_range (rank_places g js) (owner g js) 0 (rank_count g)
      (λ r p i. (let found = in_rank g js h r p i in ap (owner g js) (sym found.3) ∙ found.2))
      (once_rank g js h)

  place_of_one : (g : Division) (js : List Particle) → AreInCube js → (p : Position) → In p (places g js) → (j : Particle) × In j js × (j.at ≡ p)
  unfolding places
  place_of_one g js h p i =
      let found = in_flat_range (rank_places g js) 0 (rank_count g) p i in
      let one = in_rank g js h found.0 p found.2 in
      (one.0, one.1, one.3)

  one_has_place : (g : Division) (js : List Particle) → IsDivision g → AreInCube js → (j : Particle) → In j js → In j.at (places g js)
  unfolding places
  one_has_place g js d h j i =
      flat_range_in (rank_places g js) 0 (rank_count g) (owner g js j.at) j.at (omega arith) (let below = laws.owners g js j.at d in omega arith) (rank_in g js h j i)

  moves_over : (g e : Division) (js : List Particle) → IsDivision e → AreInCube js → (p : Position) → In p (places g js) → In p (places e js)
  moves_over g e js d h p i =
      (let found = place_of_one g js h p i in subst (λ (q : Position). In q (places e js)) found.2 (one_has_place e js d h found.0 found.1))

  -- ---- the entries of all lists

  abbrev at_point : Criterion → List Particle → Position → ℕ
  at_point t js p = length (list_of t (point p) js)

  list_at : (t : Criterion) (g : Division) (js : List Particle) → AreInCube js → (r : ℕ) → sum_by (λ group. length (group_list t js group)) (groups_of_rank 1 g js r) ≡ sum_by (at_point t js) (rank_places g js r)
  unfolding rank_places
  list_at t g js h r =
      let own = own_of g js r in
      sum_map (λ (c : Octant). record { rank = r; members = particles_in c own }) (place own) (λ group. length (group_list t js group)) (at_point t js) (group_cells 1 own)
      (λ c i. (let at = group_at own (own_in_cube g js r h) c i in
      ap (λ (b : Bounds). length (list_of t b js)) (at.box ∙ ap point (sym (place_is own c at)))))

  count_at : (t : Criterion) (g : Division) (js : List Particle) → AreInCube js → sum_by (λ group. length (group_list t js group)) (all_groups 1 g js) ≡ sum_by (at_point t js) (places g js)
  unfolding all_groups places
  count_at t g js h =
      sum_flat (groups_of_rank 1 g js) (rank_places g js) (λ group. length (group_list t js group)) (at_point t js) (range_with_len 0 (rank_count g)) (list_at t g js h)

  pub same_count : (t : Criterion) (g e : Division) (js : List Particle) → IsDivision g → IsDivision e → AreInCube js → sum_by (λ group. length (group_list t js group)) (all_groups 1 g js) ≡ sum_by (λ group. length (group_list t js group)) (all_groups 1 e js)
  same_count t g e js d f h =
      count_at t g js h
      ∙ same_sum (at_point t js) (places g js) (places e js) (once_places g js h) (once_places e js h) (moves_over g e js f h) (moves_over e g js d h)
      ∙ sym (count_at t e js h)

  pub box_with : (g : Division) (js : List Particle) (j : Particle) → AreInCube js → In j js → box_of (group_with 1 g js j).members ≡ point j.at
  box_with g js j h i = box_at (own_of g js (owner g js j.at)) j (own_in_cube g js (owner g js j.at) h) (own_in g js j i)
