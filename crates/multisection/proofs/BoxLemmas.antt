-- The domain boxes of ranks.
use Rattle.std.proofs.Common.{◌≡◌, ℕ, zero, suc, ◌+◌, ◌/◌, ◌%◌, ◌<◌, ◌≤◌, Bool, true, false, cond, ◌||◌, List, [], ◌∷◌, length, get_or, set, take, map, nat_eq, replicate, Option, Some, None, inl, inr, refl, sym, ◌∙◌, ap, subst, arith}
use Rattle.std.specs.List.{All, filter, list_any, range_with_len}
use Rattle.std.specs.Option.{IfSome}
use Rattle.std.proofs.lemmas.Bool.{both_ways, or_parts, cases_lt, cases_eq, cond-true, cond-false, cond_both, eqb-true, eq-eqb, ne_eqb, or_right, or_cases}
use Rattle.std.proofs.lemmas.List.{same_lists, length-set, get_or-set_same, get_or-set_other, get_or_past}
use Rattle.std.proofs.lemmas.List.Elements.{All-get_or}
use Rattle.std.proofs.lemmas.List.Folds.{list_any_more, list_any_none, Any-from_list_any}
use Rattle.std.proofs.lemmas.List.FromFn.{length-map-range_with_len, get_or-map-range_with_len}
use Rattle.pf_geom.specs.Position.{Position, IsPosition}
use Rattle.pf_geom.specs.Bounds.{Bounds}
use Rattle.pf_model.specs.Particle.{Particle}
use Rattle.pf_model.specs.Division.{Division, IsDivision, rank_count}
use Rattle.pf_model.specs.Domains.{Multisection, IsMultisection, cuts_in_slab, cuts_in_column, slab_start, slab_end, owner_by, box_by, cuts_for, owner, domain_box}
use Rattle.model_laws.specs.DomainLaws.{OwnersAreRanks, BoxesByCutsHoldWhatIsOwned}
use Rattle.multisection.specs.Regions.{HoldsWhatIsOwned, AreRegions, IsTarget, AreTargets, box_where_owned, boxes_by, regions_by, regions_of}

-- one end of a rank's box
abbrev pub corner : (List ℕ → ℕ → ℕ) → Multisection → ℕ → Position
corner edge s rank =
    let ix = rank / s.grid.nz / s.grid.ny in
    let iy = rank / s.grid.nz % s.grid.ny in
    let iz = rank % s.grid.nz in
    record { x = edge s.x ix; y = edge (cuts_in_slab s ix) iy; z = edge (cuts_in_column s ix iy) iz }

pub box_by-corners : (s : Multisection) (rank : ℕ) → box_by s rank ≡ record { lo = corner slab_start s rank; hi = corner slab_end s rank }
unfolding box_by
box_by-corners s rank = refl

-- the places of a rank and the cuts there
pub record HasPlaces (s : Multisection) (rank ix iy iz : ℕ) (x y z : List ℕ) : Type 0 where
  pub x_place : ix ≡ rank / s.grid.nz / s.grid.ny
  pub y_place : iy ≡ rank / s.grid.nz % s.grid.ny
  pub z_place : iz ≡ rank % s.grid.nz
  pub x_cuts : x ≡ s.x
  pub y_cuts : y ≡ cuts_in_slab s ix
  pub z_cuts : z ≡ cuts_in_column s ix iy

pub corner_is : (edge : List ℕ → ℕ → ℕ) (s : Multisection) (rank ix iy iz : ℕ) (x y z : List ℕ) → HasPlaces s rank ix iy iz x y z → (a b d : ℕ) → a ≡ edge x ix → b ≡ edge y iy → d ≡ edge z iz → record { x = a; y = b; z = d } ≡ corner edge s rank
corner_is edge s rank ix iy iz x y z h a b d at_x at_y at_z =
    let to_x : a ≡ (corner edge s rank).x = at_x ∙ (λ i. edge (h.x_cuts i) (h.x_place i)) in
    let to_y : b ≡ (corner edge s rank).y = at_y ∙ ap (λ (l : List ℕ). edge l iy) h.y_cuts ∙ (λ i. edge (cuts_in_slab s (h.x_place i)) (h.y_place i)) in
    let to_z : d ≡ (corner edge s rank).z = at_z ∙ ap (λ (l : List ℕ). edge l iz) h.z_cuts ∙ (λ i. edge (cuts_in_column s (h.x_place i) (h.y_place i)) (h.z_place i)) in
    λ i. record { x = to_x i; y = to_y i; z = to_z i }

-- no rank owns one of no particles
pub boxes_none : (s : Multisection) (start n : ℕ) → replicate n None ≡ map (box_where_owned s []) (range_with_len start n)
boxes_none s start zero = refl
boxes_none s start (suc n) = ap (λ l. None ∷ l) (boxes_none s (start + 1) n)

or_none : (b : Bool) → (b || false) ≡ b
or_none true = refl
or_none false = refl

-- one particle more
abbrev owns : Multisection → ℕ → Particle → Bool
owns s rank j = nat_eq (owner_by s j.at) rank

pub boxes_more : (s : Multisection) (js : List Particle) (i : ℕ) (j : Particle) (boxes : List (Option Bounds)) (rank : ℕ) (box : Bounds) → i < length js → j ≡ get_or js i j →
    boxes ≡ boxes_by s (take i js) → rank ≡ owner_by s j.at → rank < rank_count s.grid → box ≡ box_by s rank → set boxes rank (Some box) ≡ boxes_by s (take (i + 1) js)
boxes_more s js i j boxes rank box within is were own below box_is =
    let n = rank_count s.grid in
    let before = box_where_owned s (take i js) in
    let after = box_where_owned s (take (i + 1) js) in
    let long : length boxes ≡ n = ap length were ∙ length-map-range_with_len before 0 n in
    let long_after = length-map-range_with_len after 0 n in
    let long_set = length-set boxes rank (Some box) in
    same_lists (set boxes rank (Some box)) (boxes_by s (take (i + 1) js)) (omega arith)
    (λ k d inside.
    let there : get_or (boxes_by s (take (i + 1) js)) k d ≡ after k = get_or-map-range_with_len after 0 n k k d (omega arith) (omega arith) in
    let more : list_any (owns s k) (take (i + 1) js) ≡ (list_any (owns s k) (take i js) || owns s k j) =
    list_any_more (owns s k) js i j within ∙ ap (λ (p : Particle). list_any (owns s k) (take i js) || owns s k p) (sym is) in
    elim (cases_eq k rank) [
      | inl same ↦
          let owned : owns s k j ≡ true = eq-eqb (owner_by s j.at) k (omega arith) in
          let here : after k ≡ Some (box_by s k) = cond-true (list_any (owns s k) (take (i + 1) js)) (Some (box_by s k)) None (more ∙ or_right _ _ owned) in
          ap (λ (m : ℕ). get_or (set boxes rank (Some box)) m d) same ∙ get_or-set_same boxes rank (Some box) d (omega arith)
          ∙ ap Some (box_is ∙ ap (box_by s) (sym same)) ∙ sym here ∙ sym there
      | inr other ↦
          let not_owned : owns s k j ≡ false = ne_eqb (owner_by s j.at) k (λ e. other (omega arith)) in
          let kept : list_any (owns s k) (take (i + 1) js) ≡ list_any (owns s k) (take i js) = more ∙ ap (λ (b : Bool). list_any (owns s k) (take i js) || b) not_owned ∙ or_none (list_any (owns s k) (take i js)) in
          let then : get_or (boxes_by s (take i js)) k d ≡ before k = get_or-map-range_with_len before 0 n k k d (omega arith) (omega arith) in
          get_or-set_other boxes rank k (Some box) d other ∙ ap (λ (l : List (Option Bounds)). get_or l k d) were ∙ then
          ∙ ap (λ (b : Bool). cond b (Some (box_by s k)) None) (sym kept) ∙ sym there
    ])

-- where a rank owns a particle, its box holds what it owns
pub regions_hold : BoxesByCutsHoldWhatIsOwned → (s : Multisection) (js : List Particle) → IsMultisection s → All (λ j. IsPosition j.at) js → AreRegions (regions_by s js)
regions_hold law s js cuts places = record {
  cuts = cuts;
  counted = length-map-range_with_len (box_where_owned s js) 0 (rank_count s.grid);
  hold = λ rank.
      let holds = λ (o : Option Bounds). IfSome o (HoldsWhatIsOwned s rank) in
      elim (cases_lt rank (rank_count s.grid)) [
        | inl within ↦
            let is : get_or (boxes_by s js) rank None ≡ box_where_owned s js rank = get_or-map-range_with_len (box_where_owned s js) 0 (rank_count s.grid) rank rank None within (omega arith) in
            subst holds (sym is) (cond_both (list_any (owns s rank) js) (Some (box_by s rank)) None holds
            (λ some.
            let any = Any-from_list_any (owns s rank) js some in
            let j : Particle = any.1 in
            let own : owner_by s j.at ≡ rank = eqb-true (owner_by s j.at) rank any.4 in
            let place : IsPosition j.at = subst (λ (p : Particle). IsPosition p.at) any.3 (All-get_or (λ (p : Particle). IsPosition p.at) js any.0 j any.2 places) in
            subst (λ (n : ℕ). HoldsWhatIsOwned s n (box_by s n)) own (law s j.at cuts place).1)
            (λ none. tt))
        | inr past ↦ (let long = length-map-range_with_len (box_where_owned s js) 0 (rank_count s.grid) in subst holds (sym (get_or_past (boxes_by s js) rank None (omega arith))) tt)
      ];
}

none_pass : {E : Type 0} (p : E → Bool) (xs : List E) → list_any p xs ≡ false → filter p xs ≡ []
none_pass p [] e = refl
none_pass p (x ∷ xs) e = (let both = or_parts (p x) (list_any p xs) e in cond-false (p x) (x ∷ filter p xs) (filter p xs) both.0 ∙ none_pass p xs both.1)

some_pass : {E : Type 0} (p : E → Bool) (xs : List E) → list_any p xs ≡ true → 1 ≤ length (filter p xs)
some_pass p [] e = absurd (both_ways false refl e)
some_pass p (x ∷ xs) e =
    cond_both (p x) (x ∷ filter p xs) (filter p xs) (λ l. 1 ≤ length l) (λ yes. omega arith)
    (λ no. some_pass p xs (elim (or_cases (p x) (list_any p xs) e) [ inl h ↦ absurd (both_ways (p x) no h) | inr h ↦ h ]))

-- the box of each rank is its target
pub targets_are : OwnersAreRanks → (g : Division) (js : List Particle) → IsDivision g → AreTargets g js (regions_of g js)
unfolding owner domain_box cuts_for
targets_are law g js division rank =
    let s : Multisection = cuts_for g js in
    let own = owns s rank in
    let target = λ (o : Option Bounds). IsTarget g js rank o in
    elim (cases_lt rank (rank_count g)) [
      | inl within ↦
          let is : get_or (boxes_by s js) rank None ≡ box_where_owned s js rank = get_or-map-range_with_len (box_where_owned s js) 0 (rank_count g) rank rank None within (omega arith) in
          subst target (sym is) (cond_both (list_any own js) (Some (box_by s rank)) None target (λ some. (refl, some_pass own js some)) (λ none. none_pass own js none))
      | inr past ↦
          let long = length-map-range_with_len (box_where_owned s js) 0 (rank_count g) in
          let none : list_any own js ≡ false = list_any_none own js (λ k d h. let below = law g js (get_or js k d).at division in ne_eqb (owner_by s (get_or js k d).at) rank (λ e. omega arith)) in
          subst target (sym (get_or_past (boxes_by s js) rank None (omega arith))) (none_pass own js none)
    ]
