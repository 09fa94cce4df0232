-- Groups: their levels, their cells, and the particles in these.
use Rattle.std.proofs.Common.{◌≡◌, ℕ, zero, suc, ◌+◌, ◌-◌, ◌*◌, ◌/◌, ◌^◌, ◌<◌, ◌≤◌, false, List, [], length, map, get_or, Option, Some, None, unwrap_or, refl, sym, ◌∙◌, ap, subst, arith, rules, inl, inr, ◌∷◌}
use Rattle.std.proofs.Math.Nat.{mul_assoc, mul-div_cancel, pow-suc}
use Rattle.std.proofs.lemmas.Nat.{pow-add}
use Rattle.std.proofs.lemmas.Bool.{cases_lt, leb-true, leb-false, le-leb, lt-leb, ltb-true, ltb-false, lt-ltb}
use Rattle.std.proofs.lemmas.List.{get_or_default, length-map}
use Rattle.pf_geom.specs.Position.{Position}
use Rattle.pf_geom.specs.Octant.{Octant, cell_at, ancestor_at, IsIn}
use Rattle.pf_geom.specs.CellLaws.{CellsOfAPositionNest, PositionsShareLowerCells}
use Rattle.order_laws.specs.Order.{least_below}
use Rattle.order_laws.specs.OrderLaws.{RisingListsAreOne, OrdersAreShort}
use Rattle.std.specs.List.{AllPairs, Contains}
use Rattle.pf_model.specs.Particle.{Particle}
use Rattle.pf_model.specs.Group.{particles_in, group_level, group_cell, has_lower_corner, group_cells}
use Rattle.model_laws.specs.GroupLaws.{IsGroupLevel, GroupLevelsAreLeast, PositionsShareTheirGroup, MembersShareTheirGroup, AreGroupCells, GroupCellsAreOrdered, EachIsInOneGroup, GroupsAreFew}
use Rattle.order_laws.specs.OrderLaws.{IsLeast}
use Rattle.order_laws.proofs.LeastLemmas.{IsLeast-least_below}
use Rattle.order_laws.proofs.OrderLemmas.{In, IsStrict, IsConnected, IsAscending, IsAscending-in_order, in_from_in_order, in_order_from_in}
use Rattle.order_laws.proofs.ElementLemmas.{in_from_contains, contains_from_in, before_at, one_place}
use Rattle.pf_model.proofs.EntryLemmas.{same_cell}
use Rattle.pf_model.proofs.GroupLemmas.{is_few_at, level_from_none_few, level_from_few}
use Rattle.model_laws.proofs.MemberLemmas.{in_cell, cell_has}

-- what the least level is
IsGroupLevel-from_least : (limit : ℕ) (own : List Particle) (p : Position) (o : Option ℕ) → IsLeast (is_few_at limit own p) 31 o → IsGroupLevel limit own p (unwrap_or o 30)
IsGroupLevel-from_least limit own p None h = record {
  within = omega arith;
  few = λ less. absurd (omega arith);
  many_above = λ lower less. leb-false _ _ (h lower (omega arith));
}
IsGroupLevel-from_least limit own p (Some level) h = record {
  within = (let below : level < 31 = h.0 in omega arith);
  few = λ less. leb-true _ _ h.1;
  many_above = λ lower less. leb-false _ _ (h.2 lower less);
}

pub group_level-is : (limit : ℕ) (own : List Particle) (p : Position) → IsGroupLevel limit own p (group_level limit own p)
unfolding group_level
group_level-is limit own p = IsGroupLevel-from_least limit own p (least_below (is_few_at limit own p) 31) (IsLeast-least_below (is_few_at limit own p) 31)

level_from_is : (limit : ℕ) (own : List Particle) (p : Position) (level : ℕ) → IsGroupLevel limit own p level → level ≡ group_level limit own p
level_from_is limit own p level h =
    let within = h.within in
    let many : (lower : ℕ) → lower < level → is_few_at limit own p lower ≡ false = λ lower less. lt-leb _ _ (h.many_above lower less) in
    elim (cases_lt level 30) [
      | inl less ↦ sym (level_from_few limit own p (Some level) (omega arith, le-leb _ _ (h.few less), many))
      | inr more ↦
          let last : level ≡ 30 = omega arith in
          last ∙ sym (level_from_none_few limit own p (λ i below. many i (omega arith)))
    ]

pub group_levels_are_least : GroupLevelsAreLeast
group_levels_are_least limit own p level = (
  λ e. let P : ℕ → Type 0 = λ n. IsGroupLevel limit own p n in subst P (sym e) (group_level-is limit own p),
  level_from_is limit own p level,
)

-- positions of one cell have as many particles in each cell above it
pub share_group_cell : PositionsShareLowerCells → PositionsShareTheirGroup
share_group_cell share limit own p q same =
    let level = group_level limit own p in
    let is = group_level-is limit own p in
    let count : (lower : ℕ) → lower ≤ level → length (particles_in (cell_at q lower) own) ≡ length (particles_in (cell_at p lower) own) = λ lower above.
    ap (λ (o : Octant). length (particles_in o own)) (share q p lower level above is.within same) in
    let here : IsGroupLevel limit own q level = record {
      within = is.within;
      few = λ less. (let e = count level (omega arith) in let few = is.few less in omega arith);
      many_above = λ lower less. (let e = count lower (omega arith) in let many = is.many_above lower less in omega arith);
    } in
    ap (cell_at q) (sym (level_from_is limit own q level here)) ∙ same

-- the members of a group
pub members_share_their_group : PositionsShareLowerCells → MembersShareTheirGroup
members_share_their_group share limit own i j inside =
    let c = group_cell limit own i.at in (
      cell_has c own i inside refl,
      (
        λ h. (let both = in_cell c own j h in (both.0, share_group_cell share limit own i.at j.at both.1)),
        λ h. cell_has c own j h.0 (ap (λ (o : Octant). cell_at j.at o.level) (sym h.1) ∙ h.1),
      ),
    )

-- the key of a cell's corner
abbrev corner_key : Octant → ℕ
corner_key c = c.key * 8 ^ (30 - c.level)

has_lower_corner-strict : IsStrict has_lower_corner
has_lower_corner-strict = record {
  irreflexive = λ c e. (let below = ltb-true (corner_key c) (corner_key c) e in omega arith);
  transitive = λ c d e h k. lt-ltb (corner_key c) (corner_key e) (let a = ltb-true (corner_key c) (corner_key d) h in let b = ltb-true (corner_key d) (corner_key e) k in omega arith);
}

eight_pos : (n : ℕ) → 0 < 8 ^ n
eight_pos zero = omega arith
eight_pos (suc n) = omega (arith, pow-suc 8 n, eight_pos n)

-- a deeper cell with the corner of another lies in it
above_corner : (k m shallow deep : ℕ) → shallow ≤ deep → deep ≤ 30 → k * 8 ^ (30 - shallow) ≡ m * 8 ^ (30 - deep) → (m / 8 ^ (deep - shallow)) ≡ k
above_corner k m shallow deep order within same =
    let whole : (deep - shallow) + (30 - deep) ≡ 30 - shallow = omega arith in
    let wide = 8 ^ (deep - shallow) in
    let thin = 8 ^ (30 - deep) in
    let widths : 8 ^ (30 - shallow) ≡ wide * thin = ap (λ n. 8 ^ n) (sym whole) ∙ pow-add 8 (deep - shallow) (30 - deep) in
    let split : k * (wide * thin) ≡ m * thin = ap (λ n. k * n) (sym widths) ∙ same in
    let grouped : (k * wide) * thin ≡ m * thin = mul_assoc k wide thin ∙ split in
    let m_is : k * wide ≡ m = sym (mul-div_cancel (k * wide) (eight_pos (30 - deep))) ∙ ap (λ n. n / thin) grouped ∙ mul-div_cancel m (eight_pos (30 - deep)) in
    ap (λ n. n / wide) (sym m_is) ∙ mul-div_cancel k (eight_pos (deep - shallow))

-- groups whose cells have one corner are one
same_corner : CellsOfAPositionNest → PositionsShareLowerCells → (limit : ℕ) (own : List Particle) (p q : Position) → group_level limit own p ≤ group_level limit own q →
    corner_key (group_cell limit own p) ≡ corner_key (group_cell limit own q) → group_cell limit own q ≡ group_cell limit own p
same_corner nest share limit own p q order same =
    let a = group_level limit own p in
    let b = group_level limit own q in
    let within = (group_level-is limit own q).within in
    let key : (cell_at q b).key / 8 ^ (b - a) ≡ (cell_at p a).key = above_corner (cell_at p a).key (cell_at q b).key a b order within same in
    let inside : cell_at q a ≡ cell_at p a = sym (nest q a b order within) ∙ same_cell (ancestor_at (cell_at q b) a) (cell_at p a) refl key in
    share_group_cell share limit own p q inside

corners_agree : (c d : Octant) → has_lower_corner c d ≡ false → has_lower_corner d c ≡ false → corner_key c ≡ corner_key d
corners_agree c d h k =
    let low = ltb-false (corner_key c) (corner_key d) h in
    let high = ltb-false (corner_key d) (corner_key c) k in
    omega arith

one_corner : CellsOfAPositionNest → PositionsShareLowerCells → (limit : ℕ) (own : List Particle) (p q : Position) → corner_key (group_cell limit own p) ≡ corner_key (group_cell limit own q) → group_cell limit own q ≡ group_cell limit own p
one_corner nest share limit own p q same =
    elim (cases_lt (group_level limit own q) (group_level limit own p)) [
      | inl less ↦ sym (same_corner nest share limit own q p (omega arith) (sym same))
      | inr more ↦ same_corner nest share limit own p q more same
    ]

-- the cell of a particle's group
abbrev cell_of_group : ℕ → List Particle → Particle → Octant
cell_of_group limit own = λ i. group_cell limit own i.at

-- an element that f gives
abbrev pub IsGiven : {X Y : Type 0} → (X → Y) → List X → Y → Type 0
IsGiven {X} f xs y = (x : X) × In x xs × (y ≡ f x)

pub given_from_map : {X Y : Type 0} (f : X → Y) (xs : List X) (y : Y) → In y (map f xs) → IsGiven f xs y
given_from_map f [] y i = absurd i
given_from_map f (x ∷ xs) y (inl e) = (x, inl refl, sym e)
given_from_map f (x ∷ xs) y (inr h) =
    let rest = given_from_map f xs y h in
    (rest.0, inr rest.1, rest.2)

pub given_in_map : {X Y : Type 0} (f : X → Y) (xs : List X) (x : X) → In x xs → In (f x) (map f xs)
given_in_map f [] x i = absurd i
given_in_map f (y ∷ ys) x (inl e) = inl (ap f e)
given_in_map f (y ∷ ys) x (inr h) = inr (given_in_map f ys x h)

IsConnected-cells : CellsOfAPositionNest → PositionsShareLowerCells → (limit : ℕ) (own : List Particle) → IsConnected has_lower_corner (map (cell_of_group limit own) own)
IsConnected-cells nest share limit own c d i k h l =
    let f = cell_of_group limit own in
    let from_c = given_from_map f own c i in
    let from_d = given_from_map f own d k in
    let corners : corner_key (f from_c.0) ≡ corner_key (f from_d.0) =
    sym (ap corner_key from_c.2) ∙ corners_agree c d h l ∙ ap corner_key from_d.2 in
    from_d.2 ∙ one_corner nest share limit own from_c.0.at from_d.0.at corners ∙ sym from_c.2

cells-ascend : (limit : ℕ) (own : List Particle) → IsAscending has_lower_corner (group_cells limit own)
unfolding group_cells
cells-ascend limit own = IsAscending-in_order has_lower_corner has_lower_corner-strict (map (cell_of_group limit own) own)

cells-sound : (limit : ℕ) (own : List Particle) (c : Octant) → In c (group_cells limit own) → IsGiven (cell_of_group limit own) own c
unfolding group_cells
cells-sound limit own c i =
    given_from_map (cell_of_group limit own) own c (in_from_in_order has_lower_corner (map (cell_of_group limit own) own) c i)

cells-complete : CellsOfAPositionNest → PositionsShareLowerCells → (limit : ℕ) (own : List Particle) (j : Particle) → In j own → In (cell_of_group limit own j) (group_cells limit own)
unfolding group_cells
cells-complete nest share limit own j i =
    let f = cell_of_group limit own in
    in_order_from_in has_lower_corner (map f own) (IsConnected-cells nest share limit own) (f j) (given_in_map f own j i)

AreGroupCells-group_cells : CellsOfAPositionNest → PositionsShareLowerCells → (limit : ℕ) (own : List Particle) → AreGroupCells limit own (group_cells limit own)
AreGroupCells-group_cells nest share limit own = record {
  ordered = λ i j d less within. search (rules, before_at has_lower_corner (group_cells limit own) (cells-ascend limit own) i j d less within);
  complete = λ j h. contains_from_in (group_cells limit own) (cell_of_group limit own j) (cells-complete nest share limit own j (in_from_contains own j h));
  sound = λ c h.
      let found = cells-sound limit own c (in_from_contains (group_cells limit own) c h) in
      (found.0, contains_from_in own found.0 found.1, found.2);
}

-- the corners of group cells rise
corners-rise : (limit : ℕ) (own : List Particle) (cells : List Octant) → AreGroupCells limit own cells → AllPairs (λ c d. corner_key c < corner_key d) cells
corners-rise limit own cells are i j d less within = ltb-true (corner_key (get_or cells i d)) (corner_key (get_or cells j d)) (are.ordered i j d less within)

-- a cell of one list stands in the other
also_there : (limit : ℕ) (own : List Particle) (cs ds : List Octant) → AreGroupCells limit own cs → AreGroupCells limit own ds → (c : Octant) → Contains cs c → Contains ds c
also_there limit own cs ds a b c h =
    let found = a.sound c h in
    subst (Contains ds) (sym found.2) (b.complete found.0 found.1)

same_cells : RisingListsAreOne Octant → (limit : ℕ) (own : List Particle) (cs ds : List Octant) → AreGroupCells limit own cs → AreGroupCells limit own ds → cs ≡ ds
same_cells rising limit own cs ds a b =
    rising corner_key cs ds (corners-rise limit own cs a) (corners-rise limit own ds b) (λ c. (also_there limit own cs ds a b c, also_there limit own ds cs b a c))

pub group_cells_are_ordered : RisingListsAreOne Octant → CellsOfAPositionNest → PositionsShareLowerCells → GroupCellsAreOrdered
group_cells_are_ordered rising nest share limit own cells = (
  λ h. same_cells rising limit own cells (group_cells limit own) h (AreGroupCells-group_cells nest share limit own),
  λ e. subst (AreGroupCells limit own) (sym e) (AreGroupCells-group_cells nest share limit own),
)

-- one cell of a group holds a particle
pub each_is_in_one_group : CellsOfAPositionNest → PositionsShareLowerCells → EachIsInOneGroup
each_is_in_one_group nest share limit own j inside =
    let cells = group_cells limit own in
    let c = group_cell limit own j.at in
    let are = AreGroupCells-group_cells nest share limit own in
    let there = are.complete j inside in
    let at_place : (d : Octant) → get_or cells there.0 d ≡ c = λ d. get_or_default cells there.0 d c there.1 ∙ there.2 in
    let only : (i : ℕ) (d : Octant) → i < length cells → IsIn j.at (get_or cells i d) → i ≡ there.0 = λ i d within h.
    (let o = get_or cells i d in
    let from = are.sound o (i, within, get_or_default cells i o d within) in
    let own_cell : c ≡ o = share_group_cell share limit own from.0.at j.at (ap (λ (b : Octant). cell_at j.at b.level) (sym from.2) ∙ h ∙ from.2) ∙ sym from.2 in
    one_place has_lower_corner has_lower_corner-strict cells (cells-ascend limit own) i there.0 d within there.1 (sym own_cell ∙ sym (at_place d))) in
    let found : (i : ℕ) (d : Octant) → i < length cells → i ≡ there.0 → IsIn j.at (get_or cells i d) = λ i d within e.
    (let is : get_or cells i d ≡ c = ap (λ (n : ℕ). get_or cells n d) e ∙ at_place d in
    ap (λ (b : Octant). cell_at j.at b.level) is ∙ sym is) in
    (there.0, there.1, λ i d within. (only i d within, found i d within))

-- there are no more groups than particles
pub groups_are_few : OrdersAreShort Octant → GroupsAreFew
unfolding group_cells
groups_are_few short limit own =
    let long = short has_lower_corner (map (cell_of_group limit own) own) in
    let same = length-map own (cell_of_group limit own) in
    omega arith
