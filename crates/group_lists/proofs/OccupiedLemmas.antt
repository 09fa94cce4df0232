-- The pieces in whose cell something stands that was gathered before.
use Rattle.std.proofs.Common.{◌≡◌, ℕ, suc, ◌+◌, ◌<◌, ◌≤◌, Bool, true, false, cond, ◌||◌, List, [], ◌∷◌, length, map, Option, Some, None, inl, inr, refl, sym, ◌∙◌, ap, subst, arith, nat_eq}
use Rattle.std.specs.List.{list_any, count_by, Contains}
use Rattle.std.specs.List.Sorted.{IsPermutation}
use Rattle.std.proofs.lemmas.Bool.{eqb-true, eq-eqb, or_cases, or_left, or_right, and_parts, and_from, false_from_ne_true, true≢false, ltb-false, not-true, not_from_false}
use Rattle.std.proofs.lemmas.List.{get_or-map, length-map}
use Rattle.std.proofs.lemmas.List.Elements.{All-contains}
use Rattle.std.proofs.lemmas.List.Folds.{list_any_at}
use Rattle.std.proofs.lemmas.List.Sums.{sum_by-cons}
use Rattle.std.proofs.lemmas.List.Sorted.{Contains-permutation, IsPermutation-sym}
use Rattle.order_laws.specs.OrderLaws.{TestsKeepWhatPasses}
use Rattle.pf_geom.specs.Position.{Position}
use Rattle.pf_geom.specs.Bounds.{Bounds}
use Rattle.pf_geom.specs.Octant.{Octant, IsCell, cell_at, ancestor_at}
use Rattle.pf_geom.specs.CellLaws.{CellsOfAPositionNest}
use Rattle.pf_model.specs.declared.entry.Entry.{Entry}
use Rattle.pf_model.specs.declared.entry.Entry.TheVariants.{Cell, One}
use Rattle.pf_model.specs.Particle.{Particle}
use Rattle.pf_model.specs.Particles.{AreBodies}
use Rattle.pf_model.specs.Criterion.{Criterion, Passes}
use Rattle.pf_model.specs.Division.{Division}
use Rattle.pf_model.specs.Domains.{owner, particles_of, domain_box}
use Rattle.pf_model.specs.Totals.{Totals}
use Rattle.pf_model.specs.Sums.{moment_of}
use Rattle.pf_model.specs.Group.{particles_in}
use Rattle.pf_model.specs.Interaction.{level_of, is_cell, entry_at, entry_of, comes_before, list_of}
use Rattle.pf_model.specs.Merging.{is_level, common_count}
use Rattle.model_laws.specs.ListLaws.{ListsHoldTheirEntries, ListsHoldFirstCells, ListsHoldNearParticles, EntryOrderIsStrict, IsFirstCell}
use Rattle.model_laws.specs.ParticleLaws.{SomeHaveDistinctIds, ParticlesOfOneIdAreOne}
use Rattle.model_laws.specs.DomainLaws.{OneRankHasItsOwn}
use Rattle.pf_model.specs.EssentialTree.{Essential, tree_for, essential_tree, particles_of_ranks}
use Rattle.morton_tree.specs.declared.group.Group.{Group}
use Rattle.group_lists.specs.Gathering.{Gathering, IsNewSource, IsSentTo, CanAbsorb}
use Rattle.group_lists.specs.Keyed.{IsServed, item_position}
use Rattle.group_lists.specs.Pieces.{is_occupied}
use Rattle.group_lists.proofs.ElementLemmas.{contains_more, head_or_rest}
use Rattle.group_lists.proofs.CellLemmas.{NonePassesBelow}
use Rattle.group_lists.proofs.MergeLemmas.{level_octant}
use Rattle.group_lists.proofs.PositionLemmas.{PositionLaws, AreNested, item_shares_at, item_shares_from}
use Rattle.group_lists.proofs.PieceLemmas.{before_of}

-- two tests that agree on the elements count alike
count_agree : {X : Type 0} (p q : X → Bool) (xs : List X) → ((x : X) → Contains xs x → p x ≡ q x) → count_by p xs ≡ count_by q xs
count_agree p q [] h = refl
count_agree p q (x ∷ xs) h =
    let here : p x ≡ q x = h x (0, omega arith, refl) in
    let rest = count_agree p q xs (λ y i. h y (suc i.0, (let within : i.0 < length xs = i.1 in omega arith), i.2)) in
    sum_by-cons _ x xs ∙ (λ k. cond (here k) 1 0 + rest k) ∙ sym (sum_by-cons _ x xs)

pub same_from_both : (a b : Bool) → (a ≡ true → b ≡ true) → (b ≡ true → a ≡ true) → a ≡ b
same_from_both true true h k = refl
same_from_both true false h k = sym (h refl)
same_from_both false true h k = k refl
same_from_both false false h k = refl

-- an element that passes
found_in : {X : Type 0} (p : X → Bool) (xs : List X) → list_any p xs ≡ true → (x : X) × Contains xs x × (p x ≡ true)
found_in p [] e = absurd (true≢false (sym e))
found_in p (x ∷ xs) e =
    elim (or_cases _ _ e) [
      | inl h ↦ (x, (0, omega arith, refl), h)
      | inr h ↦
          let rest = found_in p xs h in
          let within : rest.1.0 < length xs = rest.1.1 in
          (rest.0, (suc rest.1.0, omega arith, rest.1.2), rest.2)
    ]

any_from : {X : Type 0} (p : X → Bool) (xs : List X) (x : X) → Contains xs x → p x ≡ true → list_any p xs ≡ true
any_from p xs x h e = list_any_at p xs h.0 x h.1 (ap p h.2 ∙ e)

-- what a list seen through a function has
pub mapped_from : {X Y : Type 0} (h : X → Y) (xs : List X) (y : Y) → Contains (map h xs) y → (x : X) × Contains xs x × (h x ≡ y)
mapped_from h [] y i = absurd (omega (arith, i.1))
mapped_from h (x ∷ xs) y i =
    elim (head_or_rest (h x) (map h xs) y i) [
      | inl e ↦ (x, (0, omega arith, refl), e)
      | inr k ↦ (let rest = mapped_from h xs y k in (rest.0, contains_more x xs rest.0 rest.1, rest.2))
    ]

pub mapped_in : {X Y : Type 0} (h : X → Y) (xs : List X) (x : X) → Contains xs x → Contains (map h xs) (h x)
mapped_in h xs x i = (i.0, (let within : i.0 < length xs = i.1 in let long = length-map xs h in omega arith), get_or-map h xs i.0 x (h x) i.1 ∙ ap h i.2)

-- the cell of an entry is a cell
abbrev pub IsCellEntry : Entry → Type 0
IsCellEntry (Cell c m) = IsCell c
IsCellEntry (One p) = Unit {0}

pub cell_entry : PositionLaws → (t : Criterion) (box : Bounds) (js : List Particle) (j : Particle) (o : Option ℕ) → level_of t box j.at ≡ o → IsCellEntry (entry_at t box js j o)
cell_entry laws t box js j None e = tt
cell_entry laws t box js j (Some level) e = laws.cells j.at level (((laws.levels t box j.at).1 level).0 e).within

pub same_octant : (c d : Octant) → is_cell c d ≡ true → d ≡ c
same_octant c d e =
    let level = eqb-true c.level d.level (and_parts _ _ e).0 in
    let key = eqb-true c.key d.key (and_parts _ _ e).1 in
    λ i. record { level = sym level i; key = sym key i }

pub octant_same : (c d : Octant) → d ≡ c → is_cell c d ≡ true
octant_same c d e = and_from _ _ (eq-eqb c.level d.level (ap (λ (o : Octant). o.level) (sym e))) (eq-eqb c.key d.key (ap (λ (o : Octant). o.key) (sym e)))

tree_is : (is : List Particle) (es : List Entry) → 1 ≤ length is → tree_for is es ≡ es
tree_is [] es some = absurd (omega arith)
tree_is (i ∷ is) es some = refl

pub served_tree : (t : Criterion) (g : Division) (js : List Particle) (src dst : ℕ) → 1 ≤ length (particles_of g js dst) → essential_tree t g js src dst ≡ list_of t (domain_box g js dst) (particles_of g js src)
unfolding essential_tree
served_tree t g js src dst some = tree_is (particles_of g js dst) (list_of t (domain_box g js dst) (particles_of g js src)) some

first_of_list : {X : Type 0} (xs : List X) → 1 ≤ length xs → (x : X) × Contains xs x
first_of_list [] some = absurd (omega arith)
first_of_list (x ∷ xs) some = (x, (0, omega arith, refl))

count_some : {X : Type 0} (xs : List X) (x : X) → Contains xs x → 1 ≤ length xs
count_some xs x h = let within : h.0 < length xs = h.1 in omega arith

-- which entries stand at the place of a cell or a particle
level_with_itself : EntryOrderIsStrict → (c : Octant) (m n : Totals) → is_level (Cell c m) (Cell c n) ≡ true
level_with_itself strict c m n =
    let none : comes_before (Cell c m) (Cell c m) ≡ false = false_from_ne_true _ (strict.irreflexive (Cell c m)) in
    and_from _ _ (not_from_false _ none) (not_from_false _ none)

level_cell : (c : Octant) (m : Totals) (f : Entry) → is_level (Cell c m) f ≡ true → (n : Totals) × (f ≡ Cell c n)
level_cell c m (Cell d n) e =
    let same = level_octant c d m n (not-true _ (and_parts _ _ e).0) (not-true _ (and_parts _ _ e).1) in
    (n, ap (λ (o : Octant). Cell o n) same)
level_cell c m (One q) e = absurd (true≢false (sym e))

level_one : (p : Particle) (f : Entry) → is_level (One p) f ≡ true → (q : Particle) × (f ≡ One q) × (p.id ≡ q.id)
level_one p (Cell d n) e = absurd (true≢false (sym e))
level_one p (One q) e =
    let a = ltb-false p.id q.id (not-true _ (and_parts _ _ e).0) in
    let b = ltb-false q.id p.id (not-true _ (and_parts _ _ e).1) in
    (q, refl, omega arith)

-- the laws of lists
pub record ListLaws : Type 0 where
  pub positions : PositionLaws
  pub nest : CellsOfAPositionNest
  pub entries : ListsHoldTheirEntries
  pub first_cells : ListsHoldFirstCells
  pub near : ListsHoldNearParticles
  pub some : SomeHaveDistinctIds
  pub ids : ParticlesOfOneIdAreOne
  pub one_rank : OneRankHasItsOwn
  pub passing : TestsKeepWhatPasses Particle
  pub strict : EntryOrderIsStrict

module _ (laws : ListLaws) (t : Criterion) (g : Division) (js : List Particle) (gather : Gathering) (src : ℕ) (group : Group) (theta : Criterion) (trees : List Essential) (bodies : AreBodies js) (new : IsNewSource g gather src)
    (own : IsPermutation gather.own (particles_of g js gather.rank)) (absorbs : CanAbsorb t g js gather theta trees) (served : IsServed g js gather.rank group.around) where
  abbrev box : Bounds
  box = group.around

  abbrev domain : Bounds
  domain = domain_box g js gather.rank

  abbrev before : List Particle
  before = before_of g js gather

  nested : AreNested box domain
  nested = record { inner_is = served.inner; outer_is = served.outer; within = served.within }

  abbrev owned_before : Particle → Bool
  owned_before j = list_any (nat_eq (owner g js j.at)) (gather.rank ∷ gather.absorbed)

  abbrev owned_by : ℕ → Particle → Bool
  owned_by rank j = nat_eq (owner g js j.at) rank

  -- no cell above a first cell passes
  none_above : (c : Octant) → IsCell c → IsFirstCell t box c → (p : Position) → cell_at p c.level ≡ c → NonePassesBelow t box p c.level
  none_above c is first p at lower less passes =
      let deep = is.level_fits in
      let up : ancestor_at c lower ≡ cell_at p lower = ap (λ (o : Octant). ancestor_at o lower) (sym at) ∙ laws.nest p lower c.level (omega arith) deep in
      first.lowest lower less (subst (λ (o : Octant). Passes box o t) (sym up) passes)

  -- the particle of an item that has its place in the cell is in it
  item_of : (tree : Essential) (item : Entry) → IsSentTo t g js gather.rank tree → Contains tree.items item → (j : Particle) × Contains (particles_of g js tree.src) j × (item ≡ entry_of t domain (particles_of g js tree.src) j)
  item_of tree item sent there =
      let mine = particles_of g js tree.src in
      let whole : essential_tree t g js tree.src tree.dst ≡ list_of t domain mine = ap (essential_tree t g js tree.src) sent.here ∙ served_tree t g js tree.src gather.rank served.some in
      let listed = subst (λ (es : List Entry). Contains es item) whole (Contains-permutation tree.items (essential_tree t g js tree.src tree.dst) item (IsPermutation-sym _ tree.items sent.items) there) in
      ((laws.entries t domain mine (list_of t domain mine) (laws.some _ js bodies.distinct)).1 refl).sound item listed

  of_item : (tree : Essential) (j : Particle) → IsSentTo t g js gather.rank tree → Contains (particles_of g js tree.src) j → Contains tree.items (entry_of t domain (particles_of g js tree.src) j)
  of_item tree j sent there =
      let mine = particles_of g js tree.src in
      let whole : essential_tree t g js tree.src tree.dst ≡ list_of t domain mine = ap (essential_tree t g js tree.src) sent.here ∙ served_tree t g js tree.src gather.rank served.some in
      let listed = ((laws.entries t domain mine (list_of t domain mine) (laws.some _ js bodies.distinct)).1 refl).complete j there in
      Contains-permutation (essential_tree t g js tree.src tree.dst) tree.items _ sent.items (subst (λ (es : List Entry). Contains es (entry_of t domain mine j)) (sym whole) listed)

  sent_of : (tree : Essential) → Contains trees tree → IsSentTo t g js gather.rank tree
  sent_of tree h = All-contains (IsSentTo t g js gather.rank) trees tree absorbs.sent h

  -- a particle of before in the cell, where something stands there
  abbrev in_cell : Octant → Particle → Bool
  in_cell c j = is_cell c (cell_at j.at c.level)

  abbrev item_in : Octant → Entry → Bool
  item_in c item = is_cell c (cell_at (item_position item) c.level)

  some_before : (c : Octant) → IsCell c → IsFirstCell t box c → (list_any (in_cell c) gather.own || list_any (λ tree. list_any (item_in c) tree.items) trees) ≡ true → (j : Particle) × Contains before j × (in_cell c j ≡ true)
  some_before c is first e =
      elim (or_cases _ _ e) [
        | inl h ↦
            let found = found_in (in_cell c) gather.own h in
            let own_is = (laws.passing (owned_by gather.rank) js found.0).0 (Contains-permutation gather.own (particles_of g js gather.rank) found.0 own found.1) in
            (found.0, (laws.passing owned_before js found.0).1 (own_is.0, or_left _ _ own_is.1), found.2)
        | inr h ↦
            let at_tree = found_in (λ (tree : Essential). list_any (item_in c) tree.items) trees h in
            let tree = at_tree.0 in
            let at_item = found_in (item_in c) tree.items at_tree.2 in
            let from = item_of tree at_item.0 (sent_of tree at_tree.1) at_item.1 in
            let j = from.0 in
            let place : cell_at (item_position (entry_of t domain (particles_of g js tree.src) j)) c.level ≡ c = same_octant c _ (ap (item_in c) (sym from.2) ∙ at_item.2) in
            let shared = item_shares_from laws.positions t box domain nested (particles_of g js tree.src) j c.level (none_above c is first _ place) in
            let owner_is = (laws.passing (owned_by tree.src) js j).0 from.1 in
            let source : Contains gather.absorbed tree.src = subst (λ (l : List ℕ). Contains l tree.src) (sym absorbs.sources) (mapped_in (λ (s : Essential). s.src) trees tree at_tree.1) in
            (j, (laws.passing owned_before js j).1 (owner_is.0, or_right _ _ (any_from (nat_eq (owner g js j.at)) gather.absorbed tree.src source owner_is.1)), octant_same c _ (sym shared ∙ place))
      ]

  occupied_from : (c : Octant) → IsCell c → IsFirstCell t box c → (j : Particle) → Contains before j → in_cell c j ≡ true → (list_any (in_cell c) gather.own || list_any (λ tree. list_any (item_in c) tree.items) trees) ≡ true
  occupied_from c is first j there e =
      let owned = (laws.passing owned_before js j).0 there in
      elim (or_cases _ _ owned.1) [
        | inl h ↦
            let mine = Contains-permutation (particles_of g js gather.rank) gather.own j (IsPermutation-sym gather.own (particles_of g js gather.rank) own) ((laws.passing (owned_by gather.rank) js j).1 (owned.0, h)) in
            or_left _ _ (any_from (in_cell c) gather.own j mine e)
        | inr h ↦
            let at_rank = found_in (nat_eq (owner g js j.at)) gather.absorbed h in
            let at_tree = mapped_from (λ (s : Essential). s.src) trees at_rank.0 (subst (λ (l : List ℕ). Contains l at_rank.0) absorbs.sources at_rank.1) in
            let tree = at_tree.0 in
            let owner_is : owned_by tree.src j ≡ true = ap (nat_eq (owner g js j.at)) at_tree.2 ∙ at_rank.2 in
            let mine = (laws.passing (owned_by tree.src) js j).1 (owned.0, owner_is) in
            let item = entry_of t domain (particles_of g js tree.src) j in
            let place = same_octant c (cell_at j.at c.level) e in
            let shared = item_shares_at laws.positions t box domain nested (particles_of g js tree.src) j c.level (none_above c is first j.at place) in
            let item_there = of_item tree j (sent_of tree at_tree.1) mine in
            or_right _ _ (any_from (λ (s : Essential). list_any (item_in c) s.items) trees tree at_tree.1 (any_from (item_in c) tree.items item item_there (octant_same c _ (shared ∙ place))))
      ]

  -- a cell in common is one of a particle of before
  some_in_cell : (c : Octant) → 1 ≤ length (particles_in c before) → (j : Particle) × Contains before j × (in_cell c j ≡ true)
  some_in_cell c some =
      let members = particles_in c before in
      let first = first_of_list members some in
      let passes = (laws.passing (in_cell c) before first.0).0 first.1 in
      (first.0, passes.0, passes.1)

  cells_in_common : (c : Octant) (m : Totals) → IsCell c → IsFirstCell t box c → is_occupied gather.own trees (Cell c m) ≡ list_any (is_level (Cell c m)) (list_of t box before)
  cells_in_common c m is first =
      let distinct = laws.some _ js bodies.distinct in
      same_from_both _ _
      (λ e.
      let found = some_before c is first e in
      let some : 1 ≤ length (particles_in c before) = count_some (particles_in c before) found.0 ((laws.passing (in_cell c) before found.0).1 (found.1, found.2)) in
      let n = moment_of (particles_in c before) in
      any_from (is_level (Cell c m)) (list_of t box before) (Cell c n) ((laws.first_cells t box before c n distinct is).1 (first, some, refl)) (level_with_itself laws.strict c m n))
      (λ e.
      let found = found_in (is_level (Cell c m)) (list_of t box before) e in
      let same = level_cell c m found.0 found.2 in
      let held = (laws.first_cells t box before c same.0 distinct is).0 (subst (Contains (list_of t box before)) same.1 found.1) in
      let j = some_in_cell c held.1 in
      occupied_from c is first j.0 j.1 j.2)

  near_in_common : (p : Particle) → Contains (particles_of_ranks g js (src ∷ [])) p → false ≡ list_any (is_level (One p)) (list_of t box before)
  near_in_common p mine =
      let distinct = laws.some _ js bodies.distinct in
      sym (false_from_ne_true _ (λ e.
      let found = found_in (is_level (One p)) (list_of t box before) e in
      let same = level_one p found.0 found.2 in
      let q = same.0 in
      let other = ((laws.near t box before q distinct).0 (subst (Contains (list_of t box before)) same.1 found.1)).0 in
      let own_p = subst (λ (l : List Particle). Contains l p) (laws.one_rank g js src) mine in
      let here = (laws.passing (owned_by src) js p).0 own_p in
      let there = (laws.passing owned_before js q).0 other in
      let one : p ≡ q = laws.ids js p q bodies.distinct here.0 there.0 same.2 in
      let owner_p = eqb-true (owner g js p.at) src here.1 in
      let owner_q = found_in (nat_eq (owner g js q.at)) (gather.rank ∷ gather.absorbed) there.1 in
      let owners : owner_q.0 ≡ src = sym (eqb-true (owner g js q.at) owner_q.0 owner_q.2) ∙ ap (λ (v : Particle). owner g js v.at) (sym one) ∙ owner_p in
      new.new (subst (Contains (gather.rank ∷ gather.absorbed)) owners owner_q.1)))

  entry_in_common : (e : Entry) → Contains (list_of t box (particles_of_ranks g js (src ∷ []))) e → IsCellEntry e → is_occupied gather.own trees e ≡ list_any (is_level e) (list_of t box before)
  entry_in_common (Cell c m) h is = cells_in_common c m is ((laws.first_cells t box (particles_of_ranks g js (src ∷ [])) c m (laws.some _ js bodies.distinct) is).0 h).0
  entry_in_common (One p) h is = near_in_common p ((laws.near t box (particles_of_ranks g js (src ∷ [])) p (laws.some _ js bodies.distinct)).0 h).0

  pub common_pieces : count_by (is_occupied gather.own trees) (list_of t box (particles_of_ranks g js (src ∷ []))) ≡ common_count (list_of t box (particles_of_ranks g js (src ∷ []))) (list_of t box before)
  common_pieces =
      let own_of = particles_of_ranks g js (src ∷ []) in
      count_agree (is_occupied gather.own trees) (λ e. list_any (is_level e) (list_of t box before)) (list_of t box own_of)
      (λ e h.
      let from = ((laws.entries t box own_of (list_of t box own_of) (laws.some _ js bodies.distinct)).1 refl).sound e h in
      entry_in_common e h (subst IsCellEntry (sym from.2) (cell_entry laws.positions t box own_of from.0 (level_of t box from.0.at) refl)))
