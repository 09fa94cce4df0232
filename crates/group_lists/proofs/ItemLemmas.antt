-- The entries that runs of an essential tree's items make, seen from a box that the tree serves.
use Rattle.std.proofs.Common.{◌≡◌, ℕ, ◌+◌, ◌<◌, ◌≤◌, Bool, true, List, [], length, get_or, map, Option, Some, None, inl, inr, refl, sym, ◌∙◌, ap, subst, arith}
use Rattle.std.specs.Prelude.{IfSome, ⊤, AllPairs}
use Rattle.std.specs.List.{filter, All, AllZip, Contains}
use Rattle.std.specs.List.Sorted.{IsPermutation}
use Rattle.std.proofs.lemmas.Bool.{cases_lt, and_parts, and_from, leb-true, le-leb}
use Rattle.std.proofs.lemmas.List.{length-map, get_or-map, get_or_default}
use Rattle.std.proofs.lemmas.List.Elements.{All-contains, All-filter}
use Rattle.std.proofs.lemmas.List.Sorted.{Contains-permutation, IsPermutation-sym}
use Rattle.pf_geom.specs.Position.{Position}
use Rattle.pf_geom.specs.Bounds.{Bounds}
use Rattle.pf_geom.specs.Octant.{Octant, cell_at, ancestor_at}
use Rattle.pf_geom.specs.CellLaws.{CellsOfAPositionNest}
use Rattle.pf_model.specs.declared.entry.Entry.{Entry}
use Rattle.pf_model.specs.declared.entry.Entry.TheVariants.{Cell, One}
use Rattle.pf_model.specs.Particle.{Particle, IsParticle}
use Rattle.pf_model.specs.Particles.{HaveDistinctIds}
use Rattle.pf_model.specs.Criterion.{Criterion}
use Rattle.pf_model.specs.Domains.{particles_of, domain_box}
use Rattle.pf_model.specs.Totals.{Totals, IsTotals}
use Rattle.pf_model.specs.Sums.{moment_of}
use Rattle.pf_model.specs.Interaction.{level_of, leads_to_cell, entry_at, entry_of, comes_before, IsInListOrder, list_of}
use Rattle.pf_model.specs.Sufficiency.{lies_in, moment_together}
use Rattle.model_laws.specs.SufficiencyLaws.{EntriesAddUpTheirItems}
use Rattle.model_laws.specs.ListLaws.{ListsHoldTheirEntries, EntryOrderIsStrict}
use Rattle.model_laws.specs.MomentLaws.{EntriesJoinInAnyOrder, MomentsKeepTheirLimits}
use Rattle.order_laws.specs.OrderLaws.{AreDifferent, DifferentInAnyOrder, DifferentAreFew, TestsKeepPermutations, TestsKeepSpans}
use Rattle.model_laws.specs.ParticleLaws.{SomeHaveDistinctIds}
use Rattle.cell_runs.specs.declared.cell_run.CellRun.{CellRun}
use Rattle.cell_runs.specs.CellRuns.{IsPlaceOf, IsWholeCell, IsCellRun, AreCellRuns}
use Rattle.cell_runs.specs.RunLaws.{RunsHoldEachPlace, RunsRise}
use Rattle.group_lists.specs.Keyed.{item_position, items_at, IsPieceOfRun}
use Rattle.group_lists.specs.Runs.{HasEntriesOf}
use Rattle.group_lists.specs.PieceLaws.{ItemsMakePieces}
use Rattle.group_lists.proofs.ElementLemmas.{zip_at, zip_first, zip_second}
use Rattle.group_lists.proofs.CellLemmas.{NonePassesBelow}
use Rattle.group_lists.proofs.TotalLemmas.{length-filter-le}
use Rattle.group_lists.proofs.PositionLemmas.{PositionLaws, AreNested, passes_inner, is_deep, corner_in, item_shares_at, item_level, item_is_near}
use Rattle.group_lists.proofs.OccupiedLemmas.{same_octant, octant_same, served_tree}

-- what this rests on
pub record ItemLaws : Type 0 where
  pub positions : PositionLaws
  pub nest : CellsOfAPositionNest
  pub entries : ListsHoldTheirEntries
  pub add_up : EntriesAddUpTheirItems
  pub joins : EntriesJoinInAnyOrder
  pub tests : TestsKeepPermutations Entry
  pub spans : TestsKeepSpans Entry
  pub different : DifferentInAnyOrder Entry
  pub few : DifferentAreFew Entry
  pub strict : EntryOrderIsStrict
  pub limits : MomentsKeepTheirLimits
  pub each_place : RunsHoldEachPlace
  pub rise : RunsRise

-- which entry an entry is
abbrev cell_or : Octant → Entry → Octant
cell_or d (Cell c m) = c
cell_or d (One p) = d

abbrev IsOne : Entry → Type 0
IsOne (Cell c m) = ⊥
IsOne (One p) = ⊤

cell_same : (c d : Octant) (m n : Totals) → Cell c m ≡ Cell d n → c ≡ d
cell_same c d m n e = ap (cell_or c) e

one_is_no_cell : (p : Particle) (c : Octant) (m : Totals) → One p ≡ Cell c m → ⊥
one_is_no_cell p c m e = subst IsOne e tt

-- a particle whose entry is a cell leads to it, and one whose entry is itself leads to none
leads_to_it : (t : Criterion) (box : Bounds) (js : List Particle) (j : Particle) (o : Option ℕ) (c : Octant) (m : Totals) → entry_at t box js j o ≡ Cell c m → (o ≡ Some c.level) × (cell_at j.at c.level ≡ c)
leads_to_it t box js j None c m e = absurd (one_is_no_cell j c m e)
leads_to_it t box js j (Some level) c m e =
    let same : cell_at j.at level ≡ c = cell_same (cell_at j.at level) c _ m e in
    let at : level ≡ c.level = ap (λ (o : Octant). o.level) same in
    (ap Some at, ap (cell_at j.at) (sym at) ∙ same)

leads_to_none : (t : Criterion) (box : Bounds) (js : List Particle) (j p : Particle) (o : Option ℕ) → entry_at t box js j o ≡ One p → o ≡ None
leads_to_none t box js j p None e = refl
leads_to_none t box js j p (Some level) e = absurd (one_is_no_cell p (cell_at j.at level) _ (sym e))

abbrev no_run : CellRun
no_run = record { first = 0; len = 0; level = None }

-- entries in order differ
order_differs : EntryOrderIsStrict → (es : List Entry) → IsInListOrder es → AreDifferent es
order_differs strict es order i k d less within same =
    strict.irreflexive (get_or es i d) (subst (λ (f : Entry). comes_before (get_or es i d) f ≡ true) (sym same) (order i k d less within))

module _ (positions : PositionLaws) (nest : CellsOfAPositionNest) (t : Criterion) (inner outer : Bounds) (nested : AreNested inner outer) (js : List Particle) where
  -- whether an item lies in a cell, and whether it has its place there
  pub lies_here : (j : Particle) (o : Option ℕ) → level_of t outer j.at ≡ o → (level : ℕ) (c : Octant) (m : Totals) → NonePassesBelow t inner j.at level → c.level ≡ level → cell_at j.at level ≡ c → lies_in (entry_at t outer js j o) (Cell c m) ≡ true
  lies_here j None e level c m lowest level_is there = octant_same c (cell_at j.at c.level) (ap (cell_at j.at) level_is ∙ there)
  lies_here j (Some deep) e level c m lowest level_is there =
      elim (cases_lt deep level) [
        | inl less ↦ absurd (lowest deep less (passes_inner positions t inner outer nested js j deep e))
        | inr more ↦
            let up : ancestor_at (cell_at j.at deep) c.level ≡ c = ap (ancestor_at (cell_at j.at deep)) level_is ∙ nest j.at level deep more (is_deep positions t inner outer nested js j deep e) ∙ there in
            and_from _ _ (le-leb c.level deep (omega arith)) (octant_same c (ancestor_at (cell_at j.at deep) c.level) up)
      ]

  pub place_here : (j : Particle) (o : Option ℕ) → level_of t outer j.at ≡ o → (c : Octant) (m : Totals) → lies_in (entry_at t outer js j o) (Cell c m) ≡ true → cell_at (item_position (entry_at t outer js j o)) c.level ≡ c
  place_here j None e c m lies = same_octant c (cell_at j.at c.level) lies
  place_here j (Some deep) e c m lies =
      let order : c.level ≤ deep = leb-true c.level deep (and_parts _ _ lies).0 in
      let up = same_octant c (ancestor_at (cell_at j.at deep) c.level) (and_parts _ _ lies).1 in
      let deep_is = is_deep positions t inner outer nested js j deep e in
      positions.share _ j.at c.level deep order deep_is (corner_in positions t inner outer nested js j deep e) ∙ sym (nest j.at c.level deep order deep_is) ∙ up

module _ (laws : ItemLaws) (t : Criterion) (inner outer : Bounds) (nested : AreNested inner outer) (js : List Particle) (distinct : HaveDistinctIds js) (items : List Entry) (same : IsPermutation (list_of t outer js) items) where
  -- the particle of the item at a place
  item_from : (k : ℕ) (d : Entry) → k < length items → (j : Particle) × Contains js j × (get_or items k d ≡ entry_of t outer js j)
  item_from k d within =
      let item = get_or items k d in
      let there : Contains (list_of t outer js) item = Contains-permutation items (list_of t outer js) item (IsPermutation-sym _ items same) (k, within, get_or_default items k item d within) in
      ((laws.entries t outer js (list_of t outer js) distinct).1 refl).sound item there

  abbrev places : List Position
  places = map item_position items

  -- a run of items
  module _ (r : CellRun) (run : IsCellRun t inner places r) where
    inside_items : r.first + r.len ≤ length items
    inside_items = let h = run.inside in let long = length-map items item_position in omega arith

    place_at : (k : ℕ) (d : Entry) (p : Position) → k < length items → get_or places k p ≡ item_position (get_or items k d)
    place_at k d p within = get_or-map item_position items k d p within

    -- the particle of an item of the run leads to a cell of its level
    particle_level : (k : ℕ) (d : Entry) (j : Particle) → IsPlaceOf r k → get_or items k d ≡ entry_of t outer js j → level_of t inner j.at ≡ r.level
    particle_level k d j place is =
        let within : k < length items = (let h = inside_items in let less = place.1 in omega arith) in
        sym (item_level laws.positions t inner outer nested js j) ∙ ap (λ (f : Entry). level_of t inner (item_position f)) (sym is)
        ∙ ap (level_of t inner) (sym (place_at k d (item_position d) within)) ∙ run.level k (item_position d) place

    first_place : IsPlaceOf r r.first
    first_place = (let some = run.some in (omega arith, omega arith))

    first_within : r.first < length items
    first_within = let h = inside_items in let some = run.some in omega arith

    -- the cell of a run with a level
    module _ (level : ℕ) (level_is : r.level ≡ Some level) (d : Entry) where
      abbrev run_cell : Octant
      run_cell = cell_at (item_position (get_or items r.first d)) level

      whole_is : IsWholeCell (Some level) places r
      whole_is = subst (λ (o : Option ℕ). IsWholeCell o places r) level_is run.whole

      lowest_of : (j : Particle) → level_of t inner j.at ≡ Some level → NonePassesBelow t inner j.at level
      lowest_of j e = (((laws.positions.levels t inner j.at).1 level).0 e).lowest

      deep_of : (j : Particle) → level_of t inner j.at ≡ Some level → level ≤ 30
      deep_of j e = (((laws.positions.levels t inner j.at).1 level).0 e).within

      -- the particles of its items are in it
      particle_cell : (k : ℕ) (j : Particle) → IsPlaceOf r k → get_or items k d ≡ entry_of t outer js j → cell_at j.at level ≡ run_cell
      particle_cell k j place is =
          let within : k < length items = (let h = inside_items in let less = place.1 in omega arith) in
          let inside : k < length places = (let long = length-map items item_position in omega arith) in
          let p = item_position d in
          let mine = particle_level k d j place is ∙ level_is in
          let shared = item_shares_at laws.positions t inner outer nested js j level (lowest_of j mine) in
          let there : cell_at (get_or places k p) level ≡ cell_at (get_or places r.first p) level = (whole_is k p inside).0 place in
          sym shared ∙ ap (λ (f : Entry). cell_at (item_position f) level) (sym is) ∙ ap (λ (q : Position). cell_at q level) (sym (place_at k d p within)) ∙ there ∙ ap (λ (q : Position). cell_at q level) (place_at r.first d p first_within)

      -- the places of the run are those of the items that lie in the cell
      lies_at : (m : Totals) (k : ℕ) (e : Entry) → k < length items → IsPlaceOf r k → lies_in (get_or items k e) (Cell run_cell m) ≡ true
      lies_at m k e within place =
          let from = item_from k d within in
          let j = from.0 in
          let mine = particle_level k d j place from.2 ∙ level_is in
          let here = lies_here laws.positions laws.nest t inner outer nested js j (level_of t outer j.at) refl level run_cell m (lowest_of j mine) refl (particle_cell k j place from.2) in
          ap (λ (f : Entry). lies_in f (Cell run_cell m)) (get_or_default items k e d within ∙ from.2) ∙ here

      place_from : (m : Totals) (k : ℕ) (e : Entry) → k < length items → lies_in (get_or items k e) (Cell run_cell m) ≡ true → IsPlaceOf r k
      place_from m k e within lies =
          let from = item_from k e within in
          let j = from.0 in
          let p = item_position d in
          let inside : k < length places = (let long = length-map items item_position in omega arith) in
          let at = place_here laws.positions laws.nest t inner outer nested js j (level_of t outer j.at) refl run_cell m (ap (λ (f : Entry). lies_in f (Cell run_cell m)) (sym from.2) ∙ lies) in
          let there : cell_at (get_or places k p) level ≡ cell_at (get_or places r.first p) level =
          ap (λ (q : Position). cell_at q level) (place_at k e p within) ∙ ap (λ (f : Entry). cell_at (item_position f) level) from.2 ∙ at ∙ ap (λ (q : Position). cell_at q level) (sym (place_at r.first d p first_within)) in
          (whole_is k p inside).1 there

      -- the entry of the particles of its items, and its moment
      abbrev run_moment : Totals
      run_moment = moment_of (filter (leads_to_cell t inner run_cell) js)

      particle_entry : (k : ℕ) (j : Particle) → IsPlaceOf r k → get_or items k d ≡ entry_of t outer js j → entry_of t inner js j ≡ Cell run_cell run_moment
      particle_entry k j place is =
          ap (entry_at t inner js j) (particle_level k d j place is ∙ level_is) ∙ ap (λ (c : Octant). Cell c (moment_of (filter (leads_to_cell t inner c) js))) (particle_cell k j place is)

      moment_adds_up : run_moment ≡ moment_together (items_at r items)
      moment_adds_up =
          let from = item_from r.first d first_within in
          let is = particle_entry r.first from.0 first_place from.2 in
          let listed = subst (Contains (list_of t inner js)) is (((laws.entries t inner js (list_of t inner js) distinct).1 refl).complete from.0 from.1) in
          let test : Entry → Bool = λ f. lies_in f (Cell run_cell run_moment) in
          laws.add_up t inner outer js (Cell run_cell run_moment) nested.inner_is nested.outer_is nested.within distinct listed
          ∙ laws.joins (filter test (list_of t outer js)) (filter test items) (laws.tests test (list_of t outer js) items same)
          ∙ ap moment_together (laws.spans test items r.first r.len inside_items (λ k e within. (place_from run_moment k e within, lies_at run_moment k e within)))

    -- the piece of the run is the entry of each particle of its items
    piece_entry : (o : Option ℕ) → r.level ≡ o → (e : Entry) → IsPieceOfRun items r o e → (k : ℕ) (d : Entry) (j : Particle) → IsPlaceOf r k → get_or items k d ≡ entry_of t outer js j → entry_of t inner js j ≡ e
    piece_entry None level_is e piece k d j place is =
        let one : r.len ≡ 1 = subst (λ (o : Option ℕ). IsWholeCell o places r) level_is run.whole in
        let at : k ≡ r.first = (let least = place.0 in let less = place.1 in omega arith) in
        let within = first_within in
        sym (item_is_near laws.positions t inner outer nested js j (particle_level k d j place is ∙ level_is)) ∙ sym is ∙ ap (λ (n : ℕ). get_or items n d) at ∙ get_or_default items r.first d e within ∙ piece
    piece_entry (Some level) level_is e piece k d j place is =
        particle_entry level level_is d k j place is ∙ ap (Cell (run_cell level level_is d)) (moment_adds_up level level_is d) ∙ sym (piece (get_or items r.first d) (get_or_default items r.first _ d first_within))

    -- its moment keeps its limits
    run_limits : length js ≤ 65536 → All IsParticle js → (d : Entry) (o : Option ℕ) → r.level ≡ o → IfSome o (λ level. (level ≤ 30) × IsTotals (moment_together (items_at r items)))
    run_limits few particles d None level_is = tt
    run_limits few particles d (Some level) level_is =
        let from = item_from r.first d first_within in
        let mine = particle_level r.first d from.0 first_place from.2 ∙ level_is in
        let test = leads_to_cell t inner (run_cell level level_is d) in
        let kept = length-filter-le test js in (
          deep_of level level_is d from.0 mine,
          subst IsTotals (moment_adds_up level level_is d) (laws.limits (filter test js) (omega arith) (All-filter test IsParticle js particles)),
        )

  -- two runs, one after the other, make different pieces
  runs_differ : AreDifferent items → (r s : CellRun) → IsCellRun t inner places r → IsCellRun t inner places s → r.first + r.len ≤ s.first → (o : Option ℕ) → r.level ≡ o → (e : Entry) → IsPieceOfRun items r o e → IsPieceOfRun items s s.level e → ⊥
  runs_differ different r s run later rise None level_is e first second =
      let mine = item_from r.first e (first_within r run) in
      let other = item_from s.first e (first_within s later) in
      let near = particle_level r run r.first e mine.0 (first_place r run) mine.2 ∙ level_is in
      let one : e ≡ entry_at t inner js mine.0 None = sym (piece_entry r run None level_is e first r.first e mine.0 (first_place r run) mine.2) ∙ ap (entry_at t inner js mine.0) near in
      let theirs : entry_of t inner js other.0 ≡ e = piece_entry s later s.level refl e second s.first e other.0 (first_place s later) other.2 in
      let none : s.level ≡ None = sym (particle_level s later s.first e other.0 (first_place s later) other.2) ∙ leads_to_none t inner js other.0 mine.0 (level_of t inner other.0.at) (theirs ∙ one) in
      let there : get_or items s.first e ≡ e = subst (λ (o : Option ℕ). IsPieceOfRun items s o e) none second in
      let some = run.some in
      different r.first s.first e (omega arith) (first_within s later) (first ∙ sym there)
  runs_differ different r s run later rise (Some level) level_is e first second =
      let other = item_from s.first e (first_within s later) in
      let j = other.0 in
      let theirs : entry_of t inner js j ≡ e = piece_entry s later s.level refl e second s.first e j (first_place s later) other.2 in
      let cell = run_cell r run level level_is e in
      let is : e ≡ Cell cell (moment_together (items_at r items)) = first (get_or items r.first e) (get_or_default items r.first _ e (first_within r run)) in
      let leads = leads_to_it t inner js j (level_of t inner j.at) cell (moment_together (items_at r items)) (theirs ∙ is) in
      let shared = item_shares_at laws.positions t inner outer nested js j level (lowest_of r run level level_is e j leads.0) in
      let at : cell_at (item_position (get_or items s.first e)) level ≡ cell = ap (λ (f : Entry). cell_at (item_position f) level) other.2 ∙ shared ∙ leads.1 in
      let p = item_position e in
      let within = first_within s later in
      let inside : s.first < length places = (let long = length-map items item_position in omega arith) in
      let there : cell_at (get_or places s.first p) level ≡ cell_at (get_or places r.first p) level =
      ap (λ (q : Position). cell_at q level) (place_at s later s.first e p within) ∙ at ∙ ap (λ (q : Position). cell_at q level) (sym (place_at r run r.first e p (first_within r run))) in
      let place = (whole_is r run level level_is e s.first p inside).1 there in
      let less = place.1 in
      absurd (omega arith)

  abbrev Makes : CellRun → Entry → Type 0
  Makes r e = IsPieceOfRun items r r.level e

  -- so pieces differ
  pieces_differ : AreDifferent items → (runs : List CellRun) (pieces : List Entry) → All (IsCellRun t inner places) runs → AllPairs (λ r s. r.first + r.len ≤ s.first) runs → AllZip Makes runs pieces → AreDifferent pieces
  pieces_differ different runs pieces each rise all i k d less within same =
      let first = zip_at Makes runs pieces i no_run d all (omega arith) in
      let second = zip_at Makes runs pieces k no_run d all within in
      let r = get_or runs i no_run in
      let s = get_or runs k no_run in
      runs_differ different r s (each i no_run first.0) (each k no_run second.0) (rise i k no_run less second.0) r.level refl (get_or pieces i d) first.1 (subst (Makes s) (sym same) second.1)

  -- the pieces of all runs are the entries of the particles, each once
  module _ (runs : List CellRun) (are : AreCellRuns t inner places runs) (pieces : List Entry) (all : AllZip Makes runs pieces) where
    pieces_complete : (j : Particle) → Contains js j → Contains pieces (entry_of t inner js j)
    pieces_complete j there =
        let item = entry_of t outer js j in
        let at = Contains-permutation (list_of t outer js) items item same (((laws.entries t outer js (list_of t outer js) distinct).1 refl).complete j there) in
        let k = at.0 in
        let within : k < length items = at.1 in
        let run = laws.each_place 0 (length places) k runs are.in_turn (omega arith) (let long = length-map items item_position in omega arith) in
        let r = run.0 in
        let found = zip_first Makes runs pieces r all run.1 in
        let is = All-contains (IsCellRun t inner places) runs r are.each run.1 in
        subst (Contains pieces) (sym (piece_entry r is r.level refl found.0 found.2 k item j run.2 at.2)) found.1

    pieces_sound : (e : Entry) → Contains pieces e → (j : Particle) × Contains js j × (e ≡ entry_of t inner js j)
    pieces_sound e there =
        let found = zip_second Makes runs pieces e all there in
        let r = found.0 in
        let is = All-contains (IsCellRun t inner places) runs r are.each found.1 in
        let from = item_from r.first e (first_within r is) in
        (from.0, from.1, sym (piece_entry r is r.level refl e found.2 r.first e from.0 (first_place r is) from.2))

    pub pieces_are : HasEntriesOf t inner js pieces
    pieces_are = record { complete = pieces_complete; sound = pieces_sound }

    pub pieces_are_few : length pieces ≤ length (list_of t inner js)
    pieces_are_few =
        let list = (laws.entries t outer js (list_of t outer js) distinct).1 refl in
        let different = laws.different (list_of t outer js) items same (order_differs laws.strict (list_of t outer js) list.ordered) in
        let mine = (laws.entries t inner js (list_of t inner js) distinct).1 refl in
        laws.few (list_of t inner js) pieces (pieces_differ different runs pieces are.each (laws.rise 0 (length places) runs are.in_turn) all)
        (λ e there. let from = pieces_sound e there in subst (Contains (list_of t inner js)) (sym from.2) (mine.complete from.0 from.1))

pub items_make_pieces : ItemLaws → SomeHaveDistinctIds → ItemsMakePieces
items_make_pieces laws some t g js tree box runs bodies particles served sent are =
    let own = particles_of g js tree.src in
    let outer = domain_box g js tree.dst in
    let nested : AreNested box outer = record { inner_is = served.inner; outer_is = served.outer; within = served.within } in
    let distinct : HaveDistinctIds own = some _ js bodies.distinct in
    let same : IsPermutation (list_of t outer own) tree.items = subst (λ (es : List Entry). IsPermutation es tree.items) (served_tree t g js tree.src tree.dst served.some) sent.items in
    let kept : length own ≤ length js = length-filter-le _ js in
    let few = bodies.few in (
      λ k d within.
          let r = get_or runs k d in
          run_limits laws t box outer nested own distinct tree.items same r (are.each k d within) (omega arith) (All-filter _ IsParticle js particles) (Cell (record { level = 0; key = 0 }) (moment_of [])) r.level refl,
      λ pieces all. (pieces_are laws t box outer nested own distinct tree.items same runs are pieces all, pieces_are_few laws t box outer nested own distinct tree.items same runs are pieces all),
    )
