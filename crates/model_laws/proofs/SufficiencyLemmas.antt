-- The items of an outer list in the entries of an inner one.
use Rattle.std.proofs.Common.{◌≡◌, ℕ, ◌<◌, ◌≤◌, Bool, true, false, ◌||◌, List, [], ◌∷◌, ◌++◌, length, get_or, Option, Some, None, is_none, inl, inr, refl, sym, ◌∙◌, ap, subst, arith, rules}
use Rattle.std.specs.List.{filter, list_any, Contains, IsDistinct}
use Rattle.std.proofs.lemmas.Bool.{cases_lt, cond_both, cond-true, cond-false, and_parts, and_from, eqb-true, eq-eqb, leb-true, le-leb, false≢true, false_from_ne_true}
use Rattle.std.proofs.lemmas.List.{get_or_default}
use Rattle.std.proofs.lemmas.List.Elements.{All-contains, Contains-get_or}
use Rattle.pf_geom.specs.Position.{Position, IsPosition}
use Rattle.pf_geom.specs.Bounds.{Bounds, IsBox, IsInBox, IsWithin}
use Rattle.pf_geom.specs.Octant.{Octant, cell_at, ancestor_at}
use Rattle.pf_geom.specs.CellLaws.{CellsOfAPositionNest, PositionsShareLowerCells, PositionsHaveCells}
use Rattle.pf_model.specs.declared.entry.Entry.{Entry}
use Rattle.pf_model.specs.declared.entry.Entry.TheVariants.{Cell, One}
use Rattle.pf_model.specs.Particle.{Particle}
use Rattle.pf_model.specs.Particles.{HaveDistinctIds}
use Rattle.pf_model.specs.Criterion.{Criterion, Passes}
use Rattle.pf_model.specs.Sums.{moment_of, together}
use Rattle.pf_model.specs.Interaction.{level_of, leads_to_cell, leads_to, entry_at, entry_of, comes_before, list_of}
use Rattle.pf_model.specs.Domains.{owner, domain_box}
use Rattle.pf_model.specs.Sufficiency.{lies_in, items_in, entry_moment, moment_together}
use Rattle.model_laws.specs.OpeningLaws.{CellsPassForBoxesInside}
use Rattle.model_laws.specs.MomentLaws.{MomentsIgnoreOrder}
use Rattle.model_laws.specs.GroupLaws.{BoxesAreLeast}
use Rattle.model_laws.specs.DomainLaws.{DomainBoxesHoldWhatIsOwned}
use Rattle.model_laws.specs.SufficiencyLaws.{ItemsLieInOneEntry, EntriesAddUpTheirItems, BoxesLieInDomains}
use Rattle.order_laws.proofs.OrderLemmas.{In, BeforeAll, IsAscending, before_each}
use Rattle.order_laws.proofs.ElementLemmas.{in_from_contains, contains_from_in, keeps, one_place, in_filter}
use Rattle.order_laws.proofs.PermutationLemmas.{either_filter}
use Rattle.pf_model.proofs.EntryLemmas.{comes_before-strict, same_from_id, ids_differ}
use Rattle.pf_model.proofs.MomentLemmas.{moment_of-append}
use Rattle.model_laws.proofs.ListLemmas.{leads_to-itself, list-ascends, list-sound, list-complete, entry-unique}
use Rattle.model_laws.proofs.LevelLemmas.{none_from_level, level_from_none, first_from_level, level_from_first}
use Rattle.model_laws.proofs.MemberLemmas.{same_from_is_cell, is_cell-from_same}
use Rattle.model_laws.proofs.ListCellLemmas.{first_shared, same_tests}
use Rattle.model_laws.proofs.ReuseLemmas.{filter_agree_on, list_any-from_in, in_from_list_any}

-- the laws that this rests on
pub record Laws : Type 0 where
  pub inside : CellsPassForBoxesInside
  pub nest : CellsOfAPositionNest
  pub share : PositionsShareLowerCells
  pub cells : PositionsHaveCells

-- one box inside another
pub record AreNested (inner outer : Bounds) : Type 0 where
  pub inner_is : IsBox inner
  pub outer_is : IsBox outer
  pub within : IsWithin inner outer

-- what passes for the outer box passes for the inner one
passes_inside : Laws → (t : Criterion) (inner outer : Bounds) → AreNested inner outer → (p : Position) (level : ℕ) → level ≤ 30 → Passes outer (cell_at p level) t → Passes inner (cell_at p level) t
passes_inside laws t inner outer n p level deep h = laws.inside t inner outer (cell_at p level) n.inner_is n.outer_is n.within (laws.cells p level deep) h

-- so a position has no later level for it
level_inside : Laws → (t : Criterion) (inner outer : Bounds) → AreNested inner outer → (p : Position) (deep level : ℕ) → level_of t outer p ≡ Some deep → level_of t inner p ≡ Some level → level ≤ deep
level_inside laws t inner outer n p deep level o r =
    let far = first_from_level t outer p deep o in
    let near = first_from_level t inner p level r in
    elim (cases_lt deep level) [
      | inl less ↦ absurd (near.lowest deep less (passes_inside laws t inner outer n p deep far.within far.passes))
      | inr more ↦ more
    ]

none_inside : Laws → (t : Criterion) (inner outer : Bounds) → AreNested inner outer → (p : Position) → level_of t inner p ≡ None → level_of t outer p ≡ None
none_inside laws t inner outer n p r =
    let none = none_from_level t inner p r in
    level_from_none t outer p (λ level deep h. none level deep (passes_inside laws t inner outer n p level deep h))

-- the item of a particle lies in its entry, over whatever particles the one and the other are
lies_at : Laws → (t : Criterion) (inner outer : Bounds) → AreNested inner outer → (ks js : List Particle) (j : Particle) (o r : Option ℕ) → level_of t outer j.at ≡ o → level_of t inner j.at ≡ r → lies_in (entry_at t outer ks j o) (entry_at t inner js j r) ≡ true
lies_at laws t inner outer n ks js j None None e h = eq-eqb j.id j.id refl
lies_at laws t inner outer n ks js j None (Some level) e h = is_cell-from_same (cell_at j.at level) (cell_at j.at level) refl
lies_at laws t inner outer n ks js j (Some deep) None e h = absurd (let none = sym (none_inside laws t inner outer n j.at h) ∙ e in cc)
lies_at laws t inner outer n ks js j (Some deep) (Some level) e h =
    let order = level_inside laws t inner outer n j.at deep level e h in
    let within = (first_from_level t outer j.at deep e).within in
    and_from _ _ (le-leb level deep order) (is_cell-from_same (cell_at j.at level) (ancestor_at (cell_at j.at deep) level) (sym (laws.nest j.at level deep order within)))

pub lies_in_own : Laws → (t : Criterion) (inner outer : Bounds) → AreNested inner outer → (ks js : List Particle) (j : Particle) → lies_in (entry_of t outer ks j) (entry_of t inner js j) ≡ true
lies_in_own laws t inner outer n ks js j = lies_at laws t inner outer n ks js j (level_of t outer j.at) (level_of t inner j.at) refl refl

-- entries of one cell are one
one_cell_entry : (t : Criterion) (box : Bounds) (js : List Particle) (i j : Particle) (level : ℕ) → cell_at j.at level ≡ cell_at i.at level → entry_at t box js j (Some level) ≡ entry_at t box js i (Some level)
one_cell_entry t box js i j level same = ap (λ (c : Octant). Cell c (moment_of (filter (leads_to_cell t box c) js))) same

-- a particle in the first passing cell of another has its entry
shared_entry : Laws → (t : Criterion) (box : Bounds) (js : List Particle) (i j : Particle) (level : ℕ) → level_of t box i.at ≡ Some level → cell_at j.at level ≡ cell_at i.at level → entry_of t box js j ≡ entry_at t box js i (Some level)
shared_entry laws t box js i j level e same =
    let first = first_shared laws.share t box i.at j.at level (first_from_level t box i.at level e) same in
    ap (entry_at t box js j) (level_from_first t box j.at level first) ∙ one_cell_entry t box js i j level same

-- an entry in which the item of a particle lies is the particle's
only_entry : Laws → (t : Criterion) (inner outer : Bounds) → AreNested inner outer → (ks js : List Particle) → HaveDistinctIds js → (j i : Particle) (o r : Option ℕ) → In j js → In i js → level_of t outer j.at ≡ o → level_of t inner i.at ≡ r →
    lies_in (entry_at t outer ks j o) (entry_at t inner js i r) ≡ true → entry_of t inner js j ≡ entry_at t inner js i r
only_entry laws t inner outer n ks js distinct j i None None k l e h lies =
    let one : j ≡ i = same_from_id js distinct j i k l (eqb-true j.id i.id lies) in
    ap (entry_of t inner js) one ∙ ap (entry_at t inner js i) h
only_entry laws t inner outer n ks js distinct j i None (Some level) k l e h lies =
    shared_entry laws t inner js i j level h (sym (same_from_is_cell (cell_at i.at level) (cell_at j.at level) lies))
only_entry laws t inner outer n ks js distinct j i (Some deep) None k l e h lies = absurd (false≢true lies)
only_entry laws t inner outer n ks js distinct j i (Some deep) (Some level) k l e h lies =
    let order : level ≤ deep = leb-true level deep (and_parts _ _ lies).0 in
    let within = (first_from_level t outer j.at deep e).within in
    let there = same_from_is_cell (cell_at i.at level) (ancestor_at (cell_at j.at deep) level) (and_parts _ _ lies).1 in
    shared_entry laws t inner js i j level h (sym (laws.nest j.at level deep order within) ∙ sym there)

pub items_lie_in_one_entry : Laws → ItemsLieInOneEntry
items_lie_in_one_entry laws t inner outer js f inner_is outer_is within distinct there =
    let n : AreNested inner outer = record { inner_is = inner_is; outer_is = outer_is; within = within } in
    let es = list_of t inner js in
    let from = list-sound t outer js f (in_from_contains (list_of t outer js) f there) in
    let j = from.0 in
    let own = entry_of t inner js j in
    let place = contains_from_in es own (list-complete t inner js distinct j from.1) in
    let at_place : (d : Entry) → get_or es place.0 d ≡ own = λ d. get_or_default es place.0 d own place.1 ∙ place.2 in
    let only : (i : ℕ) (d : Entry) → i < length es → lies_in f (get_or es i d) ≡ true → i ≡ place.0 = λ i d inside lies.
    (let e = get_or es i d in
    let of = list-sound t inner js e (in_from_contains es e (i, inside, get_or_default es i e d inside)) in
    let lies' : lies_in (entry_of t outer js j) (entry_of t inner js of.0) ≡ true =
    (let P : Entry → Entry → Type 0 = λ a b. lies_in a b ≡ true in subst (P (entry_of t outer js j)) of.2 (subst (λ (a : Entry). P a e) from.2 lies)) in
    let one = only_entry laws t inner outer n js js distinct j of.0 (level_of t outer j.at) (level_of t inner of.0.at) from.1 of.1 refl refl lies' in
    one_place comes_before comes_before-strict es (list-ascends t inner js) i place.0 d inside place.1 (of.2 ∙ sym one ∙ sym (at_place d))) in
    let found : (i : ℕ) (d : Entry) → i ≡ place.0 → lies_in f (get_or es i d) ≡ true = λ i d same.
    (let is : get_or es i d ≡ own = ap (λ (k : ℕ). get_or es k d) same ∙ at_place d in
    let P : Entry → Entry → Type 0 = λ a b. lies_in a b ≡ true in
    subst (P f) (sym is) (subst (λ (a : Entry). P a own) (sym from.2) (lies_in_own laws t inner outer n js js j))) in
    (place.0, place.1, λ i d inside. (λ h. only i d inside (search (rules, h)), λ same. search (rules, found i d same)))

-- the moment of particles that two tests, never both, keep
moment_either : MomentsIgnoreOrder → (p q : Particle → Bool) (js : List Particle) → ((j : Particle) → In j js → p j ≡ true → q j ≡ true → ⊥) → moment_of (filter (λ j. p j || q j) js) ≡ together (moment_of (filter p js)) (moment_of (filter q js))
moment_either law p q js apart =
    law (filter (λ j. p j || q j) js) (filter p js ++ filter q js) (either_filter p q js apart) ∙ moment_of-append (filter p js) (filter q js)

pub filter_none : {X : Type 0} (xs : List X) → filter (λ (x : X). false) xs ≡ []
filter_none [] = refl
filter_none (x ∷ xs) = filter_none xs

pub none_pass : {X : Type 0} (p : X → Bool) (xs : List X) → ((x : X) → In x xs → p x ≡ false) → filter p xs ≡ []
none_pass p xs h = filter_agree_on p (λ _. false) xs h ∙ filter_none xs

-- a near particle alone leads to itself
pub only_leads : (t : Criterion) (box : Bounds) (js : List Particle) (p : Particle) → HaveDistinctIds js → In p js → level_of t box p.at ≡ None → filter (leads_to t box (One p)) js ≡ p ∷ []
unfolding IsDistinct
only_leads t box [] p distinct i near = absurd i
only_leads t box (j ∷ js) p distinct (inl s) near =
    let test = leads_to t box (One p) in
    let here : test j ≡ true = and_from _ _ (ap (λ (q : Particle). is_none (level_of t box q.at)) s ∙ ap is_none near) (eq-eqb p.id j.id (ap (λ (q : Particle). q.id) (sym s))) in
    let rest : filter test js ≡ [] = none_pass test js (λ k i. false_from_ne_true (test k) (λ e.
    ids_differ j js k i distinct.0 (ap (λ (q : Particle). q.id) s ∙ eqb-true p.id k.id (and_parts _ _ e).1))) in
    cond-true (test j) (j ∷ filter test js) (filter test js) here ∙ ap (λ l. j ∷ l) rest ∙ ap (λ (q : Particle). q ∷ []) s
only_leads t box (j ∷ js) p distinct (inr i) near =
    let test = leads_to t box (One p) in
    let apart : test j ≡ false = false_from_ne_true (test j) (λ e. ids_differ j js p i distinct.0 (sym (eqb-true p.id j.id (and_parts _ _ e).1))) in
    cond-false (test j) (j ∷ filter test js) (filter test js) apart ∙ only_leads t box js p distinct.1 i near

-- an entry stands for the particles that lead to it
moment_at : (t : Criterion) (box : Bounds) (js : List Particle) → HaveDistinctIds js → (j : Particle) (o : Option ℕ) → In j js → level_of t box j.at ≡ o → entry_moment (entry_at t box js j o) ≡ moment_of (filter (leads_to t box (entry_at t box js j o)) js)
moment_at t box js distinct j None i e = ap moment_of (sym (only_leads t box js j distinct i e))
moment_at t box js distinct j (Some level) i e = refl

moment_of_entry : (t : Criterion) (box : Bounds) (js : List Particle) → HaveDistinctIds js → (e : Entry) → In e (list_of t box js) → entry_moment e ≡ moment_of (filter (leads_to t box e) js)
moment_of_entry t box js distinct e i =
    let from = list-sound t box js e i in
    let P : Entry → Type 0 = λ v. entry_moment v ≡ moment_of (filter (leads_to t box v) js) in
    subst P (sym from.2) (moment_at t box js distinct from.0 (level_of t box from.0.at) from.1 refl)

-- some entries of a list stand for the particles that lead to one of them
moment_of_some : MomentsIgnoreOrder → (t : Criterion) (box : Bounds) (js : List Particle) → HaveDistinctIds js → (es : List Entry) → IsAscending comes_before es → ((e : Entry) → In e es → In e (list_of t box js)) →
    moment_together es ≡ moment_of (filter (λ j. list_any (λ e. leads_to t box e j) es) js)
moment_of_some law t box js distinct [] a some = ap moment_of (sym (filter_none js))
moment_of_some law t box js distinct (e ∷ es) a some =
    let one = moment_of_entry t box js distinct e (some e (inl refl)) in
    let rest = moment_of_some law t box js distinct es a.1 (λ f i. some f (inr i)) in
    let others : Particle → Bool = λ j. list_any (λ f. leads_to t box f j) es in
    let apart : (j : Particle) → In j js → leads_to t box e j ≡ true → others j ≡ true → ⊥ = λ j i h k.
    (let found = in_from_list_any (λ f. leads_to t box f j) es k in
    let same : e ≡ found.0 = entry-unique t box js distinct j i e (some e (inl refl)) h ∙ sym (entry-unique t box js distinct j i found.0 (some found.0 (inr found.1)) found.2) in
    let P : Entry → Type 0 = λ v. comes_before e v ≡ true in
    comes_before-strict.irreflexive e (subst P (sym same) (before_each comes_before e es found.0 found.1 a.0))) in
    (λ k. together (one k) (rest k)) ∙ sym (moment_either law (leads_to t box e) others js apart)

-- what a test keeps of an ascending list ascends
before_kept : (e : Entry) (test : Entry → Bool) (es : List Entry) → BeforeAll comes_before e es → BeforeAll comes_before e (filter test es)
before_kept e test [] b = tt
before_kept e test (f ∷ fs) b = cond_both (test f) (f ∷ filter test fs) (filter test fs) (BeforeAll comes_before e) (λ _. (b.0, before_kept e test fs b.1)) (λ _. before_kept e test fs b.1)

ascends-filter : (test : Entry → Bool) (es : List Entry) → IsAscending comes_before es → IsAscending comes_before (filter test es)
ascends-filter test [] a = tt
ascends-filter test (e ∷ es) a =
    cond_both (test e) (e ∷ filter test es) (filter test es) (IsAscending comes_before) (λ _. (before_kept e test es a.0, ascends-filter test es a.1)) (λ _. ascends-filter test es a.1)

-- of some particles ks, those that lead to an inner entry over the particles js lead to the items over ks in it
pub lead_to_items : Laws → (t : Criterion) (inner outer : Bounds) → AreNested inner outer → (ks js : List Particle) → HaveDistinctIds ks → HaveDistinctIds js → ((j : Particle) → In j ks → In j js) → (e : Entry) → In e (list_of t inner js) →
    filter (leads_to t inner e) ks ≡ filter (λ j. list_any (λ f. leads_to t outer f j) (items_in e (list_of t outer ks))) ks
lead_to_items laws t inner outer n ks js distinct distinct_js some e i =
    let items = list_of t outer ks in
    let kept = items_in e items in
    let test : Entry → Bool = λ f. lies_in f e in
    let of = list-sound t inner js e i in
    filter_agree_on (leads_to t inner e) (λ j. list_any (λ f. leads_to t outer f j) kept) ks (λ j k.
    same_tests (leads_to t inner e j) (list_any (λ f. leads_to t outer f j) kept)
    (λ h.
    (let own : e ≡ entry_of t inner js j = entry-unique t inner js distinct_js j (some j k) e i h in
    let f = entry_of t outer ks j in
    let lies : lies_in f e ≡ true = (let P : Entry → Type 0 = λ v. lies_in f v ≡ true in subst P (sym own) (lies_in_own laws t inner outer n ks js j)) in
    list_any-from_in (λ g. leads_to t outer g j) kept f (keeps test f items lies (list-complete t outer ks distinct j k)) (leads_to-itself t outer ks j (level_of t outer j.at) refl)))
    (λ h.
    (let found = in_from_list_any (λ g. leads_to t outer g j) kept h in
    let both = in_filter test found.0 items found.1 in
    let f_is : found.0 ≡ entry_of t outer ks j = entry-unique t outer ks distinct j k found.0 both.0 found.2 in
    let lies : lies_in (entry_of t outer ks j) (entry_of t inner js of.0) ≡ true =
    (let P : Entry → Entry → Type 0 = λ a b. lies_in a b ≡ true in subst (P (entry_of t outer ks j)) of.2 (subst (λ (a : Entry). P a e) f_is both.1)) in
    let one = only_entry laws t inner outer n ks js distinct_js j of.0 (level_of t outer j.at) (level_of t inner of.0.at) (some j k) of.1 refl refl lies in
    let P : Entry → Type 0 = λ v. leads_to t inner v j ≡ true in
    subst P (one ∙ sym of.2) (leads_to-itself t inner js j (level_of t inner j.at) refl))))

-- the items in an entry ascend, and are items
pub items_ascend : (t : Criterion) (outer : Bounds) (ks : List Particle) (e : Entry) → IsAscending comes_before (items_in e (list_of t outer ks))
items_ascend t outer ks e = ascends-filter (λ f. lies_in f e) (list_of t outer ks) (list-ascends t outer ks)

pub items_are_items : (t : Criterion) (outer : Bounds) (ks : List Particle) (e f : Entry) → In f (items_in e (list_of t outer ks)) → In f (list_of t outer ks)
items_are_items t outer ks e f k = (in_filter (λ g. lies_in g e) f (list_of t outer ks) k).0

-- the moment of an inner entry, from the particles of its items
entry_adds_up : Laws → MomentsIgnoreOrder → (t : Criterion) (inner outer : Bounds) → AreNested inner outer → (js : List Particle) → HaveDistinctIds js → (e : Entry) → In e (list_of t inner js) → entry_moment e ≡ moment_together (items_in e (list_of t outer js))
entry_adds_up laws law t inner outer n js distinct e i =
    moment_of_entry t inner js distinct e i
    ∙ ap moment_of (lead_to_items laws t inner outer n js js distinct distinct (λ j k. k) e i)
    ∙ sym (moment_of_some law t outer js distinct (items_in e (list_of t outer js)) (items_ascend t outer js e) (items_are_items t outer js e))

pub entries_add_up_their_items : Laws → MomentsIgnoreOrder → EntriesAddUpTheirItems
entries_add_up_their_items laws law t inner outer js e inner_is outer_is within distinct there =
    entry_adds_up laws law t inner outer (record { inner_is = inner_is; outer_is = outer_is; within = within }) js distinct e (in_from_contains (list_of t inner js) e there)

-- the box of particles that a rank owns
first_of : (js : List Particle) → 1 ≤ length js → (j : Particle) × In j js
first_of [] some = absurd (omega arith)
first_of (j ∷ js) some = (j, inl refl)

pub boxes_lie_in_domains : BoxesAreLeast → DomainBoxesHoldWhatIsOwned → BoxesLieInDomains
boxes_lie_in_domains boxes domains g js members rank division places some inside owned =
    let least = boxes members some inside in
    let first = first_of members some in
    let q = first.0.at in
    let P : Particle → Type 0 = λ j. IsPosition j.at in
    let Q : Particle → Type 0 = λ j. owner g js j.at ≡ rank in
    let at : (j : Particle) → Contains members j → P j = λ j h. All-contains P members j inside h in
    let own : (j : Particle) → Contains members j → Q j = λ j h. All-contains Q members j owned h in
    let there = contains_from_in members first.0 first.1 in
    let domain = domains g js q division places (at first.0 there) in
    let rank_is : owner g js q ≡ rank = own first.0 there in
    let R : ℕ → Type 0 = λ r. IsBox (domain_box g js r) × ((p : Position) → IsPosition p → ((owner g js p ≡ r → IsInBox p (domain_box g js r)) × (IsInBox p (domain_box g js r) → owner g js p ≡ r))) in
    let mine : R rank = subst R rank_is (domain.0, λ p p_is. (domain.1 p p_is)) in (
      least.box,
      mine.0,
      least.least (domain_box g js rank) (λ k d within.
          let j = get_or members k d in
          let h = Contains-get_or members k d within in
          (mine.1 j.at (at j h)).0 (own j h)),
    )
