-- The lists of groups: how long they are, and what their entries have.
use Rattle.std.proofs.Common.{◌≡◌, ℕ, zero, suc, ◌+◌, ◌*◌, ◌^◌, ◌<◌, ◌≤◌, Bool, true, List, [], ◌∷◌, ◌++◌, length, get_or, map, take, inl, inr, Option, Some, None, slice_get, option_map, refl, sym, ◌∙◌, ap, subst, arith}
use Rattle.std.specs.List.{filter, sum_by, All, Contains}
use Rattle.std.specs.List.Sorted.{IsPermutation}
use Rattle.std.proofs.lemmas.Bool.{cases_lt, cond_both, both_ways, eq-eqb, and_from}
use Rattle.std.proofs.lemmas.List.{length-map, get_or-map, get_or_default, map-append, take_more, length_push}
use Rattle.std.proofs.lemmas.Option.{slice_get-map, slice_get_read}
use Rattle.std.proofs.lemmas.List.Sums.{sum_by_push}
use Rattle.pf_geom.specs.Bounds.{Bounds}
use Rattle.pf_geom.specs.Octant.{cell_at}
use Rattle.pf_model.specs.declared.entry.Entry.{Entry}
use Rattle.pf_model.specs.Particle.{Particle}
use Rattle.pf_model.specs.Particles.{HaveDistinctIds}
use Rattle.pf_model.specs.Criterion.{Criterion}
use Rattle.pf_model.specs.Division.{Division, IsDivision}
use Rattle.pf_model.specs.Domains.{particles_of}
use Rattle.pf_model.specs.Sums.{moment_of}
use Rattle.pf_model.specs.Interaction.{level_of, is_cell_at, leads_to_cell, entry_at, list_of}
use Rattle.model_laws.specs.ListLaws.{ListsHoldTheirEntries, ListsAreShort}
use Rattle.model_laws.specs.ListLaws.{ListsIgnoreOrder}
use Rattle.model_laws.specs.DomainLaws.{OneRankHasItsOwn, AllRanksHaveAll}
use Rattle.morton_tree.specs.declared.group.Group.{Group}
use Rattle.group_lists.specs.declared.listed.Listed.{Listed}
use Rattle.group_lists.specs.Gathering.{Gathering, own_gathering, partial_list, IsWhole, IsGroupOf, IsGathered}
use Rattle.group_lists.specs.Whole.{HasMembers, IsListed}

some_kept : {X : Type 0} (test : X → Bool) (xs : List X) (x : X) → Contains xs x → test x ≡ true → 1 ≤ length (filter test xs)
some_kept test [] x h e = absurd (omega (arith, h.1))
some_kept test (y ∷ ys) x (zero, within, at) e =
    cond_both (test y) (y ∷ filter test ys) (filter test ys) (λ l. 1 ≤ length l) (λ _. omega arith) (λ f. absurd (both_ways (test y) f (ap test at ∙ e)))
some_kept test (y ∷ ys) x (suc k, within, at) e =
    let rest = some_kept test ys x (k, omega arith, at) e in
    cond_both (test y) (y ∷ filter test ys) (filter test ys) (λ l. 1 ≤ length l) (λ _. omega arith) (λ _. rest)

entry_has_members : (t : Criterion) (box : Bounds) (js : List Particle) (j : Particle) (o : Option ℕ) → Contains js j → level_of t box j.at ≡ o → HasMembers (entry_at t box js j o)
unfolding moment_of
entry_has_members t box js j None h e = tt
entry_has_members t box js j (Some level) h e =
    let c = cell_at j.at level in
    some_kept (leads_to_cell t box c) js j h (ap (is_cell_at c j.at) e ∙ and_from _ _ (eq-eqb level level refl) (eq-eqb c.key c.key refl))

-- each cell in a list has members
pub All-list_of : ListsHoldTheirEntries → (t : Criterion) (box : Bounds) (js : List Particle) → HaveDistinctIds js → All HasMembers (list_of t box js)
All-list_of laws t box js distinct k d within =
    let e = get_or (list_of t box js) k d in
    let from = ((laws t box js (list_of t box js) distinct).1 refl).sound e (k, within, get_or_default (list_of t box js) k e d within) in
    subst HasMembers (sym from.2) (entry_has_members t box js from.0 (level_of t box from.0.at) from.1 refl)

-- the list of a group over particles
abbrev pub list_round : Criterion → List Particle → Group → List Entry
list_round t js group = list_of t group.around js

-- groups with their lists, as far as they are kept
pub record AreListed (t : Criterion) (js : List Particle) (groups : List Group) (listed : List Listed) (count : ℕ) : Type 0 where
  pub each : map (λ l. l.group) listed ≡ groups
  pub counted : count ≡ sum_by (λ group. length (list_round t js group)) groups
  pub few : count ≤ length groups * 65536
  pub kept : count ≤ 2 ^ 24 → map (λ l. l.entries.items) listed ≡ map (list_round t js) groups
  pub counted_all : sum_by length (map (λ l. l.entries.items) listed) ≤ count
  pub bounded : sum_by length (map (λ l. l.entries.items) listed) ≤ 2 ^ 24

pub listed_none : (t : Criterion) (js : List Particle) (listed : List Listed) → listed ≡ [] → AreListed t js [] listed 0
listed_none t js listed e = record {
  each = ap (map (λ (l : Listed). l.group)) e;
  counted = refl;
  few = omega arith;
  kept = λ _. ap (map (λ (l : Listed). l.entries.items)) e;
  counted_all = (let stored = ap (λ (ls : List Listed). sum_by length (map (λ l. l.entries.items) ls)) e in omega arith);
  bounded = (let stored = ap (λ (ls : List Listed). sum_by length (map (λ l. l.entries.items) ls)) e in omega arith);
}

-- one group more, whose list is kept while all are few
pub record IsNext (t : Criterion) (js : List Particle) (count : ℕ) (group : Group) (entries : List Entry) (l : Listed) : Type 0 where
  pub group_is : l.group ≡ group
  pub list : entries ≡ list_round t js group
  pub short : length entries ≤ 65536
  pub while_few : count + length entries ≤ 2 ^ 24 → l.entries.items ≡ entries
  pub past_few : 2 ^ 24 < count + length entries → l.entries.items ≡ []

-- what is stored after it
abbrev StoresUpTo : ℕ → List Listed → Type 0
StoresUpTo count listed = (sum_by length (map (λ l. l.entries.items) listed) ≤ count) × (sum_by length (map (λ l. l.entries.items) listed) ≤ 2 ^ 24)

stored_push : (t : Criterion) (js : List Particle) (groups : List Group) (listed : List Listed) (count : ℕ) (group : Group) (entries : List Entry) (l : Listed) → AreListed t js groups listed count → IsNext t js count group entries l → StoresUpTo (count + length entries) (listed ++ l ∷ [])
stored_push t js groups listed count group entries l h next =
    let items : Listed → List Entry = λ k. k.entries.items in
    let sum : sum_by length (map items (listed ++ l ∷ [])) ≡ sum_by length (map items listed) + length l.entries.items =
    ap (sum_by length) (map-append items listed (l ∷ [])) ∙ sum_by_push length (map items listed) l.entries.items in
    let before = h.counted_all in
    let bounded = h.bounded in
    elim (cases_lt (2 ^ 24) (count + length entries)) [
      | inl past ↦ (let none = ap length (next.past_few past) in (omega arith, omega arith))
      | inr small ↦ (let same = ap length (next.while_few small) in (omega arith, omega arith))
    ]

listed_push : (t : Criterion) (js : List Particle) (groups : List Group) (listed : List Listed) (count : ℕ) (group : Group) (entries : List Entry) (l : Listed) → AreListed t js groups listed count → IsNext t js count group entries l → AreListed t js (groups ++ group ∷ []) (listed ++ l ∷ []) (count + length entries)
listed_push t js groups listed count group entries l h next =
    let short = next.short in
    let few = h.few in
    let stored = stored_push t js groups listed count group entries l h next in
    record {
      each = map-append (λ (k : Listed). k.group) listed (l ∷ []) ∙ (λ i. h.each i ++ next.group_is i ∷ []);
      counted = (
          let sum = sum_by_push (λ (g : Group). length (list_round t js g)) groups group in
          let more = ap length next.list in
          let before = h.counted in
          omega arith
          );
      few = (let long = length_push groups group in omega arith);
      kept = λ small.
          let before = h.kept (omega arith) in
          let here = next.while_few small ∙ next.list in
          map-append (λ (k : Listed). k.entries.items) listed (l ∷ []) ∙ (λ i. before i ++ here i ∷ []) ∙ sym (map-append (list_round t js) groups (group ∷ []));
      counted_all = stored.0;
      bounded = stored.1;
    }

-- and from the front of the groups
pub listed_more : (t : Criterion) (js : List Particle) (groups : List Group) (i : ℕ) (listed more : List Listed) (count : ℕ) (group : Group) (entries : List Entry) (l : Listed) → i < length groups → group ≡ get_or groups i group → AreListed t js (take i groups) listed count → IsNext t js count group entries l → more ≡ listed ++ l ∷ [] → AreListed t js (take (i + 1) groups) more (count + length entries)
listed_more t js groups i listed more count group entries l within at h next pushed =
    let front : take i groups ++ group ∷ [] ≡ take (i + 1) groups = (λ k. take i groups ++ at k ∷ []) ∙ sym (take_more groups i group within) in
    subst (λ (gs : List Group). AreListed t js gs more (count + length entries)) front
    (subst (λ (ls : List Listed). AreListed t js (take i groups ++ group ∷ []) ls (count + length entries)) (sym pushed) (listed_push t js (take i groups) listed count group entries l h next))

-- over the own particles alone
own_partial : ListsIgnoreOrder → OneRankHasItsOwn → (t : Criterion) (g : Division) (js own : List Particle) (rank : ℕ) (groups : List Group) → HaveDistinctIds own → IsPermutation own (particles_of g js rank) → partial_list t g js (own_gathering rank own groups) ≡ list_round t own
own_partial laws one_rank t g js own rank groups distinct same =
    let each : (group : Group) → partial_list t g js (own_gathering rank own groups) group ≡ list_round t own group = λ group.
    ap (list_of t group.around) (one_rank g js rank) ∙ sym (laws t group.around own (particles_of g js rank) distinct same) in
    λ i group. each group i

pub gathered_from_listed : ListsIgnoreOrder → OneRankHasItsOwn → (t : Criterion) (g : Division) (js own : List Particle) (rank : ℕ) (groups : List Group) (lists : List (List Entry)) (count : ℕ) → HaveDistinctIds own → IsPermutation own (particles_of g js rank) → length groups ≤ 65536 → All (IsGroupOf own) groups → count ≡ sum_by (λ group. length (list_round t own group)) groups → (count ≤ 2 ^ 24 → lists ≡ map (list_round t own) groups) → sum_by length lists ≤ 2 ^ 24 → IsGathered t g js (own_gathering rank own groups) lists count
gathered_from_listed laws one_rank t g js own rank groups lists count distinct same few of_own counted kept bounded =
    let partial = sym (own_partial laws one_rank t g js own rank groups distinct same) in
    record {
      own = same;
      few = few;
      of_own = of_own;
      counted = counted ∙ ap (λ (f : Group → List Entry). sum_by (λ group. length (f group)) groups) partial;
      kept = λ small. kept small ∙ ap (λ (f : Group → List Entry). map f groups) partial;
      bounded = bounded;
    }

-- over the particles of all ranks
pub whole_partial : AllRanksHaveAll → (t : Criterion) (g : Division) (js : List Particle) (gather : Gathering) → IsDivision g → IsWhole g gather → partial_list t g js gather ≡ list_round t js
whole_partial all_ranks t g js gather division whole i group = list_of t group.around (all_ranks g js (gather.rank ∷ gather.absorbed) division whole i)

-- where the lists are those of groups of so many particles, each keeps the limits
pub listed_each : ListsAreShort → ListsHoldTheirEntries → (t : Criterion) (js own : List Particle) (listed : List Listed) → HaveDistinctIds js → length js ≤ 65536 → All (IsGroupOf own) (map (λ l. l.group) listed) → map (λ l. l.entries.items) listed ≡ map (list_round t js) (map (λ l. l.group) listed) → All (λ l. IsListed (length own) l.group.span l.entries.items) listed
listed_each short laws t js own listed distinct few of_own lists k d within =
    let l = get_or listed k d in
    let groups = map (λ (m : Listed). m.group) listed in
    let inside : k < length groups = rw length-map within in
    let group : get_or groups k d.group ≡ l.group = get_or-map (λ (m : Listed). m.group) listed k d d.group within in
    let entries : l.entries.items ≡ list_round t js l.group =
    sym (get_or-map (λ (m : Listed). m.entries.items) listed k d [] within) ∙ ap (λ (es : List (List Entry)). get_or es k []) lists ∙ get_or-map (list_round t js) groups k d.group [] inside ∙ ap (list_round t js) group in
    record {
      inside = (subst (IsGroupOf own) group (of_own k d.group inside)).inside;
      few = (let long = ap length entries in let most = short t l.group.around js in omega arith);
      some = subst (All HasMembers) (sym entries) (All-list_of laws t l.group.around js distinct);
    }

-- what is read at a place of a list, seen through a function
pub read_through : {X Y : Type 0} (f : X → Y) (xs : List X) (k : ℕ) (x : X) → k < length xs → x ≡ get_or xs k x → slice_get (map f xs) k ≡ Some (f x)
read_through f xs k x within at = slice_get-map f xs k ∙ ap (option_map f) (slice_get_read xs (length xs) k x refl within at)

-- a place in a list seen through a function is one in the list
pub place_within : {X Y : Type 0} (f : X → Y) (xs : List X) (ys : List Y) (k : ℕ) → map f xs ≡ ys → k < length ys → k < length xs
place_within f xs ys k is within = let long = ap length is in let same = length-map xs f in omega arith
