-- What stands in whole lists, and where what they are made of stands.
use Rattle.std.proofs.Common.{◌≡◌, ℕ, zero, suc, ◌+◌, ◌<◌, List, [], ◌∷◌, length, get_or, set, map, inl, inr, ◌⊎◌, Option, Some, None, slice_get, refl, sym, ◌∙◌, ap, subst, arith}
use Rattle.std.specs.List.{All, Contains}
use Rattle.std.proofs.lemmas.List.{length-map, get_or-map, get_or_default}
use Rattle.std.proofs.lemmas.List.Elements.{All-contains}
use Rattle.std.proofs.lemmas.Option.{slice_get_read}
use Rattle.std.proofs.Math.ListN.{length-set}
use Rattle.pf_model.specs.declared.entry.Entry.{Entry}
use Rattle.pf_model.specs.declared.entry.Entry.TheVariants.{Cell, One}
use Rattle.pf_model.specs.Particle.{Particle}
use Rattle.pf_model.specs.Sufficiency.{lies_in}
use Rattle.morton_tree.specs.declared.span.Span.{Span}
use Rattle.group_lists.specs.declared.item_index.ItemIndex.{ItemIndex}
use Rattle.group_lists.specs.declared.kept_source.KeptSource.{KeptSource}
use Rattle.group_lists.specs.declared.listed.Listed.{Listed}
use Rattle.group_lists.specs.Whole.{GroupList, IsListed, HasMembers}
use Rattle.morton_tree.specs.declared.group.Group.{Group}
use Rattle.morton_tree.specs.Spans.{at_span}
use Rattle.pf_model.specs.Totals.{Totals}
use Rattle.group_lists.specs.Listing.{IsSpanOf, body_lies_in, with_moment, HasCount}
use Rattle.group_lists.specs.Indexed.{as_items, group_list, stands_in, LieByPlace, FitList, AreWhole}
use Rattle.group_lists.proofs.GatherLemmas.{read_through}
use Rattle.group_lists.proofs.OccupiedLemmas.{mapped_from}

-- what is read at a place is in the list
pub there_at : {X : Type 0} (xs : List X) (k : ℕ) (x : X) → k < length xs → x ≡ get_or xs k x → Contains xs x
there_at xs k x within at = (k, within, sym at)

-- some of one is one of the other
abbrev some_or : {X : Type 0} → X → Option X → X
some_or d None = d
some_or d (Some x) = x

pub same_some : {X : Type 0} (x y : X) → Some x ≡ Some y → x ≡ y
same_some x y e = ap (some_or x) e

-- the group that is read
pub group_read : (own : List Particle) (listed : List Listed) (groups : List GroupList) (n : ℕ) (x : Listed) → map (group_list own) listed ≡ groups → n < length listed → x ≡ get_or listed n x → slice_get groups n ≡ Some (group_list own x)
group_read own listed groups n x are within at = ap (λ (gs : List GroupList). slice_get gs n) (sym are) ∙ read_through (group_list own) listed n x within at

-- the entry that is read is the one at the place
pub entry_read : (own : List Particle) (listed : List Listed) (groups : List GroupList) (n k : ℕ) (x : Listed) (entry e : Entry) (g : GroupList) → map (group_list own) listed ≡ groups → n < length listed → x ≡ get_or listed n x →
    k < length x.entries.items → entry ≡ get_or x.entries.items k entry → slice_get groups n ≡ Some g → slice_get g.entries k ≡ Some e → entry ≡ e
entry_read own listed groups n k x entry e g are within at inside read at_g at_e =
    let group : group_list own x ≡ g = same_some _ _ (sym (group_read own listed groups n x are within at) ∙ at_g) in
    same_some entry e (sym (slice_get_read x.entries.items _ k entry refl inside read) ∙ ap (λ (h : GroupList). slice_get h.entries k) group ∙ at_e)

-- a place in the group's list is one in the list that is kept
pub place_inside : (own : List Particle) (listed : List Listed) (groups : List GroupList) (n k : ℕ) (x : Listed) → map (group_list own) listed ≡ groups → n < length listed → x ≡ get_or listed n x → ((g : GroupList) → slice_get groups n ≡ Some g → k < length g.entries) → k < length x.entries.items
place_inside own listed groups n k x are within at inside = inside (group_list own x) (group_read own listed groups n x are within at)

-- own bodies lie where they have their place
pub own_by_place : (js : List Particle) (e : Entry) → LieByPlace (as_items js) e
own_by_place js (Cell c m) f there =
    let from = mapped_from (λ (j : Particle). One j) js f there in
    subst (λ (f : Entry). lies_in f (Cell c m) ≡ stands_in f (Cell c m)) from.2 refl
own_by_place js (One p) f there = refl

-- a span of bodies seen as items is one of the bodies
pub span_of_own : (js : List Particle) (e : Entry) (s : Span) → IsSpanOf (λ f. lies_in f e) (as_items js) s → IsSpanOf (body_lies_in e) js s
span_of_own js e s h =
    let long = length-map js (λ (j : Particle). One j) in
    let inside = h.inside in
    record {
      inside = omega arith;
      exactly = λ k j within.
          let item : get_or (as_items js) k (One j) ≡ One (get_or js k j) = get_or-map (λ (i : Particle). One i) js k j (One j) within in
          let place = h.exactly k (One j) (omega arith) in
          (λ e'. place.0 (ap (λ (f : Entry). lies_in f e) item ∙ e'), λ at. sym (ap (λ (f : Entry). lies_in f e) item) ∙ place.1 at);
    }

-- what a list has after a write
contains_set : {X : Type 0} (xs : List X) (n : ℕ) (y l : X) → Contains (set xs n y) l → (y ≡ l) ⊎ Contains xs l
contains_set [] n y l h = inr h
contains_set (x ∷ xs) zero y l (zero, within, at) = inl at
contains_set (x ∷ xs) zero y l (suc k, within, at) = inr (suc k, omega arith, at)
contains_set (x ∷ xs) (suc n) y l (zero, within, at) = inr (0, omega arith, at)
contains_set (x ∷ xs) (suc n) y l (suc k, within, at) =
    elim (contains_set xs n y l (k, omega arith, at)) [
      | inl e ↦ inl e
      | inr h ↦ inr (suc h.0, (let inside : h.0 < length xs = h.1 in omega arith), h.2)
    ]

map_set : {X Y : Type 0} (f : X → Y) (xs : List X) (n : ℕ) (y : X) → map f (set xs n y) ≡ set (map f xs) n (f y)
map_set f [] n y = refl
map_set f (x ∷ xs) zero y = refl
map_set f (x ∷ xs) (suc n) y = ap (λ l. f x ∷ l) (map_set f xs n y)

all_from : {X : Type 0} (P : X → Type 0) (xs : List X) → ((x : X) → Contains xs x → P x) → All P xs
all_from P xs h k d within = h (get_or xs k d) (k, within, get_or_default xs k (get_or xs k d) d within)

-- a group whose list has another entry at a place
pub record IsChanged (listed : List Listed) (n k : ℕ) (x after : Listed) (e other : Entry) : Type 0 where
  pub within : n < length listed
  pub at : x ≡ get_or listed n x
  pub group : after.group ≡ x.group
  pub inside : k < length x.entries.items
  pub read : e ≡ get_or x.entries.items k e
  pub entries : after.entries.items ≡ set x.entries.items k other

-- whole lists stay whole where the other entry is as good
pub whole_changed : (built own : List Particle) (index : ItemIndex) (listed : List Listed) (sources : List KeptSource) (n k : ℕ) (x after : Listed) (e other : Entry) → AreWhole built own index listed sources → IsChanged listed n k x after e other →
    (HasMembers e → HasMembers other) → ((items : List Entry) → LieByPlace items e → LieByPlace items other) → AreWhole built own index (set listed n after) sources
whole_changed built own index listed sources n k x after e other h change some fits =
    let there : Contains listed x = there_at listed n x change.within change.at in
    let has : Contains x.entries.items e = there_at x.entries.items k e change.inside change.read in
    let kept = h.each x there in
    let long = length-set listed n after in
    let few = h.few in
    let entry_long = ap length change.entries ∙ length-set x.entries.items k other in
    let entries_few = kept.few in
    let inside = kept.inside in
    let spans = ap (λ (s : Group). s.span.first + s.span.len) change.group in
    let from : (f : Entry) → Contains after.entries.items f → (other ≡ f) ⊎ Contains x.entries.items f = λ f i.
    contains_set x.entries.items k other f (subst (λ (es : List Entry). Contains es f) change.entries i) in
    let new : IsListed (length built) after.group.span after.entries.items = record {
      inside = omega arith;
      few = omega arith;
      some = all_from HasMembers after.entries.items (λ f i. elim (from f i) [
        | inl same ↦ subst HasMembers same (some (All-contains HasMembers x.entries.items e kept.some has))
        | inr old ↦ All-contains HasMembers x.entries.items f kept.some old
      ]);
    } in
    record {
      few = omega arith;
      same_ids = h.same_ids;
      each = λ l i. elim (contains_set listed n after l i) [
        | inl same ↦ subst (λ (m : Listed). IsListed (length built) m.group.span m.entries.items) same new
        | inr old ↦ h.each l old
      ];
      found = h.found;
      kept = h.kept;
      fit = λ l s i in_sources. elim (contains_set listed n after l i) [
        | inl same ↦ subst (λ (m : Listed). FitList m.entries.items s.items.items) same (λ f j. elim (from f j) [
          | inl is ↦ subst (LieByPlace s.items.items) is (fits s.items.items (h.fit x s there in_sources e has))
          | inr old ↦ h.fit x s there in_sources f old
        ])
        | inr old ↦ h.fit l s old in_sources
      ];
    }

-- and clauses see the one entry changed
pub groups_changed : (own : List Particle) (listed : List Listed) (groups : List GroupList) (n k : ℕ) (x after : Listed) (entry e : Entry) (change : Entry → Entry) (g : GroupList) → map (group_list own) listed ≡ groups → IsChanged listed n k x after entry (change entry) →
    slice_get groups n ≡ Some g → slice_get g.entries k ≡ Some e → map (group_list own) (set listed n after) ≡ set groups n (record { span = g.span; bodies = g.bodies; entries = set g.entries k (change e) })
groups_changed own listed groups n k x after entry e change g are h at_g at_e =
    let group : group_list own x ≡ g = same_some _ _ (sym (group_read own listed groups n x are h.within h.at) ∙ at_g) in
    let same = entry_read own listed groups n k x entry e g are h.within h.at h.inside h.read at_g at_e in
    let new : group_list own after ≡ record { span = g.span; bodies = g.bodies; entries = set g.entries k (change e) } =
    (λ i. record { span = (h.group i).span; bodies = at_span (h.group i).span own; entries = h.entries i })
    ∙ (λ i. record { span = (group i).span; bodies = (group i).bodies; entries = set (group i).entries k (change (same i)) }) in
    map_set (group_list own) listed n after ∙ (λ i. set (are i) n (new i))

-- another moment changes nothing in what lies in a cell
pub moment_fits : (m : Totals) (e : Entry) (items : List Entry) → LieByPlace items e → LieByPlace items (with_moment m e)
moment_fits m (Cell c n) items fit (Cell d o) there = fit (Cell d o) there
moment_fits m (Cell c n) items fit (One q) there = fit (One q) there
moment_fits m (One p) items fit f there = refl

pub moment_has_members : (m : Totals) (e : Entry) → HasCount m.count e → HasMembers e → HasMembers (with_moment m e)
moment_has_members m (Cell c n) same some = (let count : n.count ≡ m.count = same in omega arith)
moment_has_members m (One p) same some = tt
