-- The items of an essential tree, with their members as they are now.
use Rattle.std.proofs.Common.{◌≡◌, ℕ, ◌+◌, ◌<◌, Bool, List, [], ◌∷◌, ◌++◌, length, get_or, take, drop, map, Option, Some, None, inl, inr, refl, sym, ◌∙◌, ap, subst, arith}
use Rattle.std.specs.List.{slice_get, filter, Contains, IsDistinct}
use Rattle.std.specs.Option.{is_none, option_map}
use Rattle.std.specs.List.Sorted.{IsPermutation}
use Rattle.std.specs.Prelude.{nat_eq}
use Rattle.std.proofs.lemmas.Bool.{eqb-true, eq-eqb, and_from, and_parts}
use Rattle.std.proofs.lemmas.Option.{slice_get-map, slice_get_cases, slice_get_within, get_or_from_slice_get}
use Rattle.std.proofs.lemmas.List.{take-map, drop-map, length-map, get_or-map, take_more}
use Rattle.std.proofs.lemmas.List.Elements.{Contains-append_right}
use Rattle.std.proofs.lemmas.List.Sorted.{IsPermutation-refl}
use Rattle.order_laws.specs.OrderLaws.{TestsKeepWhatPasses}
use Rattle.pf_geom.specs.Bounds.{Bounds}
use Rattle.pf_geom.specs.Octant.{Octant}
use Rattle.pf_model.specs.declared.entry.Entry.{Entry}
use Rattle.pf_model.specs.declared.entry.Entry.TheVariants.{Cell, One}
use Rattle.pf_model.specs.Particle.{Particle}
use Rattle.pf_model.specs.Particles.{HaveDistinctIds, HaveSameIds}
use Rattle.pf_model.specs.Criterion.{Criterion}
use Rattle.pf_model.specs.Sums.{moment_of}
use Rattle.model_laws.specs.MomentLaws.{MomentsIgnoreOrder}
use Rattle.model_laws.specs.ListLaws.{IsListOf, ListsHoldTheirEntries}
use Rattle.model_laws.specs.ParticleLaws.{SomeHaveDistinctIds}
use Rattle.pf_model.specs.Interaction.{level_of, entry_at, list_of, leads_to, members_of}
use Rattle.pf_model.specs.Reuse.{present, as_in, present_entry}
use Rattle.model_laws.specs.ReuseLaws.{PresentAreFound, PresentEntriesAreFound}
use Rattle.morton_tree.specs.declared.span.Span.{Span}
use Rattle.morton_tree.specs.Tree.{Octree, IsOctree}
use Rattle.morton_tree.specs.Spans.{at_span}
use Rattle.essential_tree.specs.declared.sent.Sent.{Sent}
use Rattle.list_reuse.specs.Refreshing.{IsKeptOf, present_items}
use Rattle.list_reuse.proofs.ItemLemmas.{IsItemAt, item_at, first_of_span}

abbrev ids : List Particle → List ℕ
ids js = map (λ (j : Particle). j.id) js

same_one : (p q : Particle) → One p ≡ One q → p ≡ q
same_one p q e = cc

same_cons : (m n : ℕ) (ms ns : List ℕ) → m ∷ ms ≡ n ∷ ns → (m ≡ n) × (ms ≡ ns)
same_cons m n ms ns e = (cc, cc)

pub record Laws : Type 0 where
  pub lists : ListsHoldTheirEntries
  pub some : SomeHaveDistinctIds
  pub order : MomentsIgnoreOrder
  pub are_found : PresentAreFound
  pub entries_are_found : PresentEntriesAreFound
  pub passing : TestsKeepWhatPasses Particle

-- particles of the same ids in the same order are found by them
pub all_found : PresentEntriesAreFound → (now : List Particle) → HaveDistinctIds now → (js ks : List Particle) → ids ks ≡ ids js → ((k : Particle) → Contains ks k → Contains now k) → map (as_in now) js ≡ ks
all_found law now distinct [] [] same some = refl
all_found law now distinct [] (k ∷ ks) same some = absurd (cc)
all_found law now distinct (j ∷ js) [] same some = absurd (cc)
all_found law now distinct (j ∷ js) (k ∷ ks) same some =
    let both = same_cons k.id j.id (ids ks) (ids js) same in
    let head : as_in now j ≡ k = same_one (as_in now j) k (law now [] j k distinct (some k (0, omega arith, refl)) both.0) in
    let tail : map (as_in now) js ≡ ks = all_found law now distinct js ks both.1 (λ q h. some q (Contains-append_right (k ∷ []) ks q h)) in
    cc

module _ (laws : Laws) (tree : Octree) (o : IsOctree tree) where
  distinct_now : HaveDistinctIds tree.bodies
  distinct_now = subst (λ (l : List ℕ). IsDistinct nat_eq l) (sym o.same_ids) o.are_bodies.distinct

  -- the bodies of a tree are those of the build, found by their ids
  pub bodies_found : map (as_in tree.bodies) tree.built ≡ tree.bodies
  bodies_found = all_found laws.entries_are_found tree.bodies distinct_now tree.built tree.bodies o.same_ids (λ k h. h)

  same_ids_now : HaveSameIds tree.built tree.bodies
  same_ids_now = subst (IsPermutation (ids tree.built)) (sym o.same_ids) (IsPermutation-refl (ids tree.built))

  -- the moment of a span is that of what is present of the particles that stood there at the build
  span_moment : (test : Particle → Bool) (s : Span) → at_span s tree.built ≡ filter test tree.built → moment_of (present tree.bodies (filter test tree.built)) ≡ moment_of (at_span s tree.bodies)
  span_moment test s e =
      let some = filter test tree.built in
      let there = laws.are_found tree.built some tree.bodies o.are_bodies.distinct (laws.some test tree.built o.are_bodies.distinct) (λ k h. ((laws.passing test tree.built k).0 h).0) same_ids_now in
      sym (laws.order (map (as_in tree.bodies) some) (present tree.bodies some) there)
      ∙ ap moment_of
      (ap (map (as_in tree.bodies)) (sym e)
      ∙ sym (take-map (as_in tree.bodies) s.len (drop s.first tree.built))
      ∙ sym (ap (take s.len) (drop-map (as_in tree.bodies) s.first tree.built))
      ∙ ap (at_span s) bodies_found)

  module _ (t : Criterion) (box : Bounds) where
    abbrev pub now_of : Entry → Entry
    now_of e = present_entry tree.bodies (members_of t box tree.built e) e

    -- a cell beside its span
    cell_value : (c : Octant) (e : Entry) (s : Span) → IsItemAt (Some c) e → at_span s tree.built ≡ members_of t box tree.built e → now_of e ≡ Cell c (moment_of (at_span s tree.bodies))
    cell_value c (Cell d m) s at e = (λ k. Cell (at k) (span_moment (leads_to t box (Cell d m)) s e k))
    cell_value c (One p) s at e = absurd at

    -- a particle of a list is a member of itself
    is_member : (p j : Particle) (level : Option ℕ) → Contains tree.built j → level_of t box j.at ≡ level → One p ≡ entry_at t box tree.built j level → Contains (members_of t box tree.built (One p)) j
    is_member p j (Some level) h near e = absurd (cc)
    is_member p j None h near e =
        (laws.passing (leads_to t box (One p)) tree.built j).1
        (h, and_from (is_none (level_of t box j.at)) (nat_eq p.id j.id) (ap is_none near) (eq-eqb p.id j.id (ap (λ (q : Particle). q.id) (same_one p j e))))

    -- a particle beside its span
    one_value : (p : Particle) (s : Span) → Contains (list_of t box tree.built) (One p) → at_span s tree.built ≡ members_of t box tree.built (One p) → (s.first < length tree.bodies) × ((b : Particle) → b ≡ get_or tree.bodies s.first b → now_of (One p) ≡ One b)
    one_value p s h e =
        let listed : IsListOf t box tree.built (list_of t box tree.built) = (laws.lists t box tree.built (list_of t box tree.built) o.are_bodies.distinct).1 refl in
        let from = listed.sound (One p) h in
        let j = from.0 in
        let members = members_of t box tree.built (One p) in
        let member : Contains members j = is_member p j (level_of t box j.at) from.1 refl from.2 in
        let first = first_of_span s.first s.len tree.built j p (subst (λ (l : List Particle). Contains l j) (sym e) member) in
        let q = get_or tree.built s.first p in
        let found : Contains members q = subst (λ (l : List Particle). Contains l q) e first.1 in
        let leads = ((laws.passing (leads_to t box (One p)) tree.built q).0 found).1 in
        let named : p.id ≡ q.id = eqb-true p.id q.id (and_parts (is_none (level_of t box q.at)) (nat_eq p.id q.id) leads).1 in
        let long : length tree.bodies ≡ length tree.built = sym (length-map tree.bodies (λ (v : Particle). v.id)) ∙ ap length o.same_ids ∙ length-map tree.built (λ (v : Particle). v.id) in
        let within : s.first < length tree.bodies = subst (λ (n : ℕ). s.first < n) (sym long) first.0 in (
          within,
          λ b at.
              (let same : b.id ≡ q.id =
              ap (λ (v : Particle). v.id) at ∙ sym (get_or-map (λ (v : Particle). v.id) tree.bodies s.first b 0 within)
              ∙ ap (λ (l : List ℕ). get_or l s.first 0) o.same_ids
              ∙ get_or-map (λ (v : Particle). v.id) tree.built s.first p 0 first.0 in
              laws.entries_are_found tree.bodies members p b distinct_now (s.first, within, sym at) (same ∙ sym named)),
        )

    -- what is known of the item at a place
    pub record IsPlaced (items : List Entry) (cells : List Octant) (place : ℕ) (s : Span) (e : Entry) : Type 0 where
      pub is : slice_get items place ≡ Some e
      pub listed : Contains (list_of t box tree.built) e
      pub beside : IsItemAt (slice_get cells place) e
      pub members : at_span s tree.built ≡ members_of t box tree.built e

    pub placed : (items : List Entry) (s : Sent) (place : ℕ) (span : Span) → IsKeptOf t box tree.built items s → place < length s.spans.items → span ≡ get_or s.spans.items place span → (e : Entry) × IsPlaced items s.cells.items place span e
    placed items s place span kept within at =
        let f : Span → List Particle = λ v. at_span v tree.built in
        let g : Entry → List Particle = members_of t box tree.built in
        let long : length s.spans.items ≡ length items = sym (length-map s.spans.items f) ∙ ap length kept.sent.members ∙ length-map items g in
        let here = elim (slice_get_cases items place).1 as (λ v. (x : Entry) × (place < length items) × (slice_get items place ≡ Some x) × (get_or items place x ≡ x)) [
          | inl h ↦ h
          | inr h ↦ absurd (omega (arith, h.0, long))
        ] in
        let e = here.0 in
        let whole : items ≡ list_of t box tree.built = elim kept.whole as (λ v. items ≡ list_of t box tree.built) [
          | inl h ↦ h
          | inr h ↦ absurd (omega (arith, ap length h, here.1))
        ] in
        let listed : IsListOf t box tree.built items = (laws.lists t box tree.built items o.are_bodies.distinct).1 whole in (
          e,
          record {
            is = here.2;
            listed = subst (λ (l : List Entry). Contains l e) whole (place, here.1, here.3);
            beside = subst (λ (cs : List Octant). IsItemAt (slice_get cs place) e) (sym kept.sent.cells) (item_at items place e listed.ordered here.2);
            members =
                ap f at ∙ sym (get_or-map f s.spans.items place span [] within)
                ∙ ap (λ (l : List (List Particle)). get_or l place []) kept.sent.members
                ∙ get_or-map g items place e [] here.1 ∙ ap g here.3;
          },
        )

    present_at : (items : List Entry) (place : ℕ) (e v : Entry) → slice_get items place ≡ Some e → now_of e ≡ v → slice_get (present_items t box tree.built tree.bodies items) place ≡ Some v
    present_at items place e v is value = slice_get-map now_of items place ∙ ap (option_map now_of) is ∙ ap Some value

    -- a place with a cell
    pub value_of_cell : (items : List Entry) (s : Sent) (place : ℕ) (span : Span) (c : Octant) → IsKeptOf t box tree.built items s → place < length s.spans.items → span ≡ get_or s.spans.items place span → slice_get s.cells.items place ≡ Some c →
        slice_get (present_items t box tree.built tree.bodies items) place ≡ Some (Cell c (moment_of (at_span span tree.bodies)))
    value_of_cell items s place span c kept within at cell =
        let h = placed items s place span kept within at in
        present_at items place h.0 (Cell c (moment_of (at_span span tree.bodies))) h.1.is
        (cell_value c h.0 span (subst (λ (x : Option Octant). IsItemAt x h.0) cell h.1.beside) h.1.members)

    -- one without has a particle, whose span isn't empty
    one_beside : (items : List Entry) (cells : List Octant) (place : ℕ) (span : Span) (e : Entry) → IsPlaced items cells place span e → slice_get cells place ≡ None → (p : Particle) × (e ≡ One p)
    one_beside items cells place span (Cell c m) h none = absurd (subst (λ (x : Option Octant). IsItemAt x (Cell c m)) none h.beside)
    one_beside items cells place span (One p) h none = (p, refl)

    pub value_of_one : (items : List Entry) (s : Sent) (place : ℕ) (span : Span) → IsKeptOf t box tree.built items s → place < length s.spans.items → span ≡ get_or s.spans.items place span → slice_get s.cells.items place ≡ None →
        (span.first < length tree.bodies) × ((b : Particle) → b ≡ get_or tree.bodies span.first b → slice_get (present_items t box tree.built tree.bodies items) place ≡ Some (One b))
    value_of_one items s place span kept within at none =
        let h = placed items s place span kept within at in
        let one = one_beside items s.cells.items place span h.0 h.1 none in
        let value = one_value one.0 span
        (subst (Contains (list_of t box tree.built)) one.1 h.1.listed)
        (h.1.members ∙ ap (members_of t box tree.built) one.1) in
        (value.0, λ b read. present_at items place (One one.0) (One b) (h.1.is ∙ ap Some one.1) (value.1 b read))

-- the next element
pub take_next : {X : Type 0} (xs : List X) (i : ℕ) (x : X) → slice_get xs i ≡ Some x → take i xs ++ x ∷ [] ≡ take (i + 1) xs
take_next xs i x s =
    ap (λ y. take i xs ++ y ∷ []) (sym (get_or_from_slice_get xs i x x s)) ∙ sym (take_more xs i x (slice_get_within xs i x s))

-- as many values as spans
pub values_long : (t : Criterion) (box : Bounds) (js now : List Particle) (items : List Entry) (s : Sent) → IsKeptOf t box js items s → length (present_items t box js now items) ≡ length s.spans.items
values_long t box js now items s kept =
    length-map items (λ f. present_entry now (members_of t box js f) f)
    ∙ sym (length-map items (members_of t box js)) ∙ sym (ap length kept.sent.members) ∙ length-map s.spans.items (λ span. at_span span js)
