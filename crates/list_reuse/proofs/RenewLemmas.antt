-- What is known at an entry of a group's list, and at a source.
use Rattle.std.proofs.Common.{◌≡◌, ℕ, zero, suc, ◌+◌, ◌<◌, ◌≤◌, List, [], ◌∷◌, ◌++◌, length, get_or, take, drop, map, Some, inl, inr, refl, sym, ◌∙◌, ap, subst, arith}
use Rattle.std.specs.List.{slice_get, filter, flat_map, All, AllZip, Contains, range_with_len}
use Rattle.std.specs.Option.{option_map}
use Rattle.std.proofs.lemmas.Option.{slice_get-map, slice_get_cases, slice_get_within, get_or_from_slice_get, same_Some, none-some}
use Rattle.std.proofs.lemmas.List.{length-map, take-map, drop-map, append-nil, take_all, take_more, get_or-map, nil_from_length}
use Rattle.std.proofs.lemmas.Grind.{flat_map-append}
use Rattle.std.proofs.lemmas.List.FromFn.{get_or-range_with_len, length-range_with_len}
use Rattle.std.proofs.lemmas.List.Elements.{All-contains, Contains-append_right, Contains-append_cases}
use Rattle.std.proofs.lemmas.List.Sorted.{All-permutation, IsPermutation-sym, Contains-permutation, length_permutation}
use Rattle.pf_model.specs.declared.entry.Entry.{Entry}
use Rattle.pf_model.specs.declared.entry.Entry.TheVariants.{One}
use Rattle.pf_model.specs.Particle.{Particle}
use Rattle.pf_model.specs.Totals.{Totals}
use Rattle.pf_model.specs.Sums.{moment_of, together}
use Rattle.pf_model.specs.Interaction.{members_of}
use Rattle.pf_model.specs.Group.{box_of}
use Rattle.pf_model.specs.Reuse.{present, as_in}
use Rattle.pf_model.specs.Division.{rank_count}
use Rattle.pf_model.specs.Sufficiency.{items_in, moment_together}
use Rattle.morton_tree.specs.declared.span.Span.{Span}
use Rattle.morton_tree.specs.Tree.{Octree}
use Rattle.morton_tree.specs.Spans.{at_span}
use Rattle.list_reuse.specs.Refreshing.{Renewal}
use Rattle.group_lists.specs.Whole.{GroupList}
use Rattle.group_lists.specs.Listing.{SourceItems, Listing, IsSource, items_at_span, body_lies_in}
use Rattle.list_reuse.specs.Keeping.{Motion, sent_from, values_from}
use Rattle.list_reuse.specs.Renewing.{IsOwnTree, CanRenew, IsSameEntry, IsGroupOfBuild, built_list, rank_members, values_at}
use Rattle.list_reuse.specs.KeepLaws.{Laws}
use Rattle.list_reuse.proofs.PartLemmas.{own_moment, values_in_key_order, values_moment}
use Rattle.list_reuse.proofs.OneLemmas.{own_one, own_none, value_one, value_none, never_none}
use Rattle.list_reuse.proofs.SumLemmas.{over_all, counted, few_members, other_not_own, few_next, sum_next, moment_over_all}

pub all_at : {X : Type 0} (P : X → Type 0) (xs : List X) (k : ℕ) (x : X) → All P xs → slice_get xs k ≡ Some x → P x
all_at P xs k x all s = subst P (get_or_from_slice_get xs k x x s) (all k x (slice_get_within xs k x s))

pub contains_at : {X : Type 0} (xs : List X) (k : ℕ) (x : X) → slice_get xs k ≡ Some x → Contains xs x
contains_at xs k x s = (k, slice_get_within xs k x s, get_or_from_slice_get xs k x x s)

pub zip_at : {A B : Type 0} (R : A → B → Type 0) (xs : List A) (ys : List B) (k : ℕ) (x : A) → AllZip R xs ys → slice_get xs k ≡ Some x → (y : B) × (slice_get ys k ≡ Some y) × R x y
zip_at R [] ys k x all s = absurd (none-some x s)
zip_at R (a ∷ xs) [] k x all s = absurd all
zip_at R (a ∷ xs) (b ∷ ys) zero x all s = (b, refl, subst (λ v. R v b) (same_Some a x s) all.0)
zip_at R (a ∷ xs) (b ∷ ys) (suc k) x all s = zip_at R xs ys k x all.1 s

pub zip_long : {A B : Type 0} (R : A → B → Type 0) (xs : List A) (ys : List B) → AllZip R xs ys → length xs ≡ length ys
zip_long R [] [] all = refl
zip_long R [] (y ∷ ys) all = absurd all
zip_long R (x ∷ xs) [] all = absurd all
zip_long R (x ∷ xs) (y ∷ ys) all = ap suc (zip_long R xs ys all.1)

pub some_at : {X : Type 0} (xs : List X) (k : ℕ) → k < length xs → (x : X) × (slice_get xs k ≡ Some x)
some_at xs k below = elim (slice_get_cases xs k).1 [ inl h ↦ (h.0, h.2) | inr h ↦ absurd (omega (arith, h.0)) ]

-- a field of what stands at a place
pub field_at : {X Y : Type 0} (f : X → Y) (xs : List X) (k : ℕ) (x : X) (y : Y) → slice_get xs k ≡ Some x → slice_get (map f xs) k ≡ Some y → y ≡ f x
field_at f xs k x y s t = sym (same_Some (f x) y (sym (slice_get-map f xs k ∙ ap (option_map f) s) ∙ t))

-- a span of the bodies of the build lies among the present ones
pub own_inside : (m : Motion) (built : List Particle) (own : Octree) → IsOwnTree m built own → (sp : Span) → sp.first + sp.len ≤ length built → sp.first + sp.len ≤ length own.bodies
own_inside m built own tree sp inside =
    let long = ap length tree.bodies ∙ length-map built (as_in m.now) in
    omega arith

alone : (x y : ℕ) → Contains (x ∷ []) y → x ≡ y
alone x y (zero, w, e) = e
alone x y (suc k, w, e) = absurd (omega arith)

module _ (laws : Laws) (m : Motion) (ls : Listing) (parcels : List Renewal) (can : CanRenew m ls parcels) where
  pub group_at : (n : ℕ) (l : GroupList) → slice_get ls.groups n ≡ Some l → IsGroupOfBuild m ls.built l
  group_at n l h = all_at (IsGroupOfBuild m ls.built) ls.groups n l can.groups h

  pub source_at : (n : ℕ) (s : SourceItems) → slice_get ls.sources n ≡ Some s → IsSource (sent_from m s.src) s.src s
  source_at n s h = all_at (λ v. IsSource (sent_from m v.src) v.src v) ls.sources n s can.sources h

  pub entry_at : (n place : ℕ) (l : GroupList) (e : Entry) → slice_get ls.groups n ≡ Some l → slice_get (built_list m ls.built l) place ≡ Some e → (d : Entry) × (slice_get l.entries place ≡ Some d) × IsSameEntry e d
  entry_at n place l e hl he = zip_at IsSameEntry (built_list m ls.built l) l.entries place e (group_at n l hl).entries he

  -- the entry of the build at a place of the list
  pub built_at : (n place : ℕ) (l : GroupList) → slice_get ls.groups n ≡ Some l → place < length l.entries → (e : Entry) × (slice_get (built_list m ls.built l) place ≡ Some e)
  built_at n place l hl below =
      let long = zip_long IsSameEntry (built_list m ls.built l) l.entries (group_at n l hl).entries in
      some_at (built_list m ls.built l) place (omega arith)

  -- a parcel came from each source
  pub parcel_there : (n src : ℕ) → slice_get (map (λ (s : SourceItems). s.src) ls.sources) n ≡ Some src → Contains (map (λ (r : Renewal). r.src) parcels) src
  parcel_there n src h =
      let srcs = map (λ (s : SourceItems). s.src) ls.sources in
      let froms = map (λ (r : Renewal). r.src) parcels in
      let all = range_with_len 0 (rank_count m.grid) in
      let here = contains_at srcs n src h in
      let within = Contains-permutation (m.rank ∷ srcs) all src can.ranks (Contains-append_right (m.rank ∷ []) srcs src here) in
      let given = Contains-permutation all (m.rank ∷ froms) src (IsPermutation-sym (m.rank ∷ froms) all can.parcels_are.ranks) within in
      elim (Contains-append_cases (m.rank ∷ []) froms src given) [
        | inl own ↦ absurd (other_not_own m srcs can.ranks src here (alone m.rank src own))
        | inr there ↦ there
      ]

  -- the values of the rank
  pub values_are : (n src : ℕ) (s : SourceItems) (r : Renewal) (values : List Entry) → slice_get ls.sources n ≡ Some s → slice_get (map (λ (v : SourceItems). v.src) ls.sources) n ≡ Some src → Contains parcels r → r.src ≡ src → values ≡ r.values → values ≡ values_from m s.src
  values_are n src s r values hs hsrc there from is =
      is ∙ All-contains (λ (v : Renewal). v.values ≡ values_from m v.src) parcels r can.parcels_are.values there
      ∙ ap (values_from m) (from ∙ field_at (λ (v : SourceItems). v.src) ls.sources n s src hs hsrc)

  -- the places are those of the values
  pub places_within : (n : ℕ) (s : SourceItems) (values : List Entry) → slice_get ls.sources n ≡ Some s → values ≡ values_from m s.src → All (λ k. k < length values) s.places
  places_within n s values hs is =
      let sent = sent_from m s.src in
      let long : length values ≡ length sent = ap length is ∙ length-map sent _ in
      let below : All (λ k. k < length values) (range_with_len 0 (length sent)) = λ k e w. (let size = length-range_with_len 0 (length sent) in let at = get_or-range_with_len 0 (length sent) k e (omega arith) in omega arith) in
      All-permutation (λ k. k < length values) (range_with_len 0 (length sent)) s.places (source_at n s hs).placed.each_once below

  -- the values of the items in an entry
  pub source_sum : (n place source : ℕ) (l : GroupList) (e d : Entry) (s : SourceItems) (values : List Entry) (places : List ℕ) (sp : Span) → slice_get ls.groups n ≡ Some l → slice_get (built_list m ls.built l) place ≡ Some e → slice_get l.entries place ≡ Some d → IsSameEntry e d → slice_get ls.sources source ≡ Some s → values ≡ values_from m s.src → places ≡ s.places → items_at_span sp s.items ≡ items_in d s.items → (v : Entry) →
      moment_together (values_at values v (take sp.len (drop sp.first places))) ≡ moment_of (rank_members m ls.built l e s.src)
  source_sum n place source l e d s values places sp hl he hd same hs is at lie v =
      let g = group_at n l hl in
      let at_place : ℕ → Entry = λ k. get_or values k v in
      let key_order = values_in_key_order laws m can.motion ls.built can.built l.span g.some g.inside s.src s (source_at source s hs) values is v in
      ap (λ (ks : List ℕ). moment_together (values_at values v (take sp.len (drop sp.first ks)))) at
      ∙ ap moment_together
      (sym (take-map at_place sp.len (drop sp.first s.places))
      ∙ ap (take sp.len) (sym (drop-map at_place sp.first s.places) ∙ ap (drop sp.first) key_order))
      ∙ values_moment laws m can.motion ls.built can.built l.span g.some g.inside e d (contains_at (built_list m ls.built l) place e he) same s.src s (source_at source s hs) sp lie

  pub few_of_source : (n : ℕ) (l : GroupList) (e : Entry) (r : ℕ) (t : Totals) → slice_get ls.groups n ≡ Some l → t ≡ moment_of (rank_members m ls.built l e r) → t.count ≤ 65536
  few_of_source n l e r t hl is =
      let g = group_at n l hl in
      let few = few_members laws m can.motion ls.built can.built l.span g.some g.inside e r in
      let count = ap (λ (v : Totals). v.count) is in
      let size = counted (rank_members m ls.built l e r) in
      omega arith

  abbrev srcs : List ℕ
  srcs = map (λ (s : SourceItems). s.src) ls.sources

  -- the own part
  pub first_sum : (n place : ℕ) (l : GroupList) (e d : Entry) (own : Octree) (sp : Span) → slice_get ls.groups n ≡ Some l → slice_get (built_list m ls.built l) place ≡ Some e → IsSameEntry e d → IsOwnTree m ls.built own → at_span sp ls.built ≡ filter (body_lies_in d) ls.built →
      moment_of (at_span sp own.bodies) ≡ moment_of (flat_map (rank_members m ls.built l e) (m.rank ∷ take 0 srcs))
  first_sum n place l e d own sp hl he same tree is =
      let g = group_at n l hl in
      ap (λ (js : List Particle). moment_of (at_span sp js)) tree.bodies
      ∙ own_moment laws m can.motion ls.built can.built l.span g.some g.inside e d (contains_at (built_list m ls.built l) place e he) same sp is
      ∙ ap moment_of (sym (append-nil (rank_members m ls.built l e m.rank)))

  src_at : (k : ℕ) (s : SourceItems) → slice_get ls.sources k ≡ Some s → (k < length srcs) × (get_or srcs k s.src ≡ s.src)
  src_at k s h =
      let at = slice_get-map (λ (v : SourceItems). v.src) ls.sources k ∙ ap (option_map (λ (v : SourceItems). v.src)) h in
      (slice_get_within srcs k s.src at, get_or_from_slice_get srcs k s.src s.src at)

  pub next_few : (n place k : ℕ) (l : GroupList) (e : Entry) (s : SourceItems) (a b : Totals) → slice_get ls.groups n ≡ Some l → slice_get (built_list m ls.built l) place ≡ Some e → slice_get ls.sources k ≡ Some s →
      a ≡ moment_of (flat_map (rank_members m ls.built l e) (m.rank ∷ take k srcs)) → b ≡ moment_of (rank_members m ls.built l e s.src) → a.count + b.count ≤ 65536
  next_few n place k l e s a b hl he hs so_far one =
      let g = group_at n l hl in
      let at = src_at k s hs in
      let few = few_next laws m can.motion ls.built can.built l.span g.some g.inside e srcs can.ranks k s.src at.0 in
      let first = ap (λ (v : Totals). v.count) so_far in
      let second = ap (λ (v : Totals). v.count) (one ∙ ap (λ (r : ℕ). moment_of (rank_members m ls.built l e r)) (sym at.1)) in
      omega arith

  pub next_sum : (n place k : ℕ) (l : GroupList) (e : Entry) (s : SourceItems) (a b : Totals) → slice_get ls.groups n ≡ Some l → slice_get (built_list m ls.built l) place ≡ Some e → slice_get ls.sources k ≡ Some s →
      a ≡ moment_of (flat_map (rank_members m ls.built l e) (m.rank ∷ take k srcs)) → b ≡ moment_of (rank_members m ls.built l e s.src) → together a b ≡ moment_of (flat_map (rank_members m ls.built l e) (m.rank ∷ take (k + 1) srcs))
  next_sum n place k l e s a b hl he hs so_far one =
      let g = group_at n l hl in
      let at = src_at k s hs in
      sum_next laws m can.motion ls.built can.built l.span g.some g.inside e srcs k s.src a b at.0 so_far (one ∙ ap (λ (r : ℕ). moment_of (rank_members m ls.built l e r)) (sym at.1))

  pub all_sum : (n k : ℕ) (l : GroupList) (e : Entry) → slice_get ls.groups n ≡ Some l → length ls.sources ≤ k →
      moment_of (flat_map (rank_members m ls.built l e) (m.rank ∷ take k srcs)) ≡ moment_of (present m.now (members_of m.theta (box_of (at_span l.span ls.built)) m.particles e))
  all_sum n k l e hl past =
      let g = group_at n l hl in
      let long = length-map ls.sources (λ (s : SourceItems). s.src) in
      ap (λ (rs : List ℕ). moment_of (flat_map (rank_members m ls.built l e) (m.rank ∷ rs))) (take_all k srcs (omega arith))
      ∙ moment_over_all laws m can.motion ls.built can.built l.span g.some g.inside e srcs can.ranks

  -- the particle of an entry, as the own octree has it
  pub own_body : (n place : ℕ) (l : GroupList) (p : Particle) (d : Entry) (own : Octree) (sp : Span) (b : Particle) → slice_get ls.groups n ≡ Some l → slice_get (built_list m ls.built l) place ≡ Some (One p) → IsSameEntry (One p) d → IsOwnTree m ls.built own → 1 ≤ sp.len → sp.first + sp.len ≤ length ls.built → at_span sp ls.built ≡ filter (body_lies_in d) ls.built → b ≡ get_or own.bodies sp.first b → b ≡ as_in m.now p
  own_body n place l p d own sp b hl he same tree some inside is at =
      let g = group_at n l hl in
      own_one laws m can.motion ls.built can.built l.span g.some g.inside p d (contains_at (built_list m ls.built l) place (One p) he) same sp some inside is own.bodies tree.bodies b at

  pub own_without : (n place : ℕ) (l : GroupList) (p : Particle) (d : Entry) (sp : Span) → slice_get ls.groups n ≡ Some l → slice_get (built_list m ls.built l) place ≡ Some (One p) → IsSameEntry (One p) d → sp.len ≡ 0 → at_span sp ls.built ≡ filter (body_lies_in d) ls.built → flat_map (rank_members m ls.built l (One p)) (m.rank ∷ take 0 srcs) ≡ []
  own_without n place l p d sp hl he same none is =
      let g = group_at n l hl in
      append-nil (rank_members m ls.built l (One p) m.rank)
      ∙ own_none laws m can.motion ls.built can.built l.span g.some g.inside p d (contains_at (built_list m ls.built l) place (One p) he) same sp none is

  -- and as a source sent it
  pub source_body : (n place source : ℕ) (l : GroupList) (p : Particle) (d : Entry) (s : SourceItems) (values : List Entry) (places : List ℕ) (sp : Span) (v : Entry) → slice_get ls.groups n ≡ Some l → slice_get (built_list m ls.built l) place ≡ Some (One p) → IsSameEntry (One p) d → slice_get ls.sources source ≡ Some s → values ≡ values_from m s.src → places ≡ s.places → 1 ≤ sp.len → sp.first + sp.len ≤ length s.items → items_at_span sp s.items ≡ items_in d s.items → v ≡ get_or values (get_or places sp.first 0) v → v ≡ One (as_in m.now p)
  source_body n place source l p d s values places sp v hl he same hs is at some inside lie read =
      let g = group_at n l hl in
      let at_place : ℕ → Entry = λ k. get_or values k v in
      let key_order = values_in_key_order laws m can.motion ls.built can.built l.span g.some g.inside s.src s (source_at source s hs) values is v in
      let long = sym (length-map s.places at_place) ∙ ap length key_order ∙ length-map s.items _ in
      let within : sp.first < length s.places = omega arith in
      read ∙ ap (λ (ks : List ℕ). at_place (get_or ks sp.first 0)) at
      ∙ sym (get_or-map at_place s.places sp.first 0 d within)
      ∙ ap (λ (es : List Entry). get_or es sp.first d) key_order
      ∙ value_one laws m can.motion ls.built can.built l.span g.some g.inside p d (contains_at (built_list m ls.built l) place (One p) he) same s.src s (source_at source s hs) sp some inside lie

  pub source_without : (n place source : ℕ) (l : GroupList) (p : Particle) (d : Entry) (s : SourceItems) (sp : Span) → slice_get ls.groups n ≡ Some l → slice_get (built_list m ls.built l) place ≡ Some (One p) → IsSameEntry (One p) d → slice_get ls.sources source ≡ Some s → sp.len ≡ 0 → items_at_span sp s.items ≡ items_in d s.items → rank_members m ls.built l (One p) s.src ≡ []
  source_without n place source l p d s sp hl he same hs none lie =
      let g = group_at n l hl in
      value_none laws m can.motion ls.built can.built l.span g.some g.inside p d (contains_at (built_list m ls.built l) place (One p) he) same s.src s (source_at source s hs) sp none lie

  pub none_next : (k : ℕ) (l : GroupList) (e : Entry) (s : SourceItems) → slice_get ls.sources k ≡ Some s → flat_map (rank_members m ls.built l e) (m.rank ∷ take k srcs) ≡ [] → rank_members m ls.built l e s.src ≡ [] → flat_map (rank_members m ls.built l e) (m.rank ∷ take (k + 1) srcs) ≡ []
  none_next k l e s hs so_far none =
      let f = rank_members m ls.built l e in
      let at = src_at k s hs in
      ap (λ (rs : List ℕ). flat_map f (m.rank ∷ rs)) (take_more srcs k s.src at.0 ∙ ap (λ (r : ℕ). take k srcs ++ r ∷ []) at.1)
      ∙ flat_map-append f (m.rank ∷ take k srcs) (s.src ∷ [])
      ∙ (λ i. so_far i ++ (append-nil (f s.src) ∙ none) i)

  pub never_all_none : (n place k : ℕ) (l : GroupList) (p : Particle) → slice_get ls.groups n ≡ Some l → slice_get (built_list m ls.built l) place ≡ Some (One p) → length ls.sources ≤ k → flat_map (rank_members m ls.built l (One p)) (m.rank ∷ take k srcs) ≡ [] → ⊥
  never_all_none n place k l p hl he past none =
      let g = group_at n l hl in
      let size = length-map ls.sources (λ (s : SourceItems). s.src) in
      let f = rank_members m ls.built l (One p) in
      let members = present m.now (members_of m.theta (box_of (at_span l.span ls.built)) m.particles (One p)) in
      let all : flat_map f (m.rank ∷ srcs) ≡ [] = ap (λ (rs : List ℕ). flat_map f (m.rank ∷ rs)) (sym (take_all k srcs (omega arith))) ∙ none in
      let same = length_permutation (flat_map f (m.rank ∷ srcs)) members (over_all laws m can.motion ls.built can.built l.span g.some g.inside (One p) srcs can.ranks) in
      let zero : length members ≡ 0 = same ∙ ap length all in
      never_none laws m can.motion ls.built can.built l.span g.some g.inside p (contains_at (built_list m ls.built l) place (One p) he) (nil_from_length members zero)
