-- The groups of a list in key order, made one after another from its front.
use Rattle.std.proofs.Common.{◌≡◌, ℕ, ◌+◌, ◌-◌, ◌<◌, ◌≤◌, true, false, List, [], ◌∷◌, ◌++◌, length, get_or, drop, map, inl, inr, refl, sym, ◌∙◌, ap, subst, arith}
use Rattle.std.specs.List.{All, Contains}
use Rattle.std.specs.List.Sorted.{IsPartitionPoint}
use Rattle.std.proofs.lemmas.Bool.{cases_lt, ltb-true, ltb-false, lt-ltb, le-ltb, not-true, not-false}
use Rattle.std.proofs.lemmas.List.{length-take, length-drop, get_or-take, get_or-drop, get_or_default, map-append, length_push}
use Rattle.std.proofs.lemmas.List.Elements.{All-contains, All-nil, All-push, filter_passes}
use Rattle.std.proofs.lemmas.List.Sums.{count_by-le-length}
use Rattle.pf_geom.specs.Octant.{Octant}
use Rattle.pf_model.specs.Particle.{Particle}
use Rattle.pf_model.specs.Group.{particles_in, group_level, group_cell, box_of}
use Rattle.model_laws.specs.GroupLaws.{PositionsShareTheirGroup}
use Rattle.morton_tree.specs.Tree.{IsInKeyOrder}
use Rattle.morton_tree.specs.declared.span.Span.{Span}
use Rattle.morton_tree.specs.declared.group.Group.{Group}
use Rattle.morton_tree.specs.Spans.{at_span, span_of, FollowOneAnother}
use Rattle.morton_tree.specs.Groups.{group_in, IsGroup}
use Rattle.morton_tree.proofs.SplitLemmas.{passes_below, fails_from, point_is_count}
use Rattle.morton_tree.proofs.SpanLemmas.{key_at, cells_ascend, is_below, is_member, is_not_above, key_of_member, below_first, not_above_first, span_members, span_end, some_members}

abbrev octant : ℕ → ℕ → Octant
octant level key = record { level = level; key = key }

-- a particle in the cell of a group has this cell as that of its own group
pub member_shares : PositionsShareTheirGroup → (limit : ℕ) (js : List Particle) (i j : Particle) → key_at (group_cell limit js j.at).level i ≡ (group_cell limit js j.at).key → group_cell limit js i.at ≡ group_cell limit js j.at
member_shares share limit js i j same = share limit js j.at i.at (ap (octant (group_level limit js j.at)) same)

-- and each lies in the cell of its own group
pub key_of_shared : (limit : ℕ) (js : List Particle) (i : Particle) (c : Octant) → group_cell limit js i.at ≡ c → key_at c.level i ≡ c.key
key_of_shared limit js i c same =
    ap (λ (level : ℕ). key_at level i) (sym (ap (λ (o : Octant). o.level) same)) ∙ ap (λ (o : Octant). o.key) same

-- no group has particles on both sides of a place
abbrev pub IsUncut : ℕ → List Particle → ℕ → Type 0
IsUncut limit js place = (i k : ℕ) (d : Particle) → i < place → place ≤ k → k < length js → group_cell limit js (get_or js i d).at ≡ group_cell limit js (get_or js k d).at → ⊥

-- the span of the group of the particle at such a place begins there
pub span_begins : PositionsShareTheirGroup → (limit : ℕ) (js : List Particle) (place : ℕ) (j : Particle) → IsInKeyOrder js → place < length js → get_or js place j ≡ j → IsUncut limit js place →
    (span_of (group_cell limit js j.at) js).first ≡ place
span_begins share limit js place j ordered within here uncut =
    let c = group_cell limit js j.at in
    let own : key_at c.level (get_or js place j) ≡ c.key = ap (key_at c.level) here in
    let at_place : (d : Particle) → get_or js place d ≡ get_or js place j = λ d. get_or_default js place d j within in
    let point : IsPartitionPoint (λ i. is_below c i ≡ true) (λ i. is_below c i ≡ false) js place = (
      λ k d least less.
          let rise = cells_ascend c.level js ordered k place d (omega arith) within in
          let at = ap (key_at c.level) (at_place d) in
          elim (cases_lt (key_at c.level (get_or js k d)) c.key) [
            | inl under ↦ lt-ltb _ _ under
            | inr over ↦
                let same : key_at c.level (get_or js k d) ≡ c.key = omega arith in
                absurd (uncut k place d less (omega arith) within (member_shares share limit js (get_or js k d) j same ∙ sym (ap (λ (i : Particle). group_cell limit js i.at) (at_place d ∙ here))))
          ],
      λ k d least less.
          let rise = cells_ascend c.level js ordered place k d least less in
          let at = ap (key_at c.level) (at_place d) in
          le-ltb _ _ (omega arith),
    ) in
    sym (point_is_count (is_below c) js place (omega arith) point)

-- the particles of the span of a cell are those at its places
pub key_in_span : (c : Octant) (js : List Particle) (i : ℕ) (d : Particle) → IsInKeyOrder js → (span_of c js).first ≤ i → i < (span_of c js).first + (span_of c js).len → i < length js → key_at c.level (get_or js i d) ≡ c.key
key_in_span c js i d ordered from to within =
    let end = span_end c js in
    let low = ltb-false (key_at c.level (get_or js i d)) c.key (fails_from (is_below c) js (below_first c js ordered) i d from within) in
    let high = ltb-false c.key (key_at c.level (get_or js i d)) (not-true _ (passes_below (is_not_above c) js (not_above_first c js ordered) i d (omega arith))) in
    omega arith

pub key_past_span : (c : Octant) (js : List Particle) (i : ℕ) (d : Particle) → IsInKeyOrder js → (span_of c js).first + (span_of c js).len ≤ i → i < length js → c.key < key_at c.level (get_or js i d)
key_past_span c js i d ordered past within =
    let end = span_end c js in
    ltb-true c.key (key_at c.level (get_or js i d)) (not-false _ (fails_from (is_not_above c) js (not_above_first c js ordered) i d (omega arith) within))

-- so the group is not cut at its end
pub uncut_after : PositionsShareTheirGroup → (limit : ℕ) (js : List Particle) (place : ℕ) (j : Particle) → IsInKeyOrder js → IsUncut limit js place → (span_of (group_cell limit js j.at) js).first ≡ place →
    IsUncut limit js (place + (span_of (group_cell limit js j.at) js).len)
uncut_after share limit js place j ordered uncut begins i k d less least within same =
    let c = group_cell limit js j.at in
    elim (cases_lt i place) [
      | inl early ↦ uncut i k d early (omega arith) within same
      | inr late ↦
          let shared = member_shares share limit js (get_or js i d) j (key_in_span c js i d ordered (omega arith) (omega arith) (omega arith)) in
          let past = key_past_span c js k d ordered (omega arith) within in
          let own = key_of_shared limit js (get_or js k d) c (sym same ∙ shared) in
          absurd (omega arith)
    ]

-- a group as it is made, of some particle's cell
pub record IsMade (limit : ℕ) (js : List Particle) (g : Group) : Type 0 where
  pub group : IsGroup limit js g
  pub is : g ≡ group_in js g.cell

group_from_cell : PositionsShareTheirGroup → (limit : ℕ) (js : List Particle) (j : Particle) → IsInKeyOrder js → Contains js j → IsGroup limit js (group_in js (group_cell limit js j.at))
group_from_cell share limit js j ordered there =
    let c = group_cell limit js j.at in
    let s = span_of c js in
    let members = span_members c js ordered in
    let shared : (i : Particle) → Contains (at_span s js) i → group_cell limit js i.at ≡ c = λ i h.
    member_shares share limit js i j (key_of_member c i (All-contains (λ (x : Particle). is_member c x ≡ true) (particles_in c js) i (filter_passes (is_member c) js) (subst (λ (l : List Particle). Contains l i) members h))) in
    record {
      some = some_members c js j there refl;
      inside = (let end = span_end c js in let most = count_by-le-length (is_not_above c) js in omega arith);
      members = λ i h. members ∙ ap (λ (o : Octant). particles_in o js) (sym (shared i h));
      cell = λ i h. sym (shared i h);
      around = ap box_of (sym members);
    }

pub IsMade-from_cell : PositionsShareTheirGroup → (limit : ℕ) (js : List Particle) (j : Particle) (g : Group) → IsInKeyOrder js → Contains js j → g ≡ group_in js (group_cell limit js j.at) → IsMade limit js g
IsMade-from_cell share limit js j g ordered there is =
    subst (IsMade limit js) (sym is) (record { group = group_from_cell share limit js j ordered there; is = refl })

-- a particle at a place of a span
pub in_span : (s : Span) (js : List Particle) (i : ℕ) (d : Particle) → s.first ≤ i → i < s.first + s.len → i < length js → Contains (at_span s js) (get_or js i d)
in_span s js i d from to within =
    let k = i - s.first in
    let x = get_or js i d in
    let long = length-take s.len (drop s.first js) in
    let left = length-drop s.first js in
    let place : s.first + k ≡ i = omega arith in (
      k,
      omega arith,
      get_or-take s.len (drop s.first js) k x (omega arith) ∙ get_or-drop s.first js k x ∙ ap (λ (n : ℕ). get_or js n x) place ∙ get_or_default js i x d within,
    )

-- one span more at the end
pub follow_push : (start end : ℕ) (spans : List Span) (s : Span) → FollowOneAnother start end spans → s.first ≡ end → FollowOneAnother start (end + s.len) (spans ++ s ∷ [])
follow_push start end [] s h at_end = (at_end ∙ sym h, ap (λ (n : ℕ). n + s.len) h)
follow_push start end (t ∷ spans) s h at_end = (h.0, follow_push (start + t.len) end spans s h.1 at_end)

-- groups of all particles below a place, none of which is cut there
pub record IsGroupedBelow (limit : ℕ) (js : List Particle) (place : ℕ) (gs : List Group) : Type 0 where
  pub within : place ≤ length js
  pub few : length gs ≤ place
  pub in_turn : FollowOneAnother 0 place (map (λ g. g.span) gs)
  pub made : All (IsMade limit js) gs
  pub uncut : IsUncut limit js place

pub none_grouped : (limit : ℕ) (js : List Particle) → IsGroupedBelow limit js 0 []
none_grouped limit js = record { within = omega arith; few = omega arith; in_turn = refl; made = All-nil (IsMade limit js); uncut = λ i k d less least within same. absurd (omega arith) }

-- the group of the particle at the place is the next
pub group_more : PositionsShareTheirGroup → (limit : ℕ) (js : List Particle) (place : ℕ) (gs more : List Group) (j : Particle) (g : Group) → IsInKeyOrder js → place < length js → get_or js place j ≡ j → IsGroupedBelow limit js place gs →
    g ≡ group_in js (group_cell limit js j.at) → more ≡ gs ++ g ∷ [] → IsGroupedBelow limit js (place + g.span.len) more
group_more share limit js place gs more j g ordered inside here before is pushed =
    let c = group_cell limit js j.at in
    let span = ap (λ (h : Group). h.span) is in
    let begins = span_begins share limit js place j ordered inside here before.uncut in
    let first : g.span.first ≡ place = ap (λ (s : Span). s.first) span ∙ begins in
    let made = IsMade-from_cell share limit js j g ordered (place, inside, here) is in
    let fits = made.group.inside in
    let some = made.group.some in
    let few = before.few in
    subst (IsGroupedBelow limit js (place + g.span.len)) (sym pushed) (record {
      within = omega arith;
      few = (let long = length_push gs g in omega arith);
      in_turn = subst (FollowOneAnother 0 (place + g.span.len)) (sym (map-append (λ (h : Group). h.span) gs (g ∷ []))) (follow_push 0 place (map (λ h. h.span) gs) g.span before.in_turn first);
      made = All-push (IsMade limit js) gs g before.made made;
      uncut = subst (λ (n : ℕ). IsUncut limit js (place + n)) (sym (ap (λ (s : Span). s.len) span)) (uncut_after share limit js place j ordered before.uncut begins);
    })

pub some_in_group : PositionsShareTheirGroup → (limit : ℕ) (js : List Particle) (place : ℕ) (j : Particle) (g : Group) → IsInKeyOrder js → place < length js → get_or js place j ≡ j → g ≡ group_in js (group_cell limit js j.at) → 1 ≤ g.span.len
some_in_group share limit js place j g ordered inside here is = (IsMade-from_cell share limit js j g ordered (place, inside, here) is).group.some
