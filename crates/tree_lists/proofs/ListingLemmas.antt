-- Entries of pieces that are in order are a list.
use Rattle.std.proofs.Common.{◌≡◌, ℕ, suc, ◌+◌, ◌-◌, ◌/◌, ◌^◌, ◌<◌, ◌≤◌, Bool, true, false, List, [], ◌∷◌, ◌++◌, length, get_or, map, nat_eq, Option, Some, None, inl, inr, refl, sym, ◌∙◌, ap, subst, arith}
use Rattle.std.specs.List.{All, Contains}
use Rattle.std.specs.List.Sorted.{IsPermutation, IsSortedBy}
use Rattle.std.specs.Cmp.{nat_cmp_is}
use Rattle.std.specs.Ordering.{nat_cmp, ordering_then, is_lt}
use Rattle.std.specs.declared.cmp.Ordering.{Ordering}
use Rattle.std.specs.declared.cmp.Ordering.TheVariants.{Less, Equal}
use Rattle.std.proofs.lemmas.Bool.{cases_lt, cases_order, both_ways}
use Rattle.std.proofs.lemmas.Bool.Decides.{Decides-eqb, nat_tests}
use Rattle.std.proofs.lemmas.Cmp.{nat_cmp_total, on_total, then_total}
use Rattle.std.proofs.lemmas.List.{length-map, get_or-map, get_or_default, length_push, get_or_push}
use Rattle.std.proofs.Math.ListN.{get_or-append}
use Rattle.std.proofs.Math.Nat.{div-mul-le_self, pow-le-pow_right}
use Rattle.std.proofs.lemmas.Nat.{le-div}
use Rattle.std.proofs.lemmas.List.MinMax.{ranks_by}
use Rattle.std.proofs.lemmas.List.Sorted.{sorted_far, length_permutation, All-permutation, Contains-permutation, IsPermutation-map}
use Rattle.std.proofs.lemmas.Map.Keys.{IsDistinct-IsPermutation}
use Rattle.std.proofs.lemmas.Map.Made.{AllPairs-from_IsDistinct, IsDistinct-from_AllPairs}
use Rattle.pf_geom.specs.Bounds.{Bounds}
use Rattle.pf_model.specs.declared.entry.Entry.{Entry}
use Rattle.pf_model.specs.declared.entry.Entry.TheVariants.{Cell, One}
use Rattle.pf_model.specs.Particle.{Particle}
use Rattle.pf_model.specs.Particles.{HaveDistinctIds}
use Rattle.pf_model.specs.Criterion.{Criterion}
use Rattle.pf_model.specs.Interaction.{entry_place, level_of, members_of, entry_at, entry_of, comes_before, list_of}
use Rattle.model_laws.specs.ListLaws.{ListsHoldTheirEntries, HasLevel, EntriesHaveLevels, EntriesStandByPlace, EntriesAtOnePlaceAreOne}
use Rattle.morton_tree.specs.declared.span.Span.{Span}
use Rattle.morton_tree.specs.Spans.{at_span}
use Rattle.morton_tree.specs.Tree.{IsInKeyOrder}
use Rattle.cell_runs.specs.declared.cell_run.CellRun.{CellRun}
use Rattle.tree_lists.specs.declared.piece.Piece.{Piece}
use Rattle.tree_lists.specs.Members.{AreSpansOf}
use Rattle.tree_lists.specs.Pieces.{piece_place, piece_of, IsNoHigher, ArePiecesOf, IsPieceOf, ArePieces, IsInPlaceOrder, AreEntriesOf}
use Rattle.tree_lists.proofs.SpanLemmas.{read_span, place_of_id}
use Rattle.tree_lists.proofs.EntryLemmas.{first_leads}
use Rattle.tree_lists.proofs.KeyLemmas.{key_of, keys_rise}

abbrev pub nobody : Particle
nobody = record { id = 0; at = record { x = 0; y = 0; z = 0 }; vel = []; mass = 0; attr = [] }

abbrev pub no_piece : Piece
no_piece = record { place = (0, 0); span = record { first = 0; len = 0 } }

-- what holds of each element and its place, and of one more
abbrev pub EachAt : {X : Type 0} → (ℕ → X → Type 0) → List X → Type 0
EachAt {X} R xs = (k : ℕ) (d : X) → k < length xs → R k (get_or xs k d)

pub none_at : {X : Type 0} (R : ℕ → X → Type 0) (xs : List X) → length xs ≡ 0 → EachAt R xs
none_at R xs none k d within = absurd (omega arith)

pub each_pushed : {X : Type 0} (R : ℕ → X → Type 0) (xs more : List X) (x : X) (n : ℕ) → more ≡ xs ++ x ∷ [] → length xs ≡ n → EachAt R xs → R n x → EachAt R more
each_pushed {X} R xs more x n pushed long each here =
    let P : List X → Type 0 = EachAt R in
    subst P (sym pushed) (λ k d within. let more_long = length_push xs x in elim (cases_lt k (length xs)) [
      | inl less ↦ subst (R k) (sym (get_or-append xs (x ∷ []) d k less)) (each k d less)
      | inr past ↦
          let at : n ≡ k = omega arith in
          subst (R k) (sym (get_or_push xs x d k (long ∙ at))) (let Q : ℕ → Type 0 = λ m. R m x in subst Q at here)
    ])

-- the order that the pieces are sorted by
abbrev pub is_less : Piece → Piece → Bool
is_less q r = is_lt (ordering_then (nat_cmp q.place.0 r.place.0) (nat_cmp q.place.1 r.place.1))

less_first : (q r : Piece) → q.place.0 < r.place.0 → is_less q r ≡ true
less_first q r less = ap (λ (o : Ordering). is_lt (ordering_then o (nat_cmp q.place.1 r.place.1))) (sym (nat_cmp_is q.place.0 r.place.0 Less less))

less_second : (q r : Piece) → q.place.0 ≡ r.place.0 → q.place.1 < r.place.1 → is_less q r ≡ true
less_second q r same less =
    ap (λ (o : Ordering). is_lt (ordering_then o (nat_cmp q.place.1 r.place.1))) (sym (nat_cmp_is q.place.0 r.place.0 Equal same))
    ∙ ap is_lt (sym (nat_cmp_is q.place.1 r.place.1 Less less))

pub place_order_from_sort : (qs : List Piece) → IsSortedBy is_less qs → IsInPlaceOrder qs
place_order_from_sort qs sorted i j d less within =
    let order = then_total (on_total (λ (q : Piece). q.place.0) nat_cmp_total) (on_total (λ (q : Piece). q.place.1) nat_cmp_total) in
    let a = get_or qs i d in
    let b = get_or qs j d in
    let far : is_less b a ≡ false = sorted_far is_less (ranks_by order (λ (q : Piece). q)) qs sorted i j d (omega arith) within in
    elim (cases_order a.place.0 b.place.0) [
      | inl same ↦ elim (cases_lt b.place.1 a.place.1) [
        | inl more ↦ absurd (both_ways (is_less b a) far (less_second b a (sym same) more))
        | inr most ↦ inr (same, most)
      ]
      | inr h ↦ elim h [
        | inl less_level ↦ inl less_level
        | inr more ↦ absurd (both_ways (is_less b a) far (less_first b a more))
      ]
    ]

nat_eq_flips : (x y : ℕ) → nat_eq x y ≡ nat_eq y x
nat_eq_flips x y = grind (arith, nat_tests)

-- in another order they are pieces still
pub pieces_in_order : (t : Criterion) (box : Bounds) (js : List Particle) (qs ps : List Piece) → IsPermutation qs ps → ArePieces t box js qs → ArePieces t box js ps
pieces_in_order t box js qs ps same h =
    let first : Piece → ℕ = λ q. q.span.first in
    let long = length_permutation qs ps same in
    let apart = IsDistinct-from_AllPairs Decides-eqb (map first qs) (λ i j d less within e.
    let count = length-map qs first in
    let in_j : j < length qs = omega arith in
    h.apart i j no_piece less in_j (sym (get_or-map first qs i no_piece d (omega arith)) ∙ e ∙ get_or-map first qs j no_piece d in_j)) in
    let still = IsDistinct-IsPermutation nat_eq nat_eq_flips (map first qs) (map first ps) (IsPermutation-map first qs ps same) apart in
    record {
      each = All-permutation (λ (q : Piece). (e : Entry) × IsPieceOf t box js e q) qs ps same h.each;
      complete = λ j there.
          let found = h.complete j there in
          (found.0, Contains-permutation qs ps found.0 same found.1, found.2);
      apart = λ i j d less within e.
          let count = length-map ps first in
          AllPairs-from_IsDistinct Decides-eqb (map first ps) still i j 0 less (omega arith)
          (get_or-map first ps i d 0 (omega arith) ∙ e ∙ sym (get_or-map first ps j d 0 within));
    }

-- the laws of the places of entries
pub record PlaceLaws : Type 0 where
  pub one : EntriesAtOnePlaceAreOne
  pub levels : EntriesHaveLevels
  pub order : EntriesStandByPlace

-- of two entries at different places the one whose place is no higher comes first
before_by_place : PlaceLaws → (e f : Entry) → HasLevel e → HasLevel f → IsNoHigher (entry_place e) (entry_place f) → (entry_place e ≡ entry_place f → ⊥) → comes_before e f ≡ true
before_by_place laws e f low high rise differ =
    (laws.order e f low high).1 (elim rise [
      | inl less ↦ inl less
      | inr both ↦ elim (cases_lt (entry_place e).1 (entry_place f).1) [
        | inl less ↦ inr (both.0, less)
        | inr more ↦ (let most = both.1 in let same : (entry_place e).1 ≡ (entry_place f).1 = omega arith in absurd (differ (λ i. (both.0 i, same i))))
      ]
    ])

-- the first particle of a piece
abbrev first_of : List Particle → Piece → Particle
first_of js q = get_or js q.span.first nobody

first_contained : (t : Criterion) (box : Bounds) (js : List Particle) (e : Entry) (q : Piece) → IsPieceOf t box js e q → Contains js (first_of js q)
first_contained t box js e q h =
    let some = h.some in
    let inside = h.inside in
    let within : q.span.first < length js = omega arith in
    (q.span.first, within, get_or_default js q.span.first (first_of js q) nobody within)

-- pieces that begin at different places are of entries at different places
places_differ : EntriesAtOnePlaceAreOne → (t : Criterion) (box : Bounds) (js : List Particle) → HaveDistinctIds js → (e f : Entry) (q r : Piece) → IsPieceOf t box js e q → IsPieceOf t box js f r → (q.span.first ≡ r.span.first → ⊥) → entry_place e ≡ entry_place f → ⊥
places_differ law t box js distinct e f q r h k apart same =
    let x = first_of js q in
    let y = first_of js r in
    let of_x = first_leads t box js e q nobody h in
    let of_y = first_leads t box js f r nobody k in
    let places : entry_place (entry_of t box js x) ≡ entry_place (entry_of t box js y) = ap entry_place of_x ∙ same ∙ ap entry_place (sym of_y) in
    let one : entry_of t box js x ≡ entry_of t box js y = law t box js x y distinct (first_contained t box js e q h) (first_contained t box js f r k) places in
    let entry : f ≡ e = sym of_y ∙ sym one ∙ of_x in
    let members : at_span q.span js ≡ at_span r.span js = h.members ∙ ap (members_of t box js) (sym entry) ∙ sym k.members in
    let some_q = h.some in
    let some_r = k.some in
    let inside_q = h.inside in
    let inside_r = k.inside in
    let heads : get_or js (q.span.first + 0) nobody ≡ get_or js (r.span.first + 0) nobody =
    sym (read_span q.span js 0 nobody (omega arith)) ∙ ap (λ (l : List Particle). get_or l 0 nobody) members ∙ read_span r.span js 0 nobody (omega arith) in
    let at = place_of_id js distinct (q.span.first + 0) (r.span.first + 0) nobody nobody (omega arith) (omega arith) (ap (λ (j : Particle). j.id) heads) in
    apart (omega arith)

-- the particle has the key of the entry's cell, if it is one
abbrev IsIn : Particle → Entry → Type 0
IsIn x (Cell c m) = c.key ≡ key_of x / 8 ^ (30 - c.level)
IsIn x (One p) = Unit {0}

in_own : (t : Criterion) (box : Bounds) (js : List Particle) (x : Particle) (o : Option ℕ) → IsIn x (entry_at t box js x o)
in_own t box js x None = tt
in_own t box js x (Some level) = refl

first_in : (t : Criterion) (box : Bounds) (js : List Particle) (e : Entry) (q : Piece) → IsPieceOf t box js e q → IsIn (first_of js q) e
first_in t box js e q h =
    let x = first_of js q in
    subst (IsIn x) (first_leads t box js e q nobody h) (in_own t box js x (level_of t box x.at))

-- keys that don't fall are of cells that don't
cells_rise : (low high n : ℕ) → low ≤ high → low / 8 ^ n ≤ high / 8 ^ n
cells_rise low high n rise =
    let width = 8 ^ n in
    let eight : 1 ≤ 8 = omega arith in
    let none : 0 ≤ n = omega arith in
    let some : 8 ^ 0 ≤ 8 ^ n = pow-le-pow_right eight none in
    let wide : 0 < 8 ^ n = omega arith in
    le-div (low / width) high width wide (omega (arith, div-mul-le_self low width))

-- what stands in key order stands by the places of entries
rise_by_case : (x y : Particle) (e f : Entry) (a b : ℕ) → HasLevel e → HasLevel f → IsIn x e → IsIn y f → (a ≤ b → key_of x ≤ key_of y) → IsNoHigher (piece_place e a) (piece_place f b) → IsNoHigher (entry_place e) (entry_place f)
rise_by_case x y (Cell c m) (Cell d n) a b low high in_e in_f keys rise =
    elim rise [
      | inl less ↦ inl less
      | inr both ↦
          let same : c.level ≡ d.level = both.0 in
          let width : 8 ^ (30 - c.level) ≡ 8 ^ (30 - d.level) = ap (λ (l : ℕ). 8 ^ (30 - l)) same in
          let least : key_of x / 8 ^ (30 - c.level) ≤ key_of y / 8 ^ (30 - c.level) = cells_rise (key_of x) (key_of y) (30 - c.level) (keys both.1) in
          let over : key_of y / 8 ^ (30 - c.level) ≡ key_of y / 8 ^ (30 - d.level) = ap (λ (w : ℕ). key_of y / w) width in
          inr (same, omega (arith, least, over, in_e, in_f))
    ]
rise_by_case x y (Cell c m) (One q) a b low high in_e in_f keys rise = inl (omega arith)
rise_by_case x y (One p) (Cell d n) a b low high in_e in_f keys rise =
    absurd (elim rise [
      | inl less ↦ omega arith
      | inr both ↦ (let same = both.0 in omega arith)
    ])
rise_by_case x y (One p) (One q) a b low high in_e in_f keys rise = rise

places_rise : (t : Criterion) (box : Bounds) (js : List Particle) (e f : Entry) (q r : Piece) → IsInKeyOrder js → HasLevel e → HasLevel f → IsPieceOf t box js e q → IsPieceOf t box js f r → IsNoHigher q.place r.place → IsNoHigher (entry_place e) (entry_place f)
places_rise t box js e f q r up low high h k rise =
    let some = k.some in
    let inside = k.inside in
    let second : IsNoHigher q.place (piece_place f r.span.first) = subst (IsNoHigher q.place) k.place rise in
    rise_by_case (first_of js q) (first_of js r) e f q.span.first r.span.first low high (first_in t box js e q h) (first_in t box js f r k)
    (λ least. keys_rise js up q.span.first r.span.first nobody least (omega arith))
    (let P : ℕ × ℕ → Type 0 = λ v. IsNoHigher v (piece_place f r.span.first) in subst P h.place second)

-- the entries of pieces in order are the list
pub list_from_pieces : PlaceLaws → ListsHoldTheirEntries → (t : Criterion) (box : Bounds) (js : List Particle) (qs : List Piece) (es : List Entry) → HaveDistinctIds js → IsInKeyOrder js → ArePieces t box js qs → IsInPlaceOrder qs → AreEntriesOf t box js es qs → es ≡ list_of t box js
list_from_pieces laws lists t box js qs es distinct up pieces order entries =
    let counted = entries.counted in
    (lists t box js es distinct).0 (record {
      ordered = λ i j d less within.
          let e = get_or es i d in
          let f = get_or es j d in
          let q = get_or qs i no_piece in
          let r = get_or qs j no_piece in
          let in_j : j < length qs = omega arith in
          let h = entries.each i d no_piece (omega arith) in
          let k = entries.each j d no_piece in_j in
          let low : HasLevel e = subst HasLevel (first_leads t box js e q nobody h) (laws.levels t box js (first_of js q)) in
          let high : HasLevel f = subst HasLevel (first_leads t box js f r nobody k) (laws.levels t box js (first_of js r)) in
          let rise = places_rise t box js e f q r up low high h k (order i j no_piece less in_j) in
          before_by_place laws e f low high rise (places_differ laws.one t box js distinct e f q r h k (pieces.apart i j no_piece less in_j));
      complete = λ j there.
          let found = pieces.complete j there in
          let q = found.0 in
          let k = found.1.0 in
          let within : k < length qs = found.1.1 in
          let d = One j in
          let e = get_or es k d in
          let h : IsPieceOf t box js e q = subst (IsPieceOf t box js e) found.1.2 (entries.each k d q within) in
          let n = found.2.0 in
          let near : n < length (at_span q.span js) = found.2.1 in
          let leads : entry_of t box js j ≡ e = ap (entry_of t box js) (sym found.2.2) ∙ h.lead n j near in
          subst (Contains es) (sym leads) (k, omega arith, get_or_default es k e d (omega arith));
      sound = λ e there.
          let k = there.0 in
          let within : k < length es = there.1 in
          let q = get_or qs k no_piece in
          let h : IsPieceOf t box js e q = (let P : Entry → Type 0 = λ f. IsPieceOf t box js f q in subst P there.2 (entries.each k e no_piece (omega arith))) in
          (first_of js q, first_contained t box js e q h, sym (first_leads t box js e q nobody h));
    })

-- the spans of their members
abbrev span_members : List Particle → Span → List Particle
span_members js s = at_span s js

members_match : (t : Criterion) (box : Bounds) (js : List Particle) (es : List Entry) (qs : List Piece) → AreEntriesOf t box js es qs → map (span_members js) (map (λ q. q.span) qs) ≡ map (members_of t box js) es
members_match t box js [] [] h = refl
members_match t box js [] (q ∷ qs) h = absurd (let counted = h.counted in omega arith)
members_match t box js (e ∷ es) [] h = absurd (let counted = h.counted in omega arith)
members_match t box js (e ∷ es) (q ∷ qs) h =
    let counted = h.counted in
    let here = (h.each 0 e q (omega arith)).members in
    let rest = members_match t box js es qs (record { counted = omega arith; each = λ k f r within. h.each (suc k) f r (omega arith) }) in
    λ i. here i ∷ rest i

pub spans_of_entries : (t : Criterion) (box : Bounds) (js : List Particle) (es : List Entry) (qs : List Piece) (spans : List Span) → AreEntriesOf t box js es qs → spans ≡ map (λ q. q.span) qs → AreSpansOf t box js es spans
spans_of_entries t box js es qs spans h are = record {
  inside = subst (All (λ (span : Span). span.first + span.len ≤ length js)) (sym are) (λ k d within.
      let count = length-map qs (λ (q : Piece). q.span) in
      let own : Piece = record { place = (0, 0); span = d } in
      let short : k < length qs = omega arith in
      let q = get_or qs k own in
      let read : get_or (map (λ (q : Piece). q.span) qs) k d ≡ q.span = get_or-map (λ (q : Piece). q.span) qs k own d short in
      subst (λ (span : Span). span.first + span.len ≤ length js) (sym read) (h.each k (One nobody) own short).inside);
  members = ap (map (span_members js)) are ∙ members_match t box js es qs h;
}

-- the pieces of cell runs, one run after another
abbrev pub IsPieceAt : List Particle → List CellRun → ℕ → Piece → Type 0
IsPieceAt js rs k q = (r : CellRun) (j : Particle) → q ≡ piece_of (get_or rs k r) (get_or js (get_or rs k r).first j)

pub pieces_are : (js : List Particle) (rs : List CellRun) (qs : List Piece) → length qs ≡ length rs → EachAt (IsPieceAt js rs) qs → ArePiecesOf js rs qs
pieces_are js rs qs counted each = record { counted = counted; each = λ k r j q within. each k q (omega arith) r j }

-- and the entries of pieces
abbrev pub IsEntryAt : Criterion → Bounds → List Particle → List Piece → ℕ → Entry → Type 0
IsEntryAt t box js qs k e = (q : Piece) → IsPieceOf t box js e (get_or qs k q)

pub entries_are : (t : Criterion) (box : Bounds) (js : List Particle) (es : List Entry) (qs : List Piece) → length es ≡ length qs → EachAt (IsEntryAt t box js qs) es → AreEntriesOf t box js es qs
entries_are t box js es qs counted each = record { counted = counted; each = λ k e q within. each k e (omega arith) q }
