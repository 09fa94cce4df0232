-- The cells of groups that follow one another are all the groups' cells, in order.
use Rattle.std.proofs.Common.{◌≡◌, ℕ, ◌+◌, ◌-◌, ◌*◌, ◌^◌, ◌<◌, ◌≤◌, true, false, List, [], ◌∷◌, ◌++◌, length, get_or, take, drop, map, refl, sym, ◌∙◌, ap, subst, arith}
use Rattle.std.specs.List.{All}
use Rattle.std.proofs.Math.Nat.{div-mul-le_self, div-lt_iff_lt-mul}
use Rattle.std.proofs.lemmas.Bool.{cond-true, cond-false, ltb-true, lt-ltb, le-ltb}
use Rattle.std.proofs.lemmas.List.{length-map, length-take, length-drop, take-append-drop, drop-drop, drop_all, map-append, get_or-take, get_or-drop}
use Rattle.std.proofs.lemmas.List.Elements.{All-head, All-tail, All-map}
use Rattle.pf_geom.specs.Key.{morton_key}
use Rattle.pf_geom.specs.Octant.{Octant}
use Rattle.pf_model.specs.Particle.{Particle}
use Rattle.order_laws.specs.Order.{placed, in_order_once}
use Rattle.pf_model.specs.Group.{group_cell, has_lower_corner, group_cells}
use Rattle.morton_tree.specs.Tree.{IsInKeyOrder}
use Rattle.morton_tree.specs.declared.group.Group.{Group}
use Rattle.morton_tree.specs.Spans.{FollowOneAnother}
use Rattle.morton_tree.specs.Groups.{group_in, groups_of}
use Rattle.morton_tree.proofs.SplitLemmas.{passes_below}
use Rattle.morton_tree.proofs.SpanLemmas.{key_at, is_below, below_first, eight_pos}
use Rattle.morton_tree.proofs.GroupLemmas.{IsMade, in_span, key_of_shared}

-- the cell comes before the first of the others, if there is one
abbrev IsBeforeFirst : Octant → List Octant → Type 0
IsBeforeFirst c [] = Unit {0}
IsBeforeFirst c (d ∷ ds) = has_lower_corner c d ≡ true

not_before_itself : (c : Octant) → has_lower_corner c c ≡ false
not_before_itself c = let n = c.key * 8 ^ (30 - c.level) in le-ltb n n (omega arith)

placed_first : (c : Octant) (cs : List Octant) → IsBeforeFirst c cs → placed has_lower_corner c cs ≡ c ∷ cs
placed_first c [] h = refl
placed_first c (d ∷ ds) h = cond-true (has_lower_corner c d) _ _ h

placed_again : (c : Octant) (cs : List Octant) → placed has_lower_corner c (c ∷ cs) ≡ c ∷ cs
placed_again c cs = cond-false (has_lower_corner c c) _ _ (not_before_itself c) ∙ cond-false (has_lower_corner c c) _ _ (not_before_itself c)

-- a run of one cell before others counts once
run_in_order : (c : Octant) (xs ys cs : List Octant) → 1 ≤ length xs → All (λ x. x ≡ c) xs → in_order_once has_lower_corner ys ≡ cs → IsBeforeFirst c cs → in_order_once has_lower_corner (xs ++ ys) ≡ c ∷ cs
run_in_order c [] ys cs some same rest before = absurd (omega arith)
run_in_order c (x ∷ []) ys cs some same rest before =
    ap (λ (y : Octant). placed has_lower_corner y (in_order_once has_lower_corner ys)) (All-head (λ (y : Octant). y ≡ c) x [] same)
    ∙ ap (placed has_lower_corner c) rest ∙ placed_first c cs before
run_in_order c (x ∷ y ∷ xs) ys cs some same rest before =
    ap (λ (z : Octant). placed has_lower_corner z (in_order_once has_lower_corner ((y ∷ xs) ++ ys))) (All-head (λ (z : Octant). z ≡ c) x (y ∷ xs) same)
    ∙ ap (placed has_lower_corner c) (run_in_order c (y ∷ xs) ys cs (omega arith) (All-tail (λ (z : Octant). z ≡ c) x (y ∷ xs) same) rest before) ∙ placed_again c cs

-- the cell of a group comes before that of the next
lower_corner : (limit : ℕ) (js : List Particle) (g h : Group) → IsInKeyOrder js → IsMade limit js g → IsMade limit js h → h.span.first ≡ g.span.first + g.span.len → (d : Particle) → has_lower_corner g.cell h.cell ≡ true
lower_corner limit js g h ordered made next follows d =
    let i = g.span.first in
    let j = get_or js i d in
    let some = made.group.some in
    let inside = made.group.inside in
    let own = key_of_shared limit js j g.cell (sym (made.group.cell j (in_span g.span js i d (omega arith) (omega arith) (omega arith)))) in
    let first = ap (λ (x : Group). x.span.first) next.is in
    let less = ltb-true (key_at h.cell.level j) h.cell.key (passes_below (is_below h.cell) js (below_first h.cell js ordered) i d (omega arith)) in
    let below : morton_key j.at < h.cell.key * 8 ^ (30 - h.cell.level) = (div-lt_iff_lt-mul (eight_pos (30 - h.cell.level))).0 less in
    let above = div-mul-le_self (morton_key j.at) (8 ^ (30 - g.cell.level)) in
    let corner : g.cell.key * 8 ^ (30 - g.cell.level) ≤ morton_key j.at = subst (λ (n : ℕ). n * 8 ^ (30 - g.cell.level) ≤ morton_key j.at) own above in
    lt-ltb _ _ (omega arith)

abbrev cells_from : ℕ → List Particle → ℕ → List Octant
cells_from limit js start = map (λ i. group_cell limit js i.at) (drop start js)

before_next : (limit : ℕ) (js : List Particle) (start : ℕ) (g : Group) (gs : List Group) → IsInKeyOrder js → IsMade limit js g → All (IsMade limit js) gs → g.span.first ≡ start → FollowOneAnother (start + g.span.len) (length js) (map (λ h. h.span) gs) → (d : Particle) →
    IsBeforeFirst g.cell (map (λ h. h.cell) gs)
before_next limit js start g [] ordered made all begins follow d = tt
before_next limit js start g (h ∷ gs) ordered made all begins follow d =
    lower_corner limit js g h ordered made (All-head (IsMade limit js) h gs all) (let next = follow.0 in omega arith) d

cells_are : (limit : ℕ) (js : List Particle) (start : ℕ) (gs : List Group) → IsInKeyOrder js → All (IsMade limit js) gs → FollowOneAnother start (length js) (map (λ g. g.span) gs) → Particle →
    in_order_once has_lower_corner (cells_from limit js start) ≡ map (λ g. g.cell) gs
cells_are limit js start [] ordered all follow d =
    ap (λ (l : List Particle). in_order_once has_lower_corner (map (λ i. group_cell limit js i.at) l)) (drop_all start js (let end = follow in omega arith))
cells_are limit js start (g ∷ gs) ordered all follow d =
    let made = All-head (IsMade limit js) g gs all in
    let some = made.group.some in
    let inside = made.group.inside in
    let begins = follow.0 in
    let cell_of : Particle → Octant = λ i. group_cell limit js i.at in
    let n = g.span.len in
    let front = take n (drop start js) in
    let rest = cells_are limit js (start + n) gs ordered (All-tail (IsMade limit js) g gs all) follow.1 d in
    let split : drop start js ≡ front ++ drop (start + n) js = sym (take-append-drop n (drop start js)) ∙ ap (λ (l : List Particle). front ++ l) (drop-drop n start js) in
    let long = length-take n (drop start js) in
    let left = length-drop start js in
    let same : All (λ (c : Octant). c ≡ g.cell) (map cell_of front) = All-map (λ (c : Octant). c ≡ g.cell) cell_of front
    (λ k e within.
    let place : start + k < start + n = omega arith in
    let at : get_or front k e ≡ get_or js (start + k) e = get_or-take n (drop start js) k e (omega arith) ∙ get_or-drop start js k e in
    ap cell_of at ∙ sym (made.group.cell (get_or js (start + k) e) (in_span g.span js (start + k) e (omega arith) (omega arith) (omega arith)))) in
    ap (λ (l : List Particle). in_order_once has_lower_corner (map cell_of l)) split
    ∙ ap (in_order_once has_lower_corner) (map-append cell_of front (drop (start + n) js))
    ∙ run_in_order g.cell (map cell_of front) (cells_from limit js (start + n)) (map (λ h. h.cell) gs)
    (rw length-map (omega arith)) same rest (before_next limit js start g gs ordered made (All-tail (IsMade limit js) g gs all) begins follow.1 d)

made_again : (limit : ℕ) (js : List Particle) (gs : List Group) → All (IsMade limit js) gs → gs ≡ map (group_in js) (map (λ g. g.cell) gs)
made_again limit js [] all = refl
made_again limit js (g ∷ gs) all =
    let head = (All-head (IsMade limit js) g gs all).is in
    let tail = made_again limit js gs (All-tail (IsMade limit js) g gs all) in
    λ i. head i ∷ tail i

all_cells : (limit : ℕ) (js : List Particle) (gs : List Group) → IsInKeyOrder js → All (IsMade limit js) gs → FollowOneAnother 0 (length js) (map (λ g. g.span) gs) → group_cells limit js ≡ map (λ g. g.cell) gs
unfolding group_cells
all_cells limit [] [] ordered all follow = refl
all_cells limit [] (g ∷ gs) ordered all follow =
    let made = All-head (IsMade limit []) g gs all in
    let some = made.group.some in
    let inside = made.group.inside in
    absurd (omega arith)
all_cells limit (j ∷ js) gs ordered all follow = cells_are limit (j ∷ js) 0 gs ordered all follow j

-- made groups that follow one another through the list are its groups
pub groups_are : (limit : ℕ) (js : List Particle) (gs : List Group) → IsInKeyOrder js → All (IsMade limit js) gs → FollowOneAnother 0 (length js) (map (λ g. g.span) gs) → gs ≡ groups_of limit js
groups_are limit js gs ordered all follow = made_again limit js gs all ∙ ap (map (group_in js)) (sym (all_cells limit js gs ordered all follow))
