-- Places in lists: the cells that come first, and the elements of a span.
use Rattle.std.proofs.Common.{◌≡◌, ℕ, zero, suc, ◌<◌, List, [], ◌∷◌, length, get_or, take, drop, Option, Some, None, refl, sym, ◌∙◌, ap, subst, arith, add-zero}
use Rattle.std.specs.List.{slice_get, Contains}
use Rattle.std.specs.Prelude.{IsTrue}
use Rattle.std.proofs.lemmas.Bool.{false≢true}
use Rattle.std.proofs.lemmas.Option.{none-some, same_Some}
use Rattle.std.proofs.lemmas.List.{get_or-take, get_or-drop, get_or_default, length-take, length-drop}
use Rattle.pf_geom.specs.Octant.{Octant}
use Rattle.pf_model.specs.declared.entry.Entry.{Entry}
use Rattle.pf_model.specs.declared.entry.Entry.TheVariants.{Cell, One}
use Rattle.pf_model.specs.Particle.{Particle}
use Rattle.pf_model.specs.Interaction.{comes_before, IsInListOrder}
use Rattle.essential_tree.specs.Sending.{cells_among}

-- the entry beside one of the cells, if there is one: a cell that is this one, or a particle
abbrev pub IsItemAt : Option Octant → Entry → Type 0
IsItemAt (Some c) (Cell d m) = d ≡ c
IsItemAt (Some c) (One p) = ⊥
IsItemAt None (Cell d m) = ⊥
IsItemAt None (One p) = Unit {0}

no_cells : (p : Particle) (es : List Entry) → ((k : ℕ) (d : Entry) → k < length es → IsTrue (comes_before (One p) (get_or es k d))) → cells_among es ≡ []
no_cells p [] h = refl
no_cells p (Cell c m ∷ es) h = absurd (false≢true (h 0 (One p) (omega arith)))
no_cells p (One q ∷ es) h = no_cells p es (λ k d w. h (suc k) d (omega arith))

nil-cons : {X : Type 0} (x : X) (xs : List X) → x ∷ xs ≡ [] → ⊥
nil-cons x xs e = cc

one_at : (es : List Entry) (k : ℕ) (e : Entry) → cells_among es ≡ [] → slice_get es k ≡ Some e → IsItemAt None e
one_at [] k e none s = absurd (none-some e s)
one_at (Cell c m ∷ es) k e none s = absurd (nil-cons c (cells_among es) none)
one_at (One p ∷ es) zero e none s = subst (IsItemAt None) (same_Some (One p) e s) tt
one_at (One p ∷ es) (suc k) e none s = one_at es k e none s

-- in the order of lists the first entries are the cells
pub item_at : (es : List Entry) (k : ℕ) (e : Entry) → IsInListOrder es → slice_get es k ≡ Some e → IsItemAt (slice_get (cells_among es) k) e
item_at [] k e o s = absurd (none-some e s)
item_at (Cell c m ∷ es) zero e o s = subst (IsItemAt (Some c)) (same_Some (Cell c m) e s) refl
item_at (Cell c m ∷ es) (suc k) e o s = item_at es k e (λ i j d a b. o (suc i) (suc j) d (omega arith) (omega arith)) s
item_at (One p ∷ es) k e o s =
    let none : cells_among es ≡ [] = no_cells p es (λ j d w. o 0 (suc j) d (omega arith) (omega arith)) in
    subst (λ (cs : List Octant). IsItemAt (slice_get cs k) e) (sym none) (one_at (One p ∷ es) k e none s)

-- the first element of a span that isn't empty
pub first_of_span : {X : Type 0} (first len : ℕ) (xs : List X) (x d : X) → Contains (take len (drop first xs)) x → (first < length xs) × Contains (take len (drop first xs)) (get_or xs first d)
first_of_span first len xs x d h =
    let inside : h.0 < length (take len (drop first xs)) = h.1 in
    let some : 0 < len = omega (arith, length-take len (drop first xs)) in
    let within : first < length xs = omega (arith, length-take len (drop first xs), length-drop first xs) in
    let q = get_or xs first d in (
      within,
      (
        0,
        omega (arith, length-take len (drop first xs), length-drop first xs),
        get_or-take len (drop first xs) 0 q some ∙ get_or-drop first xs 0 q ∙ ap (λ (i : ℕ). get_or xs i q) (add-zero first) ∙ get_or_default xs first q d within,
      ),
    )
