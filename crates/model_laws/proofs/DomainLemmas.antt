-- Multisections: their pieces, and what each rank owns by their cuts.
use Rattle.std.proofs.Common.{◌≡◌, ℕ, zero, suc, ◌+◌, ◌-◌, ◌*◌, ◌/◌, ◌%◌, ◌^◌, ◌<◌, ◌≤◌, List, ◌++◌, length, take, drop, inl, inr, refl, sym, ◌∙◌, ap, subst, arith}
use Rattle.std.specs.List.{All, flat_map, range_with_len}
use Rattle.std.proofs.Math.Nat.{mul_assoc, mul-le-mul_right}
use Rattle.std.proofs.lemmas.Bool.{cases_lt}
use Rattle.std.proofs.lemmas.Nat.{div-mul-add, mod-mul-add, same_from_place}
use Rattle.std.proofs.lemmas.List.{take_at, drop_at, drop-drop, take-take, drop-take, get_or_past, length-append}
use Rattle.std.proofs.lemmas.List.Elements.{All-filter, All-get_or}
use Rattle.pf_geom.specs.Position.{Position, IsPosition}
use Rattle.pf_geom.specs.Bounds.{Bounds, IsBox, IsInBox}
use Rattle.pf_model.specs.Particle.{Particle}
use Rattle.pf_model.specs.Division.{Division}
use Rattle.pf_model.specs.Domains.{Multisection, piece_at, cuts_in_slab, cuts_in_column, AreCuts, IsMultisection, slab_of, slab_start, slab_end, owner_by, box_by, x_cuts, in_slab, y_cuts, in_column, z_cuts, cuts_for, owner, domain_box}
use Rattle.model_laws.specs.DomainLaws.{CutsAreOfSlabsAndColumns, CutsAscend, BoxesByCutsHoldWhatIsOwned, DomainBoxesHoldWhatIsOwned}
use Rattle.model_laws.proofs.RankLemmas.{length-cuts_of, slab_below}
use Rattle.model_laws.proofs.CutLemmas.{AreCuts-cuts_of, IsSlab-slab_of, slab_from_IsSlab}

-- lists of one length joined, and how long they are
length-joined : {X : Type 0} (f : ℕ → List X) (len : ℕ) → ((i : ℕ) → length (f i) ≡ len) → (start n : ℕ) → length (flat_map f (range_with_len start n)) ≡ n * len
length-joined f len each start zero = omega arith
length-joined f len each start (suc n) =
    let here = each start in
    let rest = length-joined f len each (start + 1) n in
    let both = length-append (f start) (flat_map f (range_with_len (start + 1) n)) in
    omega arith

-- each is a piece
pub piece-joined : (f : ℕ → List ℕ) (len : ℕ) → ((i : ℕ) → length (f i) ≡ len) → (start n k : ℕ) → k < n → piece_at len (flat_map f (range_with_len start n)) k ≡ f (start + k)
piece-joined f len each start zero k within = absurd (omega arith)
piece-joined f len each start (suc n) zero within =
    let here : start ≡ start + 0 = omega arith in
    let front : 0 * len ≡ 0 = omega arith in
    ap (λ (m : ℕ). take len (drop m (f start ++ flat_map f (range_with_len (start + 1) n)))) front ∙ take_at (f start) (flat_map f (range_with_len (start + 1) n)) len (each start) ∙ ap f here
piece-joined f len each start (suc n) (suc k) within =
    let rest = flat_map f (range_with_len (start + 1) n) in
    let far : suc k * len ≡ len + k * len = omega arith in
    let past : drop (suc k * len) (f start ++ rest) ≡ drop (k * len) rest =
    ap (λ (m : ℕ). drop m (f start ++ rest)) far ∙ sym (drop-drop (k * len) len (f start ++ rest)) ∙ ap (drop (k * len)) (drop_at (f start) rest len (each start)) in
    let next : start + 1 + k ≡ start + suc k = omega arith in
    ap (take len) past ∙ piece-joined f len each (start + 1) n k (omega arith) ∙ ap f next

-- a piece of a piece
piece-piece : (len n : ℕ) (cuts : List ℕ) (i k : ℕ) → k < n → piece_at len (piece_at (n * len) cuts i) k ≡ piece_at len cuts (i * n + k)
piece-piece len n cuts i k within =
    let from : List ℕ = drop (i * (n * len)) cuts in
    let room : k * len + len ≤ n * len = (let rows : suc k * len ≤ n * len = mul-le-mul_right len within in omega arith) in
    let split : n * len ≡ k * len + (n * len - k * len) = omega arith in
    let cut : drop (k * len) (take (n * len) from) ≡ take (n * len - k * len) (drop (k * len) from) =
    ap (λ (m : ℕ). drop (k * len) (take m from)) split ∙ drop-take (k * len) (n * len - k * len) from in
    let place : i * (n * len) + k * len ≡ (i * n + k) * len = (let grouped = mul_assoc i n len in omega arith) in
    ap (take len) cut ∙ take-take len (n * len - k * len) (drop (k * len) from) (omega arith)
    ∙ ap (take len) (drop-drop (k * len) (i * (n * len)) cuts ∙ ap (λ (m : ℕ). drop m cuts) place)

-- the cuts that particles make, piece by piece
pub slab_cuts : (g : Division) (js : List Particle) (ix : ℕ) → ix < g.nx → cuts_in_slab (cuts_for g js) ix ≡ y_cuts g js ix
unfolding cuts_for
slab_cuts g js ix within = piece-joined (y_cuts g js) (g.ny - 1) (λ k. length-cuts_of (λ p. p.y) (in_slab g js k) g.ny) 0 g.nx ix within ∙ ap (y_cuts g js) (let e : 0 + ix ≡ ix = omega arith in e)

columns_length : (g : Division) (js : List Particle) (ix : ℕ) → length (flat_map (z_cuts g js ix) (range_with_len 0 g.ny)) ≡ g.ny * (g.nz - 1)
columns_length g js ix = length-joined (z_cuts g js ix) (g.nz - 1) (λ iy. length-cuts_of (λ p. p.z) (in_column g js ix iy) g.nz) 0 g.ny

pub column_cuts : (g : Division) (js : List Particle) (ix iy : ℕ) → ix < g.nx → iy < g.ny → cuts_in_column (cuts_for g js) ix iy ≡ z_cuts g js ix iy
unfolding cuts_for
column_cuts g js ix iy in_x in_y =
    let len = g.nz - 1 in
    let slab = λ (k : ℕ). flat_map (z_cuts g js k) (range_with_len 0 g.ny) in
    let all : List ℕ = flat_map slab (range_with_len 0 g.nx) in
    let one : piece_at (g.ny * len) all ix ≡ slab ix =
    piece-joined slab (g.ny * len) (columns_length g js) 0 g.nx ix in_x ∙ ap slab (let e : 0 + ix ≡ ix = omega arith in e) in
    sym (piece-piece len g.ny all ix iy in_y) ∙ ap (λ (l : List ℕ). piece_at len l iy) one
    ∙ piece-joined (z_cuts g js ix) len (λ k. length-cuts_of (λ p. p.z) (in_column g js ix k) g.nz) 0 g.ny iy in_y ∙ ap (z_cuts g js ix) (let e : 0 + iy ≡ iy = omega arith in e)

pub cuts_are_of_slabs_and_columns : CutsAreOfSlabsAndColumns
cuts_are_of_slabs_and_columns g js = (slab_cuts g js, column_cuts g js)

abbrev Places : List Particle → Type 0
Places js = All (λ j. IsPosition j.at) js

places_in_slab : (g : Division) (js : List Particle) (ix : ℕ) → Places js → Places (in_slab g js ix)
places_in_slab g js ix places = All-filter _ (λ (j : Particle). IsPosition j.at) js places

places_in_column : (g : Division) (js : List Particle) (ix iy : ℕ) → Places js → Places (in_column g js ix iy)
places_in_column g js ix iy places = All-filter _ (λ (j : Particle). IsPosition j.at) (in_slab g js ix) (places_in_slab g js ix places)

all_y : (g : Division) (js : List Particle) → length (cuts_for g js).y ≡ g.nx * (g.ny - 1)
unfolding cuts_for
all_y g js = length-joined (y_cuts g js) (g.ny - 1) (λ k. length-cuts_of (λ p. p.y) (in_slab g js k) g.ny) 0 g.nx

all_z : (g : Division) (js : List Particle) → length (cuts_for g js).z ≡ g.nx * g.ny * (g.nz - 1)
unfolding cuts_for
all_z g js =
    length-joined (λ ix. flat_map (z_cuts g js ix) (range_with_len 0 g.ny)) (g.ny * (g.nz - 1)) (columns_length g js) 0 g.nx ∙ sym (mul_assoc g.nx g.ny (g.nz - 1))

cuts_grid : (g : Division) (js : List Particle) → (cuts_for g js).grid ≡ g
unfolding cuts_for
cuts_grid g js = refl

cuts_x : (g : Division) (js : List Particle) → (cuts_for g js).x ≡ x_cuts g js
unfolding cuts_for
cuts_x g js = refl

pub cuts_ascend : CutsAscend
unfolding cuts_for
cuts_ascend g js division places = record {
  division = division;
  along_x = AreCuts-cuts_of (λ p. p.x) js g.nx (λ p h. h.x_fits) places;
  along_y = λ ix within. subst (AreCuts (g.ny - 1)) (sym (slab_cuts g js ix within)) (AreCuts-cuts_of (λ p. p.y) (in_slab g js ix) g.ny (λ p h. h.y_fits) (places_in_slab g js ix places));
  along_z = λ ix iy in_x in_y.
      subst (AreCuts (g.nz - 1)) (sym (column_cuts g js ix iy in_x in_y))
      (AreCuts-cuts_of (λ p. p.z) (in_column g js ix iy) g.nz (λ p h. h.z_fits) (places_in_column g js ix iy places));
  all_y = all_y g js;
  all_z = all_z g js;
}

-- the places along each axis that make a rank
rank_at : Multisection → ℕ → ℕ → ℕ → ℕ
rank_at s ix iy iz = (ix * s.grid.ny + iy) * s.grid.nz + iz

-- the box of a rank, by these places
abbrev box_at : Multisection → ℕ → ℕ → ℕ → Bounds
box_at s ix iy iz =
    let y = cuts_in_slab s ix in
    let z = cuts_in_column s ix iy in
    record {
      lo = record { x = slab_start s.x ix; y = slab_start y iy; z = slab_start z iz };
      hi = record { x = slab_end s.x ix; y = slab_end y iy; z = slab_end z iz };
    }

box_by-at : (s : Multisection) (ix iy iz : ℕ) → iy < s.grid.ny → iz < s.grid.nz → box_by s (rank_at s ix iy iz) ≡ box_at s ix iy iz
unfolding box_by rank_at
box_by-at s ix iy iz in_y in_z =
    let ny = s.grid.ny in
    let nz = s.grid.nz in
    let column : ((ix * ny + iy) * nz + iz) / nz ≡ ix * ny + iy = div-mul-add (ix * ny + iy) nz iz in_z in
    let x : ((ix * ny + iy) * nz + iz) / nz / ny ≡ ix = ap (λ (n : ℕ). n / ny) column ∙ div-mul-add ix ny iy in_y in
    let y : ((ix * ny + iy) * nz + iz) / nz % ny ≡ iy = ap (λ (n : ℕ). n % ny) column ∙ mod-mul-add ix ny iy in_y in
    let z : ((ix * ny + iy) * nz + iz) % nz ≡ iz = mod-mul-add (ix * ny + iy) nz iz in_z in
    λ i. box_at s (x i) (y i) (z i)

abbrev x_place : Multisection → Position → ℕ
x_place s p = slab_of s.x p.x

abbrev y_place : Multisection → Position → ℕ
y_place s p = slab_of (cuts_in_slab s (x_place s p)) p.y

abbrev z_place : Multisection → Position → ℕ
z_place s p = slab_of (cuts_in_column s (x_place s p) (y_place s p)) p.z

owner_by-at : (s : Multisection) (p : Position) → owner_by s p ≡ rank_at s (x_place s p) (y_place s p) (z_place s p)
unfolding owner_by rank_at
owner_by-at s p = refl

-- the facts of the cuts that a position meets
record HasPlaces (s : Multisection) (p : Position) : Type 0 where
  pub in_x : x_place s p < s.grid.nx
  pub in_y : y_place s p < s.grid.ny
  pub in_z : z_place s p < s.grid.nz
  pub x_cuts_are : AreCuts (s.grid.nx - 1) s.x
  pub y_cuts_are : AreCuts (s.grid.ny - 1) (cuts_in_slab s (x_place s p))
  pub z_cuts_are : AreCuts (s.grid.nz - 1) (cuts_in_column s (x_place s p) (y_place s p))

has_places : (s : Multisection) (p : Position) → IsMultisection s → HasPlaces s p
has_places s p h =
    let division = h.division in
    let in_x = slab_below s.x s.grid.nx p.x division.some_x (let e = h.along_x.counted in omega arith) in
    let y_cuts_are = h.along_y (x_place s p) in_x in
    let in_y = slab_below (cuts_in_slab s (x_place s p)) s.grid.ny p.y division.some_y (let e = y_cuts_are.counted in omega arith) in
    let z_cuts_are = h.along_z (x_place s p) (y_place s p) in_x in_y in
    let in_z = slab_below (cuts_in_column s (x_place s p) (y_place s p)) s.grid.nz p.z division.some_z (let e = z_cuts_are.counted in omega arith) in
    record { in_x = in_x; in_y = in_y; in_z = in_z; x_cuts_are = h.along_x; y_cuts_are = y_cuts_are; z_cuts_are = z_cuts_are }

end-fits : (count : ℕ) (cuts : List ℕ) (k : ℕ) → AreCuts count cuts → slab_end cuts k < 2 ^ 30
end-fits count cuts k h =
    elim (cases_lt k (length cuts)) [
      | inl within ↦ (let fits = All-get_or (λ n. n ≤ 2 ^ 30) cuts k (2 ^ 30) within h.inside in omega arith)
      | inr past ↦ (let e = get_or_past cuts k (2 ^ 30) past in omega arith)
    ]

-- what a rank owns lies in its box
in_own_box : (s : Multisection) (p : Position) → HasPlaces s p → IsPosition p → IsInBox p (box_at s (x_place s p) (y_place s p) (z_place s p))
in_own_box s p h p_is =
    let x = IsSlab-slab_of s.x p.x h.x_cuts_are.ascending p_is.x_fits in
    let y = IsSlab-slab_of (cuts_in_slab s (x_place s p)) p.y h.y_cuts_are.ascending p_is.y_fits in
    let z = IsSlab-slab_of (cuts_in_column s (x_place s p) (y_place s p)) p.z h.z_cuts_are.ascending p_is.z_fits in
    record {
      above_lo = record { x_at_most = x.after_start; y_at_most = y.after_start; z_at_most = z.after_start };
      below_hi = record { x_at_most = x.before_end; y_at_most = y.before_end; z_at_most = z.before_end };
    }

own_box_is : (s : Multisection) (q : Position) → HasPlaces s q → IsPosition q → IsBox (box_at s (x_place s q) (y_place s q) (z_place s q))
own_box_is s q h q_is =
    let inside = in_own_box s q h q_is in
    let lo = inside.above_lo in
    let hi = inside.below_hi in
    let x_fits = q_is.x_fits in
    let y_fits = q_is.y_fits in
    let z_fits = q_is.z_fits in
    record {
      lo_fits = record { x_fits = (let e = lo.x_at_most in omega arith); y_fits = (let e = lo.y_at_most in omega arith); z_fits = (let e = lo.z_at_most in omega arith) };
      hi_fits = record {
        x_fits = end-fits (s.grid.nx - 1) s.x (x_place s q) h.x_cuts_are;
        y_fits = end-fits (s.grid.ny - 1) (cuts_in_slab s (x_place s q)) (y_place s q) h.y_cuts_are;
        z_fits = end-fits (s.grid.nz - 1) (cuts_in_column s (x_place s q) (y_place s q)) (z_place s q) h.z_cuts_are;
      };
      ordered = record {
        x_at_most = (let a = lo.x_at_most in let b = hi.x_at_most in omega arith);
        y_at_most = (let a = lo.y_at_most in let b = hi.y_at_most in omega arith);
        z_at_most = (let a = lo.z_at_most in let b = hi.z_at_most in omega arith);
      };
    }

-- positions with one owner have one place along each axis
record SharePlaces (s : Multisection) (p q : Position) : Type 0 where
  pub same_x : x_place s p ≡ x_place s q
  pub same_y : y_place s p ≡ y_place s q
  pub same_z : z_place s p ≡ z_place s q

places_from_owner : (s : Multisection) (p q : Position) → HasPlaces s p → HasPlaces s q → owner_by s p ≡ owner_by s q → SharePlaces s p q
unfolding rank_at
places_from_owner s p q h k same =
    let ranks = sym (owner_by-at s p) ∙ same ∙ owner_by-at s q in
    let columns = same_from_place (x_place s p * s.grid.ny + y_place s p) (z_place s p) (x_place s q * s.grid.ny + y_place s q) (z_place s q) s.grid.nz h.in_z k.in_z ranks in
    let rows = same_from_place (x_place s p) (y_place s p) (x_place s q) (y_place s q) s.grid.ny h.in_y k.in_y columns.0 in
    record { same_x = rows.0; same_y = rows.1; same_z = columns.1 }

owner_from_places : (s : Multisection) (p q : Position) → SharePlaces s p q → owner_by s p ≡ owner_by s q
owner_from_places s p q h = owner_by-at s p ∙ (λ i. rank_at s (h.same_x i) (h.same_y i) (h.same_z i)) ∙ sym (owner_by-at s q)

-- what lies in the box of a rank is its own
places_from_box : (s : Multisection) (p q : Position) → HasPlaces s q → IsPosition p → IsPosition q → IsInBox p (box_at s (x_place s q) (y_place s q) (z_place s q)) → SharePlaces s p q
places_from_box s p q k p_is q_is inside =
    let lo = inside.above_lo in
    let hi = inside.below_hi in
    let x = slab_from_IsSlab s.x p.x q.x k.x_cuts_are.ascending p_is.x_fits q_is.x_fits (record { after_start = lo.x_at_most; before_end = hi.x_at_most }) in
    let y_there = slab_from_IsSlab (cuts_in_slab s (x_place s q)) p.y q.y k.y_cuts_are.ascending p_is.y_fits q_is.y_fits (record { after_start = lo.y_at_most; before_end = hi.y_at_most }) in
    let y : y_place s p ≡ y_place s q = ap (λ (n : ℕ). slab_of (cuts_in_slab s n) p.y) x ∙ y_there in
    let z_there =
    slab_from_IsSlab (cuts_in_column s (x_place s q) (y_place s q)) p.z q.z k.z_cuts_are.ascending p_is.z_fits q_is.z_fits (record { after_start = lo.z_at_most; before_end = hi.z_at_most }) in
    let z : z_place s p ≡ z_place s q = (λ i. slab_of (cuts_in_column s (x i) (y i)) p.z) ∙ z_there in
    record { same_x = x; same_y = y; same_z = z }

pub boxes_by_cuts_hold_what_is_owned : BoxesByCutsHoldWhatIsOwned
boxes_by_cuts_hold_what_is_owned s q s_is q_is =
    let k = has_places s q s_is in
    let box : box_by s (owner_by s q) ≡ box_at s (x_place s q) (y_place s q) (z_place s q) =
    ap (box_by s) (owner_by-at s q) ∙ box_by-at s (x_place s q) (y_place s q) (z_place s q) k.in_y k.in_z in (
      subst IsBox (sym box) (own_box_is s q k q_is),
      λ p p_is. (
        λ same.
            let h = has_places s p s_is in
            let shared = places_from_owner s p q h k same in
            subst (IsInBox p) (sym box)
            (subst (IsInBox p) (λ i. box_at s (shared.same_x i) (shared.same_y i) (shared.same_z i)) (in_own_box s p h p_is)),
        λ inside. owner_from_places s p q (places_from_box s p q k p_is q_is (subst (IsInBox p) box inside)),
      ),
    )

pub domain_boxes_hold_what_is_owned : DomainBoxesHoldWhatIsOwned
unfolding owner domain_box
domain_boxes_hold_what_is_owned g js q division places q_is =
    boxes_by_cuts_hold_what_is_owned (cuts_for g js) q (cuts_ascend g js division places) q_is
