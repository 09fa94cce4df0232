-- Cuts piece by piece: those of a slab, and those of a column.
use Rattle.std.proofs.Common.{◌≡◌, ℕ, ◌+◌, ◌-◌, ◌*◌, ◌/◌, ◌%◌, ◌<◌, ◌≤◌, List, length, refl, sym, ◌∙◌, ap, arith}
use Rattle.std.specs.Prelude.{nat_le}
use Rattle.std.proofs.lemmas.List.FromFn.{length-map-range_with_len}
use Rattle.std.proofs.lemmas.List.Sums.{count_by-le-length}
use Rattle.pf_geom.specs.Position.{Position}
use Rattle.pf_geom.specs.Bounds.{Bounds}
use Rattle.model_laws.specs.DomainLaws.{CutsAreOfSlabsAndColumns}
use Rattle.pf_model.specs.Particle.{Particle}
use Rattle.pf_model.specs.Division.{Division, IsDivision}
use Rattle.plain_run.specs.Boxes.{IsRankAt}
use Rattle.pf_model.specs.Domains.{cuts_in_slab, cuts_in_column, slab_of, slab_start, slab_end, owner_by, box_by, cut_before, cuts_of, x_cuts, in_slab, y_cuts, z_cuts, cuts_for, owner, domain_box}

length-cuts_of : (along : Position → ℕ) (js : List Particle) (m : ℕ) → length (cuts_of along js m) ≡ m - 1
length-cuts_of along js m = length-map-range_with_len (cut_before along js m) 1 (m - 1)

-- a coordinate lies in one of the slabs
slab_below : (along : Position → ℕ) (js : List Particle) (m n : ℕ) → 1 ≤ m → slab_of (cuts_of along js m) n < m
slab_below along js m n some =
    let long = length-cuts_of along js m in
    let most = count_by-le-length (λ cut. nat_le cut n) (cuts_of along js m) in
    omega arith

-- the places of a position along the axes, by the cuts alone that it meets
pub record HasPlaces (g : Division) (js : List Particle) (p : Position) (ix iy iz : ℕ) : Type 0 where
  pub along_x : ix ≡ slab_of (x_cuts g js) p.x
  pub along_y : iy ≡ slab_of (y_cuts g js ix) p.y
  pub along_z : iz ≡ slab_of (z_cuts g js ix iy) p.z

grid_is : (g : Division) (js : List Particle) → (cuts_for g js).grid ≡ g
unfolding cuts_for
grid_is g js = refl

x_is : (g : Division) (js : List Particle) → (cuts_for g js).x ≡ x_cuts g js
unfolding cuts_for
x_is g js = refl

pub owner_from_places : CutsAreOfSlabsAndColumns → (g : Division) (js : List Particle) (p : Position) (ix iy iz : ℕ) → IsDivision g → HasPlaces g js p ix iy iz → (ix * g.ny + iy) * g.nz + iz ≡ owner g js p
unfolding owner owner_by
owner_from_places law g js p ix iy iz division h =
    let s = cuts_for g js in
    let below_x : ix < g.nx = (let below = slab_below (λ q. q.x) js g.nx p.x division.some_x in let e = h.along_x in omega arith) in
    let below_y : iy < g.ny = (let below = slab_below (λ q. q.y) (in_slab g js ix) g.ny p.y division.some_y in let e = h.along_y in omega arith) in
    let x : ix ≡ slab_of s.x p.x = h.along_x ∙ ap (λ (l : List ℕ). slab_of l p.x) (sym (x_is g js)) in
    let y : iy ≡ slab_of (cuts_in_slab s (slab_of s.x p.x)) p.y =
    h.along_y ∙ ap (λ (l : List ℕ). slab_of l p.y) (sym ((law g js).0 ix below_x)) ∙ ap (λ (k : ℕ). slab_of (cuts_in_slab s k) p.y) x in
    let z : iz ≡ slab_of (cuts_in_column s (slab_of s.x p.x) (slab_of (cuts_in_slab s (slab_of s.x p.x)) p.y)) p.z =
    h.along_z ∙ ap (λ (l : List ℕ). slab_of l p.z) (sym ((law g js).1 ix iy below_x below_y)) ∙ (λ i. slab_of (cuts_in_column s (x i) (y i)) p.z) in
    let same = sym (grid_is g js) in
    λ i. (x i * (same i).ny + y i) * (same i).nz + z i

-- the domain box of a rank, by the cuts alone that it meets
abbrev pub box_at : Division → List Particle → ℕ → ℕ → ℕ → Bounds
box_at g js ix iy iz =
    let x = x_cuts g js in
    let y = y_cuts g js ix in
    let z = z_cuts g js ix iy in
    record {
      lo = record { x = slab_start x ix; y = slab_start y iy; z = slab_start z iz };
      hi = record { x = slab_end x ix; y = slab_end y iy; z = slab_end z iz };
    }

pub box_from_places : CutsAreOfSlabsAndColumns → (g : Division) (js : List Particle) (rank ix iy iz : ℕ) → IsRankAt g rank ix iy iz → domain_box g js rank ≡ box_at g js ix iy iz
unfolding domain_box box_by
box_from_places law g js rank ix iy iz h =
    let s = cuts_for g js in
    let same = grid_is g js in
    let at_x : rank / s.grid.nz / s.grid.ny ≡ ix = (λ i. rank / (same i).nz / (same i).ny) ∙ sym h.along_x in
    let at_y : rank / s.grid.nz % s.grid.ny ≡ iy = (λ i. rank / (same i).nz % (same i).ny) ∙ sym h.along_y in
    let at_z : rank % s.grid.nz ≡ iz = (λ i. rank % (same i).nz) ∙ sym h.along_z in
    let x = x_is g js in
    let y : cuts_in_slab s (rank / s.grid.nz / s.grid.ny) ≡ y_cuts g js ix = ap (cuts_in_slab s) at_x ∙ (law g js).0 ix h.in_x in
    let z : cuts_in_column s (rank / s.grid.nz / s.grid.ny) (rank / s.grid.nz % s.grid.ny) ≡ z_cuts g js ix iy = (λ i. cuts_in_column s (at_x i) (at_y i)) ∙ (law g js).1 ix iy h.in_x h.in_y in
    λ i. record {
      lo = record { x = slab_start (x i) (at_x i); y = slab_start (y i) (at_y i); z = slab_start (z i) (at_z i) };
      hi = record { x = slab_end (x i) (at_x i); y = slab_end (y i) (at_y i); z = slab_end (z i) (at_z i) };
    }

-- the corners of the box, from the slabs that code reads
pub low_from_places : CutsAreOfSlabsAndColumns → (g : Division) (js : List Particle) (rank ix iy iz : ℕ) (x y z : List ℕ) (a b c : ℕ) → IsRankAt g rank ix iy iz → x ≡ x_cuts g js → y ≡ y_cuts g js ix → z ≡ z_cuts g js ix iy
    → a ≡ slab_start x ix → b ≡ slab_start y iy → c ≡ slab_start z iz → record { x = a; y = b; z = c } ≡ (domain_box g js rank).lo
low_from_places law g js rank ix iy iz x y z a b c h x_is y_is z_is a_is b_is c_is =
    (λ i. record { x = (a_is ∙ ap (λ l. slab_start l ix) x_is) i; y = (b_is ∙ ap (λ l. slab_start l iy) y_is) i; z = (c_is ∙ ap (λ l. slab_start l iz) z_is) i })
    ∙ sym (ap (λ (o : Bounds). o.lo) (box_from_places law g js rank ix iy iz h))

pub high_from_places : CutsAreOfSlabsAndColumns → (g : Division) (js : List Particle) (rank ix iy iz : ℕ) (x y z : List ℕ) (a b c : ℕ) → IsRankAt g rank ix iy iz → x ≡ x_cuts g js → y ≡ y_cuts g js ix → z ≡ z_cuts g js ix iy
    → a ≡ slab_end x ix → b ≡ slab_end y iy → c ≡ slab_end z iz → record { x = a; y = b; z = c } ≡ (domain_box g js rank).hi
high_from_places law g js rank ix iy iz x y z a b c h x_is y_is z_is a_is b_is c_is =
    (λ i. record { x = (a_is ∙ ap (λ l. slab_end l ix) x_is) i; y = (b_is ∙ ap (λ l. slab_end l iy) y_is) i; z = (c_is ∙ ap (λ l. slab_end l iz) z_is) i })
    ∙ sym (ap (λ (o : Bounds). o.hi) (box_from_places law g js rank ix iy iz h))
