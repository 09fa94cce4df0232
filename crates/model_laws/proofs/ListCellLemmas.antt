-- The cells and the particles of a list, each by itself.
use Rattle.std.proofs.Common.{◌≡◌, ℕ, ◌≤◌, Bool, true, false, List, [], ◌∷◌, length, map, get_or, Option, Some, None, refl, sym, ◌∙◌, ap, subst, arith}
use Rattle.std.specs.List.{filter, Contains}
use Rattle.std.proofs.lemmas.Bool.{eqb-true, and_parts, false≢true}
use Rattle.std.proofs.lemmas.List.{length-map}
use Rattle.std.proofs.lemmas.List.Elements.{filter_agree, Contains-get_or}
use Rattle.pf_geom.specs.Position.{Position}
use Rattle.pf_geom.specs.Bounds.{Bounds}
use Rattle.pf_geom.specs.Octant.{Octant, IsCell, cell_at, ancestor_at, IsIn}
use Rattle.pf_geom.specs.CellLaws.{CellsOfAPositionNest, PositionsShareLowerCells, PositionsHaveCells}
use Rattle.order_laws.specs.OrderLaws.{OrdersAreShort}
use Rattle.pf_model.specs.declared.entry.Entry.{Entry}
use Rattle.pf_model.specs.declared.entry.Entry.TheVariants.{Cell, One}
use Rattle.pf_model.specs.Particle.{Particle}
use Rattle.pf_model.specs.Criterion.{Criterion, Passes}
use Rattle.pf_model.specs.Totals.{Totals}
use Rattle.pf_model.specs.Sums.{moment_of}
use Rattle.pf_model.specs.Interaction.{level_of, is_cell, is_cell_at, leads_to_cell, entry_at, entry_of, comes_before, list_of}
use Rattle.pf_model.specs.Group.{particles_in}
use Rattle.model_laws.specs.OpeningLaws.{PassingCellsLieApart}
use Rattle.model_laws.specs.ListLaws.{IsFirstPassing, NonePasses, ListsAreShort, FirstCellsHoldTheirMembers, IsFirstCell, ListsHoldFirstCells, ListsHoldNearParticles, ParticlesInTheBoxAreNear}
use Rattle.order_laws.proofs.ElementLemmas.{some_from_contains}
use Rattle.model_laws.proofs.LevelLemmas.{none_from_level, level_from_none, first_from_level, level_from_first}
use Rattle.model_laws.proofs.ListLemmas.{IsListOf-list_of}
use Rattle.model_laws.proofs.MemberLemmas.{in_cell, cell_has, same_from_is_cell}

pub lists_are_short : OrdersAreShort Entry → ListsAreShort
unfolding list_of
lists_are_short short t box js =
    let long = short comes_before (map (entry_of t box js) js) in
    let same = length-map js (entry_of t box js) in
    omega arith

-- a position in the first passing cell of another has it as its own
pub first_shared : PositionsShareLowerCells → (t : Criterion) (box : Bounds) (p q : Position) (level : ℕ) → IsFirstPassing t box p level → cell_at q level ≡ cell_at p level → IsFirstPassing t box q level
first_shared share t box p q level h same = record {
  within = h.within;
  passes = subst (λ (c : Octant). Passes box c t) (sym same) h.passes;
  lowest = λ lower less passes.
      let shared = share q p lower level (omega arith) h.within same in
      h.lowest lower less (subst (λ (c : Octant). Passes box c t) shared passes);
}

-- a particle that lies in it leads to it
lies_leads : PositionsShareLowerCells → (t : Criterion) (box : Bounds) (p : Position) (level : ℕ) → IsFirstPassing t box p level → (j : Particle) → is_cell (cell_at p level) (cell_at j.at level) ≡ true → leads_to_cell t box (cell_at p level) j ≡ true
lies_leads share t box p level h j e =
    let same : cell_at j.at level ≡ cell_at p level = sym (same_from_is_cell (cell_at p level) (cell_at j.at level) e) in
    let least : level_of t box j.at ≡ Some level = level_from_first t box j.at level (first_shared share t box p j.at level h same) in
    ap (is_cell_at (cell_at p level) j.at) least ∙ e

-- and one that leads to a cell lies there
lies_from_level : (c : Octant) (q : Position) (o : Option ℕ) → is_cell_at c q o ≡ true → is_cell c (cell_at q c.level) ≡ true
lies_from_level c q None e = absurd (false≢true e)
lies_from_level c q (Some n) e =
    let level : c.level ≡ n = eqb-true c.level n (and_parts _ _ e).0 in
    let P : ℕ → Type 0 = λ k. is_cell c (cell_at q k) ≡ true in
    subst P (sym level) e

pub same_tests : (a b : Bool) → (a ≡ true → b ≡ true) → (b ≡ true → a ≡ true) → a ≡ b
same_tests true b f g = sym (f refl)
same_tests false true f g = g refl
same_tests false false f g = refl

pub first_cells_hold_their_members : PositionsShareLowerCells → FirstCellsHoldTheirMembers
first_cells_hold_their_members share t box p level js h =
    filter_agree (leads_to_cell t box (cell_at p level)) (λ (j : Particle). is_cell (cell_at p level) (cell_at j.at level))
    (λ j. same_tests _ _ (lies_from_level (cell_at p level) j.at (level_of t box j.at)) (lies_leads share t box p level h j))
    js

-- the first passing cell of a position
IsFirstCell-from_passing : CellsOfAPositionNest → (t : Criterion) (box : Bounds) (p : Position) (level : ℕ) → IsFirstPassing t box p level → IsFirstCell t box (cell_at p level)
IsFirstCell-from_passing nest t box p level h = record {
  passes = h.passes;
  lowest = λ lower less passes. h.lowest lower less (subst (λ (c : Octant). Passes box c t) (nest p lower level (omega arith) h.within) passes);
}

IsFirstPassing-from_cell : CellsOfAPositionNest → (t : Criterion) (box : Bounds) (c : Octant) (p : Position) → IsCell c → IsFirstCell t box c → IsIn p c → IsFirstPassing t box p c.level
IsFirstPassing-from_cell nest t box c p is h inside = record {
  within = is.level_fits;
  passes = subst (λ (d : Octant). Passes box d t) (sym inside) h.passes;
  lowest = λ lower less passes.
      let above : cell_at p lower ≡ ancestor_at c lower =
      sym (nest p lower c.level (omega arith) is.level_fits) ∙ ap (λ (d : Octant). ancestor_at d lower) inside in
      h.lowest lower less (subst (λ (d : Octant). Passes box d t) above passes);
}

-- the first element of a list that has one
first_of_some : {X : Type 0} (xs : List X) → 1 ≤ length xs → X
first_of_some [] some = absurd (omega arith)
first_of_some (x ∷ xs) some = x

-- what an entry that a particle leads to is
abbrev IsFound : Criterion → Bounds → List Particle → Octant → Totals → Type 0
IsFound t box js c m = IsFirstCell t box c × (1 ≤ length (particles_in c js)) × (m ≡ moment_of (particles_in c js))

abbrev HasCell : Octant → Totals → Entry → Type 0
HasCell c m (Cell d n) = (c ≡ d) × (m ≡ n)
HasCell c m (One p) = ⊥

HasCell-from_same : (c : Octant) (m : Totals) (e : Entry) → Cell c m ≡ e → HasCell c m e
HasCell-from_same c m e same = subst (HasCell c m) same (refl, refl)

found_from_entry : CellsOfAPositionNest → PositionsShareLowerCells → (t : Criterion) (box : Bounds) (js : List Particle) (c : Octant) (m : Totals) (j : Particle) (o : Option ℕ) → Contains js j → level_of t box j.at ≡ o → HasCell c m (entry_at t box js j o) → IsFound t box js c m
found_from_entry nest share t box js c m j None inside e h = absurd h
found_from_entry nest share t box js c m j (Some level) inside e h =
    let first = first_from_level t box j.at level e in
    let at = sym h.0 in
    let members = first_cells_hold_their_members share t box j.at level js first in (
      subst (IsFirstCell t box) at (IsFirstCell-from_passing nest t box j.at level first),
      some_from_contains (particles_in c js) j (cell_has c js j inside (ap (λ (d : Octant). cell_at j.at d.level) h.0 ∙ at)),
      h.1 ∙ ap moment_of (members ∙ ap (λ (d : Octant). particles_in d js) at),
    )

pub lists_hold_first_cells : CellsOfAPositionNest → PositionsShareLowerCells → ListsHoldFirstCells
lists_hold_first_cells nest share t box js c m distinct is =
    let list = IsListOf-list_of t box js distinct in
    let found : Contains (list_of t box js) (Cell c m) → IsFound t box js c m = λ h.
    (let from = list.sound (Cell c m) h in
    found_from_entry nest share t box js c m from.0 (level_of t box from.0.at) from.1 refl (HasCell-from_same c m (entry_of t box js from.0) from.2)) in
    let there : IsFound t box js c m → Contains (list_of t box js) (Cell c m) = λ h.
    (let j : Particle = get_or (particles_in c js) 0 (first_of_some (particles_in c js) h.1) in
    let both = in_cell c js j (Contains-get_or (particles_in c js) 0 (first_of_some (particles_in c js) h.1) (omega (arith, h.1))) in
    let first = IsFirstPassing-from_cell nest t box c j.at is h.0 both.1 in
    let level = level_from_first t box j.at c.level first in
    let members : filter (leads_to_cell t box c) js ≡ particles_in c js =
    ap (λ (d : Octant). filter (leads_to_cell t box d) js) (sym both.1) ∙ first_cells_hold_their_members share t box j.at c.level js first ∙ ap (λ (d : Octant). particles_in d js) both.1 in
    let entry : entry_of t box js j ≡ Cell c m =
    ap (entry_at t box js j) level ∙ ap (λ (d : Octant). Cell d (moment_of (filter (leads_to_cell t box d) js))) both.1 ∙ ap (Cell c) (ap moment_of members ∙ sym h.2) in
    subst (Contains (list_of t box js)) entry (list.complete j both.0)) in
    (found, there)

-- a particle as itself
abbrev HasParticle : Particle → Entry → Type 0
HasParticle p (Cell d n) = ⊥
HasParticle p (One q) = p ≡ q

near_from_entry : (t : Criterion) (box : Bounds) (js : List Particle) (p j : Particle) (o : Option ℕ) → Contains js j → level_of t box j.at ≡ o → HasParticle p (entry_at t box js j o) → Contains js p × NonePasses t box p.at
near_from_entry t box js p j None inside e h =
    (subst (Contains js) (sym h) inside, subst (λ (q : Particle). NonePasses t box q.at) (sym h) (none_from_level t box j.at e))
near_from_entry t box js p j (Some level) inside e h = absurd h

pub lists_hold_near_particles : ListsHoldNearParticles
lists_hold_near_particles t box js p distinct =
    let list = IsListOf-list_of t box js distinct in (
      λ h. (let from = list.sound (One p) h in near_from_entry t box js p from.0 (level_of t box from.0.at) from.1 refl (subst (HasParticle p) from.2 refl)),
      λ h. subst (Contains (list_of t box js)) (ap (entry_at t box js p) (level_from_none t box p.at h.1)) (list.complete p h.0),
    )

pub particles_in_the_box_are_near : PassingCellsLieApart → PositionsHaveCells → ParticlesInTheBoxAreNear
particles_in_the_box_are_near apart cells t box p t_is box_is p_is inside level within passes =
    (apart t box (cell_at p level) t_is box_is (cells p level within) passes).1 p p_is inside refl
