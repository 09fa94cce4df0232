-- Groups of particles that are no more than the limit.
use Rattle.std.proofs.Common.{◌≡◌, ℕ, ◌≤◌, Bool, true, cond, List, [], ◌∷◌, length, map, refl, sym, ap, ◌∙◌, eq-eqb, arith}
use Rattle.std.proofs.lemmas.List.Sums.{count_by-le-length, length-filter}
use Rattle.pf_geom.specs.Position.{Position}
use Rattle.pf_geom.specs.Octant.{Octant, cell_at}
use Rattle.pf_geom.specs.CellLaws.{PositionsHaveCells}
use Rattle.pf_model.specs.Particle.{Particle}
use Rattle.order_laws.specs.Order.{placed, in_order_once}
use Rattle.pf_model.specs.Interaction.{is_cell}
use Rattle.pf_model.specs.Group.{particles_in, group_level, group_cell, has_lower_corner, group_cells}
use Rattle.model_laws.specs.GroupLaws.{GroupLevelsAreLeast}
use Rattle.run_laws.specs.ThinLaws.{cube, FewParticlesAreOneGroup}

-- every position lies in the cube
in_cube : PositionsHaveCells → (p : Position) → cell_at p 0 ≡ cube
in_cube law p =
    let fits = (law p 0 (omega arith)).key_fits in
    let none : (cell_at p 0).key ≡ 0 = omega arith in
    λ i. record { level = 0; key = none i }

same_cell : (c : Octant) → is_cell c c ≡ true
same_cell c = rw (eq-eqb c.level c.level refl, eq-eqb c.key c.key refl) refl

all_in_cube : PositionsHaveCells → (own : List Particle) → particles_in cube own ≡ own
all_in_cube law [] = refl
all_in_cube law (j ∷ own) =
    let here : is_cell cube (cell_at j.at 0) ≡ true = ap (is_cell cube) (in_cube law j.at) ∙ same_cell cube in
    ap (λ b. cond b (j ∷ particles_in cube own) (particles_in cube own)) here ∙ ap (λ l. j ∷ l) (all_in_cube law own)

top_level : GroupLevelsAreLeast → (limit : ℕ) (own : List Particle) (p : Position) → length own ≤ limit → group_level limit own p ≡ 0
top_level law limit own p few =
    let test : Particle → Bool = λ j. is_cell (cell_at p 0) (cell_at j.at 0) in
    let a = length-filter test own in
    let b = count_by-le-length test own in
    sym ((law limit own p 0).1 (record { within = omega arith; few = λ less. omega arith; many_above = λ lower less. absurd (omega arith) }))

cell_is_cube : GroupLevelsAreLeast → PositionsHaveCells → (limit : ℕ) (own : List Particle) (p : Position) → length own ≤ limit → group_cell limit own p ≡ cube
cell_is_cube levels cells limit own p few = ap (cell_at p) (top_level levels limit own p few) ∙ in_cube cells p

cubes : (f : Particle → Octant) (ks : List Particle) → ((k : Particle) → f k ≡ cube) → 1 ≤ length ks → in_order_once has_lower_corner (map f ks) ≡ cube ∷ []
cubes f [] each some = absurd (omega arith)
cubes f (k ∷ []) each some = ap (λ c. c ∷ []) (each k)
cubes f (k ∷ m ∷ ks) each some =
    λ i. placed has_lower_corner (each k i) (cubes f (m ∷ ks) each (omega arith) i)

pub one_group : GroupLevelsAreLeast → PositionsHaveCells → FewParticlesAreOneGroup
unfolding group_cells
one_group levels cells limit own some few =
    (cubes (λ (i : Particle). group_cell limit own i.at) own (λ k. cell_is_cube levels cells limit own k.at few) some, all_in_cube cells own)
