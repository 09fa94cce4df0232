-- Laws of the lists and the groups of a thin run.
use Rattle.std.specs.Prelude.{◌≡◌, ℕ, ◌≤◌, List, [], ◌∷◌, length, map}
use Rattle.pf_geom.specs.Bounds.{Bounds}
use Rattle.pf_geom.specs.Octant.{Octant}
use Rattle.pf_model.specs.declared.entry.Entry.TheVariants.{One}
use Rattle.pf_model.specs.Particle.{Particle}
use Rattle.pf_model.specs.Particles.{by_id}
use Rattle.pf_model.specs.Criterion.{Criterion, IsCriterion}
use Rattle.pf_model.specs.Interaction.{list_of}
use Rattle.pf_model.specs.Group.{particles_in, group_cells}

-- where theta is 0 no cell passes, and the list of a box is all particles, by id
abbrev pub ListsWithoutCellsAreParticles : Type 0
ListsWithoutCellsAreParticles =
    (t : Criterion) (box : Bounds) (js : List Particle) → IsCriterion t → t.a ≡ 0 →
    list_of t box js ≡ map One (by_id js)

-- the cell of level 0
abbrev pub cube : Octant
cube = record { level = 0; key = 0 }

-- particles that are no more than the limit are one group, whose cell is the cube
abbrev pub FewParticlesAreOneGroup : Type 0
FewParticlesAreOneGroup =
    (limit : ℕ) (own : List Particle) → 1 ≤ length own → length own ≤ limit →
    (group_cells limit own ≡ cube ∷ []) × (particles_in cube own ≡ own)
