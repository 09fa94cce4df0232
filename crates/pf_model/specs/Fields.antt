-- What a kernel reads of a particle that receives a force, and of a source that exerts one.
use Rattle.std.specs.Prelude.{Bool, true, false, ℤ, pos, List, [], ◌∷◌, slice_index_or}
use Rattle.pf_model.specs.declared.field.Field.{Field}
use Rattle.pf_model.specs.declared.field.Field.TheVariants.{Pos, Vel, Mass, C0, C1, C2, C3, C4, C5, C6, C7, Count}
use Rattle.pf_model.specs.Particle.{Particle}
use Rattle.pf_model.specs.Totals.{Source}
use Rattle.pf_model.specs.Sums.{attribute}

-- whether a field is a vector; each other one is a number
abbrev pub is_vector : Field → Bool
is_vector Pos = true
is_vector Vel = true
is_vector _ = false

-- the components of a field of a particle: three of a vector, one of a number, none where it isn't there
abbrev pub field_of_particle : Field → Particle → List ℤ
field_of_particle Pos p = pos p.at.x ∷ pos p.at.y ∷ pos p.at.z ∷ []
field_of_particle Vel p = p.vel
field_of_particle Mass p = pos p.mass ∷ []
field_of_particle C0 p = attribute p.attr 0 ∷ []
field_of_particle C1 p = attribute p.attr 1 ∷ []
field_of_particle C2 p = attribute p.attr 2 ∷ []
field_of_particle C3 p = attribute p.attr 3 ∷ []
field_of_particle C4 p = attribute p.attr 4 ∷ []
field_of_particle C5 p = attribute p.attr 5 ∷ []
field_of_particle C6 p = attribute p.attr 6 ∷ []
field_of_particle C7 p = attribute p.attr 7 ∷ []
field_of_particle Count p = []

-- the components of a field of a source
abbrev pub field_of_source : Field → Source → List ℤ
field_of_source Pos s = pos s.at.x ∷ pos s.at.y ∷ pos s.at.z ∷ []
field_of_source Vel s = []
field_of_source Mass s = pos s.mass ∷ []
field_of_source C0 s = attribute s.attr 0 ∷ []
field_of_source C1 s = attribute s.attr 1 ∷ []
field_of_source C2 s = attribute s.attr 2 ∷ []
field_of_source C3 s = attribute s.attr 3 ∷ []
field_of_source C4 s = attribute s.attr 4 ∷ []
field_of_source C5 s = attribute s.attr 5 ∷ []
field_of_source C6 s = attribute s.attr 6 ∷ []
field_of_source C7 s = attribute s.attr 7 ∷ []
field_of_source Count s = pos s.count ∷ []

-- the components along x, y and z, where those that aren't there are 0
abbrev pub along_each_axis : List ℤ → List ℤ
along_each_axis parts =
    slice_index_or parts 0 (pos 0) ∷ slice_index_or parts 1 (pos 0) ∷ slice_index_or parts 2 (pos 0) ∷ []
