-- The canonical text of particles.
use Rattle.std.specs.Prelude.{ℕ, List, [], ◌∷◌, length, map, codes}
use Rattle.std.specs.Fmt.{decimal, signed_decimal}
use Rattle.pf_model.specs.Particle.{Particle}
use Rattle.text_lines.specs.Written.{written}
use Rattle.particle_file.specs.Columns.{numbers}

-- the numbers of a particle's line in canonical decimals
abbrev pub number_fields : Particle → List (List ℕ)
number_fields p = map signed_decimal (numbers p)

-- the lines with their fields: the header, the count and the particles
abbrev pub lines_of : List Particle → List (List (List ℕ))
lines_of ps = (codes "particles" ∷ codes "1" ∷ []) ∷ (codes "count" ∷ decimal (length ps) ∷ []) ∷ map number_fields ps

abbrev pub particles_text : List Particle → List ℕ
particles_text ps = written (lines_of ps)
