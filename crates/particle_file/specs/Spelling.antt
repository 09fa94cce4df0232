-- How a text spells particles.
use Rattle.std.specs.Prelude.{◌≡◌, ℕ, true, ℤ, pos, List, [], ◌∷◌, length, drop, replicate, codes}
use Rattle.std.specs.Str.Parse.{digits_value}
use Rattle.pf_model.specs.Particle.{Particle, IsParticle}
use Rattle.pf_model.specs.Particles.{AreBodies}
use Rattle.text_lines.specs.Lines.{FieldLine, field_lines}
use Rattle.text_lines.specs.Numbers.{is_digits, is_integer, integer_value}
use Rattle.particle_file.specs.Columns.{numbers}

-- a particle that a line can spell: c4 to c7 are 0
abbrev pub IsPlain : Particle → Type 0
IsPlain p = drop 4 p.attr ≡ replicate 4 (pos 0)

pub record SpellsNumber (field : List ℕ) (n : ℤ) : Type 0 where
  pub digits : is_integer field ≡ true
  pub value : integer_value field ≡ n

-- each field spells the number in its place
abbrev pub SpellNumbers : List (List ℕ) → List ℤ → Type 0
SpellNumbers [] [] = Unit {0}
SpellNumbers (field ∷ fields) (n ∷ ns) = SpellsNumber field n × SpellNumbers fields ns
SpellNumbers [] (n ∷ ns) = ⊥
SpellNumbers (field ∷ fields) [] = ⊥

-- the line is the particle's numbers
pub record SpellsParticle (line : FieldLine) (p : Particle) : Type 0 where
  pub particle : IsParticle p
  pub plain : IsPlain p
  pub numbers : SpellNumbers line.fields (numbers p)

-- each line spells the particle in its place
abbrev pub SpellParticles : List FieldLine → List Particle → Type 0
SpellParticles [] [] = Unit {0}
SpellParticles (line ∷ lines) (p ∷ ps) = SpellsParticle line p × SpellParticles lines ps
SpellParticles [] (p ∷ ps) = ⊥
SpellParticles (line ∷ lines) [] = ⊥

abbrev pub IsHeader : FieldLine → Type 0
IsHeader line = line.fields ≡ codes "particles" ∷ codes "1" ∷ []

pub record IsCount (line : FieldLine) (n : ℕ) : Type 0 where
  pub field : List ℕ
  pub fields_are : line.fields ≡ codes "count" ∷ field ∷ []
  pub digits : is_digits field ≡ true
  pub value : digits_value 10 field ≡ n

-- the lines that aren't skipped are a header, the count of the particles, and the particles
pub record SpellsText (text : List ℕ) (ps : List Particle) : Type 0 where
  pub header : FieldLine
  pub count : FieldLine
  pub lines : List FieldLine
  pub lines_are : field_lines text ≡ header ∷ count ∷ lines
  pub is_header : IsHeader header
  pub is_count : IsCount count (length ps)
  pub each : SpellParticles lines ps
  pub bodies : AreBodies ps
