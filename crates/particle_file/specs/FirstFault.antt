-- The first fault of a text that spells no particles, by its lines and columns.
use Rattle.std.specs.Prelude.{◌≡◌, ℕ, ◌+◌, ◌<◌, ◌≤◌, ◌⊎◌, true, false, ◌==◌, ℤ, List, [], ◌∷◌, ◌++◌, length, slice_index_or}
use Rattle.std.specs.List.{list_any}
use Rattle.pf_model.specs.declared.limits.TheConstants.{MOST_PARTICLES}
use Rattle.pf_model.specs.Particle.{Particle}
use Rattle.pf_model.specs.Particles.{HaveDistinctIds}
use Rattle.text_lines.specs.Laws.{WritesInteger}
use Rattle.text_lines.specs.Lines.{FieldLine, lines, field_lines}
use Rattle.text_lines.specs.Numbers.{is_integer}
use Rattle.particle_file.specs.Columns.{columns, id_limits}
use Rattle.particle_file.specs.Spelling.{IsHeader, IsCount, SpellsParticle, SpellParticles}
use Rattle.particle_file.specs.declared.columns.Limits.{Limits}
use Rattle.particle_file.specs.declared.fault.PartFault.{PartFault}
use Rattle.particle_file.specs.declared.fault.PartFault.TheVariants as faults

-- the limits and the field of a column, counted from 0
abbrev pub limits_at : List Limits → ℕ → Limits
limits_at cs k = slice_index_or cs k id_limits

abbrev pub field_at : List (List ℕ) → ℕ → List ℕ
field_at fields k = slice_index_or fields k []

abbrev pub WritesWithin : Limits → List ℕ → Type 0
WritesWithin limits field = (n : ℤ) × WritesInteger limits.least limits.most field n

-- the column has a field that writes a number within the column's limits
abbrev pub IsRight : List Limits → List (List ℕ) → ℕ → Type 0
IsRight cs fields k = (k < length cs) × (k < length fields) × WritesWithin (limits_at cs k) (field_at fields k)

-- the column has no field, or one that is no number
abbrev pub LacksNumber : List Limits → List (List ℕ) → ℕ → Type 0
LacksNumber cs fields k = (k < length cs) × (k < length fields → is_integer (field_at fields k) ≡ false)

-- a field stands where there are no more columns
abbrev pub IsExtra : List Limits → List (List ℕ) → ℕ → Type 0
IsExtra cs fields k = (k ≡ length cs) × (k < length fields)

-- the column has a number that is past its limits
abbrev pub IsPast : List Limits → List (List ℕ) → ℕ → Type 0
IsPast cs fields k = (k < length cs) × (k < length fields) × (is_integer (field_at fields k) ≡ true)
    × ¬ (WritesWithin (limits_at cs k) (field_at fields k))

-- in the fields of this line, where the first of these columns has this number, the columns before k are
-- right, and k has the fault
pub record IsColumnFault (line first : ℕ) (cs : List Limits) (fields : List (List ℕ)) (k : ℕ) (fault : PartFault)
    : Type 0 where
  pub before : (j : ℕ) → j < k → IsRight cs fields j
  pub fault_is : ((fault ≡ faults.Field line (first + k)) × (LacksNumber cs fields k ⊎ IsExtra cs fields k))
      ⊎ ((fault ≡ faults.Range line (first + k)) × IsPast cs fields k)

-- the line spells a particle, but one before it has the id
pub record RepeatsId (before : List Particle) (line : FieldLine) : Type 0 where
  pub particle : Particle
  pub spelled : SpellsParticle line particle
  pub repeated : list_any (λ p. p.id == particle.id) before ≡ true

-- the fault of the line after these particles
abbrev pub IsLineFault : List Particle → FieldLine → PartFault → Type 0
IsLineFault before line fault =
    ((k : ℕ) × IsColumnFault line.number 1 columns line.fields k fault)
    ⊎ ((fault ≡ faults.DuplicateId line.number) × RepeatsId before line)

-- the text is a header, a count, lines that spell these particles, and the other lines
pub record SpellsFront (text : List ℕ) (due : ℕ) (ps : List Particle) (rest : List FieldLine) : Type 0 where
  pub header : FieldLine
  pub count : FieldLine
  pub front : List FieldLine
  pub lines_are : field_lines text ≡ header ∷ count ∷ (front ++ rest)
  pub is_header : IsHeader header
  pub is_count : IsCount count due
  pub few : due ≤ MOST_PARTICLES
  pub each : SpellParticles front ps
  pub distinct : HaveDistinctIds ps

-- another particle is due, and the next line has the fault
pub record StopsInLine (text : List ℕ) (fault : PartFault) : Type 0 where
  pub due : ℕ
  pub ps : List Particle
  pub line : FieldLine
  pub rest : List FieldLine
  pub front : SpellsFront text due ps (line ∷ rest)
  pub more_due : length ps < due
  pub in_line : IsLineFault ps line fault

-- another particle is due, and no line is left
pub record EndsEarly (text : List ℕ) : Type 0 where
  pub due : ℕ
  pub ps : List Particle
  pub front : SpellsFront text due ps []
  pub more_due : length ps < due

-- after the last particle stands a line of this number
pub record GoesOn (text : List ℕ) (number : ℕ) : Type 0 where
  pub ps : List Particle
  pub line : FieldLine
  pub rest : List FieldLine
  pub front : SpellsFront text (length ps) ps (line ∷ rest)
  pub number_is : number ≡ line.number

-- the first line is the header
pub record HasHeader (text : List ℕ) (rest : List FieldLine) : Type 0 where
  pub header : FieldLine
  pub lines_are : field_lines text ≡ header ∷ rest
  pub is_header : IsHeader header

-- the second is the count
pub record HasCount (rest : List FieldLine) (n : ℕ) : Type 0 where
  pub count : FieldLine
  pub more : List FieldLine
  pub lines_are : rest ≡ count ∷ more
  pub is_count : IsCount count n

abbrev pub HasFirstParticleFault : List ℕ → PartFault → Type 0
HasFirstParticleFault text faults.Header = (rest : List FieldLine) → HasHeader text rest → ⊥
HasFirstParticleFault text faults.Count =
    (rest : List FieldLine) × HasHeader text rest × ((n : ℕ) → HasCount rest n → ⊥)
HasFirstParticleFault text faults.TooMany =
    (rest : List FieldLine) × (n : ℕ) × HasHeader text rest × HasCount rest n × (MOST_PARTICLES < n)
HasFirstParticleFault text (faults.Short line) = (line ≡ length (lines text) + 1) × EndsEarly text
HasFirstParticleFault text (faults.Trailing line) = GoesOn text line
HasFirstParticleFault text (faults.Field line column) = StopsInLine text (faults.Field line column)
HasFirstParticleFault text (faults.Range line column) = StopsInLine text (faults.Range line column)
HasFirstParticleFault text (faults.DuplicateId line) = StopsInLine text (faults.DuplicateId line)
HasFirstParticleFault text faults.Memory = ⊥
