-- The particles that a text spells, or its first fault in the order of the text.
use Rattle.std.specs.Prelude.{◌≡◌, ℕ, zero, suc, Bool, false, ◌&&◌, ◌==◌, nat_eq, ◌⊎◌, Option, Some, None, if◌then◌else◌, ℤ, List, [], ◌∷◌, ◌++◌, length, codes, Result, Ok, Err}
use Rattle.std.specs.List.{list_any}
use Rattle.std.specs.Cmp.Lexicographic.{pointwise}
use Rattle.std.specs.Option.{option_map_or}
use Rattle.pf_model.specs.declared.limits.TheConstants.{MOST_PARTICLES}
use Rattle.pf_model.specs.Particle.{Particle}
use Rattle.text_lines.specs.Lines.{FieldLine, lines, field_lines}
use Rattle.text_lines.specs.Numbers.{digits_in, integer_in}
use Rattle.text_lines.specs.declared.number.NumberFault.{NumberFault}
use Rattle.text_lines.specs.declared.number.NumberFault.TheVariants.{NoNumber, OutOfRange}
use Rattle.particle_file.specs.Columns.{columns, particle_of}
use Rattle.particle_file.specs.declared.columns.Limits.{Limits}
use Rattle.particle_file.specs.declared.fault.PartFault.{PartFault}
use Rattle.particle_file.specs.declared.fault.PartFault.TheVariants as faults

-- what comes next is read only where nothing before it is a fault
infixl 10 ◌>>=◌
abbrev pub ◌>>=◌ : {A B : Type 0} → Result A PartFault → (A → Result B PartFault) → Result B PartFault
(Ok x) >>= next = next x
(Err fault) >>= next = Err fault

-- a number that was read, or the fault that it is none, or that it is past its limits
abbrev pub number_or : {A : Type 0} → PartFault → PartFault → Result A NumberFault → Result A PartFault
number_or none outside (Ok n) = Ok n
number_or none outside (Err NoNumber) = Err none
number_or none outside (Err OutOfRange) = Err outside

-- a number before those that follow, where these are read
abbrev pub with_first : ℤ → Result (List ℤ) PartFault → Result (List ℤ) PartFault
with_first n (Ok ns) = Ok (n ∷ ns)
with_first n (Err fault) = Err fault

-- The fields of a line from a column on, whose columns have these limits: each is a number within its
-- limits, and there are as many fields as columns.
abbrev pub numbers_in : ℕ → ℕ → List Limits → List (List ℕ) → Result (List ℤ) PartFault
numbers_in line column [] [] = Ok []
numbers_in line column [] (field ∷ fields) = Err (faults.Field line column)
numbers_in line column (limits ∷ more) [] = Err (faults.Field line column)
numbers_in line column (limits ∷ more) (field ∷ fields) =
    number_or (faults.Field line column) (faults.Range line column) (integer_in limits.least limits.most field) >>= λ n.
    with_first n (numbers_in line (suc column) more fields)

-- the particle of a line, which none of the particles before it may have the id of
abbrev pub particle_in : List Particle → FieldLine → Result Particle PartFault
particle_in before line =
    numbers_in line.number 1 columns line.fields >>= λ ns.
    (if list_any (λ p. p.id == (particle_of ns).id) before
    then Err (faults.DuplicateId line.number)
    else Ok (particle_of ns))

-- after these particles as many as are due, each in a line; the text has `count` lines in all
abbrev pub particles_read : ℕ → ℕ → List Particle → List FieldLine → Result (List Particle) PartFault
particles_read count zero before [] = Ok before
particles_read count zero before (line ∷ lines) = Err (faults.Trailing line.number)
particles_read count (suc due) before [] = Err (faults.Short (suc count))
particles_read count (suc due) before (line ∷ lines) =
    particle_in before line >>= λ p. particles_read count due (before ++ p ∷ []) lines

-- a line with just these two fields, if it has no more
abbrev pub two_of : List (List ℕ) → Option (List ℕ × List ℕ)
two_of (key ∷ value ∷ []) = Some (key, value)
two_of other = None

-- `particles` and `1`
abbrev pub is_header : List (List ℕ) → Bool
is_header fields =
    option_map_or (λ p. pointwise nat_eq p.0 (codes "particles") && pointwise nat_eq p.1 (codes "1"))
    (two_of fields) false

-- `count` and a run of digits, at most 65,536
abbrev pub count_in : List (List ℕ) → Result ℕ PartFault
count_in fields =
    option_map_or
    (λ p. if pointwise nat_eq p.0 (codes "count")
    then number_or faults.Count faults.TooMany (digits_in 0 MOST_PARTICLES p.1)
    else Err faults.Count)
    (two_of fields) (Err faults.Count)

-- a count, and as many particles; the text has `count` lines in all
abbrev pub counted_in : ℕ → List FieldLine → Result (List Particle) PartFault
counted_in count [] = Err faults.Count
counted_in count (line ∷ lines) = count_in line.fields >>= λ due. particles_read count due [] lines

-- a header, a count, and as many particles
abbrev pub reading_of : ℕ → List FieldLine → Result (List Particle) PartFault
reading_of count [] = Err faults.Header
reading_of count (header ∷ lines) = if is_header header.fields then counted_in count lines else Err faults.Header

unfoldable pub reading : List ℕ → Result (List Particle) PartFault
reading text = reading_of (length (lines text)) (field_lines text)

-- what a call answered is this reading, unless memory ran out
abbrev pub GivesParticlesUnlessMemory : {A : Type 0} → Result A PartFault → Result A PartFault → Type 0
GivesParticlesUnlessMemory (Ok x) read = read ≡ Ok x
GivesParticlesUnlessMemory (Err fault) read = (fault ≡ faults.Memory) ⊎ (read ≡ Err fault)
