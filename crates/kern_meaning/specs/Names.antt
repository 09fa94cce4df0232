-- The names that have a value at a point of a pair's evaluation.
use Rattle.std.specs.Prelude.{ℕ, ℤ, Bool, true, false, ◌&&◌, List, [], ◌∷◌, Option, Some, None, codes, find, Ok, if◌then◌else◌}
use Rattle.std.specs.Option.{option_map}
use Rattle.std.specs.Str.{bytes_eq}
use Rattle.kern_tree.specs.declared.kernel.Decl.{Decl}
use Rattle.kern_tree.specs.declared.kernel.DeclKind.{DeclKind}
use Rattle.kern_tree.specs.declared.kernel.DeclKind.TheVariants as declared_as
use Rattle.kern_tree.specs.declared.kernel.Kind.{Kind}
use Rattle.kern_tree.specs.declared.kernel.Kind.TheVariants as kinds
use Rattle.kern_types.specs.Declarations.{same_kind, fits_scale}
use Rattle.kern_types.specs.Names.{declaration}
use Rattle.pf_model.specs.declared.field.Field.{Field}
use Rattle.pf_model.specs.declared.field.Field.TheVariants as field
use Rattle.pf_model.specs.Fields.{is_vector, field_of_particle, field_of_source, along_each_axis}
use Rattle.pf_model.specs.Particle.{Particle}
use Rattle.pf_model.specs.Totals.{Source}
use Rattle.kern_meaning.specs.declared.value.Value.{Value}
use Rattle.kern_meaning.specs.declared.value.Value.TheVariants as values
use Rattle.kern_meaning.specs.Stops.{OrStop, no_result}
use Rattle.kern_meaning.specs.Values.{value_of_kind}

-- ---- fields

abbrev pub fields_by_name : List (List ℕ × Field)
fields_by_name =
    (codes "pos", field.Pos)
    ∷ (codes "vel", field.Vel)
    ∷ (codes "mass", field.Mass)
    ∷ (codes "c0", field.C0)
    ∷ (codes "c1", field.C1)
    ∷ (codes "c2", field.C2)
    ∷ (codes "c3", field.C3)
    ∷ (codes "c4", field.C4)
    ∷ (codes "c5", field.C5)
    ∷ (codes "c6", field.C6)
    ∷ (codes "c7", field.C7)
    ∷ (codes "count", field.Count)
    ∷ []

-- the field of this name
abbrev pub field_named : List ℕ → Option Field
field_named name = option_map (λ row. row.1) (find (λ row. bytes_eq row.0 name) fields_by_name)

-- the scale of a field, where it isn't as declared
abbrev pub scale_of : Field → Option ℕ
scale_of field.Pos = Some 0
scale_of field.Vel = Some 16
scale_of field.Mass = Some 0
scale_of field.Count = Some 0
scale_of _ = None

abbrev pub field_kind : Field → Kind
field_kind of = if is_vector of then kinds.Vec3 else kinds.Num

abbrev pub particle_has : Field → Bool
particle_has field.Count = false
particle_has _ = true

abbrev pub source_has : Field → Bool
source_has field.Vel = false
source_has _ = true

-- whether a variable of this kind and scale can have the field
abbrev pub fits : Kind → ℕ → Field → Bool
fits kind scale of = same_kind (field_kind of) kind && fits_scale (scale_of of) scale

-- a variable of this kind and scale of a field, by who has it and by its components
abbrev pub variable_value : Kind → ℕ → (Field → Bool) → (Field → List ℤ) → Option Field → Option Value
variable_value kind scale has parts None = None
variable_value kind scale has parts (Some of) =
    if has of && fits kind scale of then Some (value_of_kind kind scale (along_each_axis (parts of))) else None

-- ---- names

-- the value of each name that has one
abbrev pub Known : Type 0
Known = List ℕ → Option Value

-- a FORCE variable has no value
abbrev pub declared_value : Particle → Source → DeclKind → Option Value
declared_value i j (declared_as.Epi kind scale field) =
    variable_value kind scale particle_has (λ of. field_of_particle of i) (field_named field)
declared_value i j (declared_as.Epj kind scale field) =
    variable_value kind scale source_has (λ of. field_of_source of j) (field_named field)
declared_value i j (declared_as.Param scale mantissa) = Some (values.Num mantissa scale)
declared_value i j (declared_as.Force kind scale combine) = None

abbrev pub value_if_declared : Particle → Source → Option Decl → Option Value
value_if_declared i j None = None
value_if_declared i j (Some decl) = declared_value i j decl.what

-- at the start of a pair, under these declarations
abbrev pub known_at_start : List Decl → Particle → Source → Known
known_at_start decls i j name = value_if_declared i j (declaration decls name)

-- after a name is assigned this value
abbrev pub with_value : Known → List ℕ → Value → Known
with_value known name value other = if bytes_eq name other then Some value else known other

-- a name without a value has no result
abbrev pub name_value : Option Value → OrStop Value
name_value None = no_result
name_value (Some value) = Ok value
