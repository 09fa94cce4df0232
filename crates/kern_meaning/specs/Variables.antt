-- Declarations, resolved: what the executor reads of a particle and an item.
use Rattle.std.specs.Prelude.{ℕ, Bool, ◌&&◌, List, slice_get, Option, Some, None, if◌then◌else◌}
use Rattle.kern_tree.specs.declared.kernel.Decl.{Decl}
use Rattle.kern_tree.specs.declared.kernel.DeclKind.{DeclKind}
use Rattle.kern_tree.specs.declared.kernel.DeclKind.TheVariants as declared_as
use Rattle.kern_tree.specs.declared.kernel.Kind.{Kind}
use Rattle.pf_model.specs.declared.field.Field.{Field}
use Rattle.pf_model.specs.Fields.{field_of_particle, field_of_source, along_each_axis}
use Rattle.pf_model.specs.Particle.{Particle}
use Rattle.pf_model.specs.Totals.{Source}
use Rattle.kern_meaning.specs.declared.value.Value.{Value}
use Rattle.kern_meaning.specs.declared.value.Value.TheVariants as values
use Rattle.kern_meaning.specs.declared.variable.Variable.{Variable}
use Rattle.kern_meaning.specs.declared.variable.Variable.TheVariants as variables
pub use Rattle.kern_types.specs.Declarations.{fits_scale}
pub use Rattle.kern_meaning.specs.Names.{field_named, particle_has, source_has, fits, scale_of}
pub use Rattle.kern_meaning.specs.Values.{value_of_kind}

-- a variable of this kind and scale of a field, by who has it
abbrev pub resolved_field : (Field → Kind → ℕ → Variable) → Kind → ℕ → (Field → Bool) → Option Field → Variable
resolved_field make kind scale has None = variables.Nothing
resolved_field make kind scale has (Some of) =
    if has of && fits kind scale of then make of kind scale else variables.Nothing

abbrev pub resolved : DeclKind → Variable
resolved (declared_as.Epi kind scale field) =
    resolved_field (λ of k s. variables.Particle of k s) kind scale particle_has (field_named field)
resolved (declared_as.Epj kind scale field) =
    resolved_field (λ of k s. variables.Item of k s) kind scale source_has (field_named field)
resolved (declared_as.Param scale mantissa) = variables.Constant mantissa scale
resolved (declared_as.Force kind scale combine) = variables.Nothing

-- what a name is resolved to, by its declaration
abbrev pub variable_of : Option Decl → Variable
variable_of None = variables.Nothing
variable_of (Some decl) = resolved decl.what

-- the value of what a declaration is resolved to
abbrev pub value_of_variable : Particle → Source → Variable → Option Value
value_of_variable i j (variables.Particle of kind scale) =
    Some (value_of_kind kind scale (along_each_axis (field_of_particle of i)))
value_of_variable i j (variables.Item of kind scale) =
    Some (value_of_kind kind scale (along_each_axis (field_of_source of j)))
value_of_variable i j (variables.Constant mantissa scale) = Some (values.Num mantissa scale)
value_of_variable i j variables.Nothing = None

abbrev pub value_if_any : Particle → Source → Option Variable → Option Value
value_if_any i j None = None
value_if_any i j (Some variable) = value_of_variable i j variable

-- the value with which the name of this number begins, where these are what the names are declared as
abbrev pub started_at : Particle → Source → List Variable → ℕ → Option Value
started_at i j declared k = value_if_any i j (slice_get declared k)
