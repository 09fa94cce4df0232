-- What is written for a name.
use Rattle.std.specs.Prelude.{ℕ, List, Option, Some, None, find, pos}
use Rattle.std.specs.Str.{bytes_eq}
use Rattle.kern_meaning.specs.Names.{field_named}
use Rattle.kern_tree.specs.declared.kernel.Decl.{Decl}
use Rattle.kern_tree.specs.declared.kernel.DeclKind.{DeclKind}
use Rattle.kern_tree.specs.declared.kernel.DeclKind.TheVariants as declared_as
use Rattle.kern_tree.specs.declared.kernel.Kind.TheVariants as kinds
use Rattle.kern_types.specs.declared.expr_type.ExprType.TheVariants as types
use Rattle.kern_types.specs.Names.{declaration}
use Rattle.lane_code.specs.declared.code.RawCode.{RawCode}
use Rattle.lane_code.specs.declared.instruction.Lane.{Lane}
use Rattle.lane_code.specs.declared.instruction.Lane.TheVariants as lanes
use Rattle.lane_codegen.specs.declared.acts.Acts.{Acts}
use Rattle.lane_codegen.specs.declared.place.Place.TheVariants.{Scaled}
use Rattle.lane_codegen.specs.declared.variable.Assigned.{Assigned}
use Rattle.lane_codegen.specs.Acts.{alike}
use Rattle.lane_codegen.specs.Writing.{Made, value_made, nothing_made}
use Rattle.pf_geom.specs.declared.axis.Axis.{Axis}
use Rattle.pf_geom.specs.declared.axis.Axis.TheVariants.{X, Y, Z}
use Rattle.pf_model.specs.declared.field.Field.{Field}
use Rattle.pf_model.specs.declared.field.Field.TheVariants as fields

-- the registers of a name, among those assigned earlier in the text
abbrev pub entry : List Assigned → List ℕ → Option Assigned
entry table name = find (λ assigned. bytes_eq assigned.name name) table

abbrev pub along_axes : (Axis → Lane) → Acts
along_axes load = record { x = load X; y = load Y; z = load Z }

-- a field of the particle; what isn't there has no value
abbrev pub particle_loads : Option Field → Acts
particle_loads None = alike (lanes.Const (pos 0))
particle_loads (Some fields.Count) = alike (lanes.Const (pos 0))
particle_loads (Some field) = along_axes (λ axis. lanes.LoadI field axis)

-- a field of the item
abbrev pub item_loads : Option Field → Acts
item_loads None = alike (lanes.Const (pos 0))
item_loads (Some fields.Vel) = alike (lanes.Const (pos 0))
item_loads (Some field) = along_axes (λ axis. lanes.LoadJ field axis)

abbrev pub declared_made : DeclKind → ℕ → RawCode → Made
declared_made (declared_as.Epi kind scale field) under w =
    value_made (types.Scaled kind scale) (particle_loads (field_named field)) under w
declared_made (declared_as.Epj kind scale field) under w =
    value_made (types.Scaled kind scale) (item_loads (field_named field)) under w
declared_made (declared_as.Param scale mantissa) under w =
    value_made (types.Scaled kinds.Num scale) (alike (lanes.Const mantissa)) under w
declared_made (declared_as.Force kind scale combine) under w = nothing_made under w

-- a name that was assigned stands in its registers
abbrev pub assigned_made : Option Assigned → ℕ → RawCode → Made
assigned_made (Some entry) under w = (Scaled entry.kind entry.scale entry.at, w)
assigned_made None under w = nothing_made under w

abbrev pub named_made : Option Decl → Option Assigned → ℕ → RawCode → Made
named_made (Some decl) assigned under w = declared_made decl.what under w
named_made None assigned under w = assigned_made assigned under w

abbrev pub name_made : List Decl → List Assigned → List ℕ → ℕ → RawCode → Made
name_made decls table name under w = named_made (declaration decls name) (entry table name) under w
