-- The checks of declarations, in the order in which they are written.
use Rattle.std.specs.Prelude.{ℕ, Bool, true, false, ◌==◌, List, [], ◌∷◌, ◌++◌, Option, Some, None, Err, codes}
use Rattle.std.specs.List.{flat_map}
use Rattle.kern_tree.specs.declared.kernel.Combine.{Combine}
use Rattle.kern_tree.specs.declared.kernel.Combine.TheVariants as combines
use Rattle.kern_tree.specs.declared.kernel.Decl.{Decl}
use Rattle.kern_tree.specs.declared.kernel.DeclKind.{DeclKind}
use Rattle.kern_tree.specs.declared.kernel.DeclKind.TheVariants as declared_as
use Rattle.kern_tree.specs.declared.kernel.Kind.{Kind}
use Rattle.kern_tree.specs.declared.kernel.Kind.TheVariants as kinds
use Rattle.kern_types.specs.declared.expr_type.ExprType.{ExprType}
use Rattle.kern_types.specs.declared.expr_type.ExprType.TheVariants.{Scaled}
use Rattle.kern_types.specs.declared.fault.TypeFault.TheVariants as faults
use Rattle.kern_types.specs.declared.fields.Field.{Field}
use Rattle.kern_types.specs.declared.force_var.ForceVar.{ForceVar}
use Rattle.kern_types.specs.Fields.{particle_field, item_field}
use Rattle.kern_types.specs.Names.{declaration}
use Rattle.kern_types.specs.Steps.{◌>>◌, Check, pass, unless}

abbrev pub same_kind : Kind → Kind → Bool
same_kind kinds.Num kinds.Num = true
same_kind kinds.Vec3 kinds.Vec3 = true
same_kind _ _ = false

-- the scale, where the field has one of its own
abbrev pub fits_scale : Option ℕ → ℕ → Bool
fits_scale None scale = true
fits_scale (Some own) scale = own == scale

-- a variable of this field
abbrev pub field_check : ℕ → Kind → ℕ → Option Field → Check
field_check place kind scale None = Err (faults.Unknown place)
field_check place kind scale (Some field) = do
  unless (same_kind field.kind kind) (faults.Kind place)
  unless (fits_scale field.scale scale) (faults.Scale place)

-- a vec can only be summed
abbrev pub force_check : ℕ → Kind → Combine → Check
force_check place kinds.Num combine = pass
force_check place kinds.Vec3 combines.Sum = pass
force_check place kinds.Vec3 _ = Err (faults.Kind place)

abbrev pub what_check : ℕ → DeclKind → Check
what_check place (declared_as.Epi kind scale field) = field_check place kind scale (particle_field field)
what_check place (declared_as.Epj kind scale field) = field_check place kind scale (item_field field)
what_check place (declared_as.Force kind scale combine) = force_check place kind combine
what_check place (declared_as.Param scale value) = pass

-- a name that no earlier declaration has
abbrev pub new_check : ℕ → Option Decl → Check
new_check place None = pass
new_check place (Some decl) = Err (faults.Twice place)

-- a declaration after these
abbrev pub decl_check : List Decl → Decl → Check
decl_check earlier decl = do
  new_check decl.place (declaration earlier decl.name)
  what_check decl.place decl.what

-- these declarations, after the earlier ones
abbrev pub decls_check : List Decl → List Decl → Check
decls_check earlier [] = pass
decls_check earlier (decl ∷ decls) = do
  decl_check earlier decl
  decls_check (earlier ++ decl ∷ []) decls

-- FORCE vec S16, sum
abbrev pub is_acceleration : DeclKind → Bool
is_acceleration (declared_as.Force kinds.Vec3 scale combines.Sum) = scale == 16
is_acceleration _ = false

-- by the declaration of `acc`
abbrev pub acc_check : Option Decl → Check
acc_check None = Err (faults.NoAcc 0)
acc_check (Some decl) = unless (is_acceleration decl.what) (faults.NoAcc decl.place)

-- all declarations of a kernel
abbrev pub all_decls_check : List Decl → Check
all_decls_check decls = do
  decls_check [] decls
  acc_check (declaration decls (codes "acc"))

-- the FORCE variable that a name is declared as
abbrev pub force_as : List ℕ → DeclKind → List ForceVar
force_as name (declared_as.Force kind scale combine) =
    record { name = name; kind = kind; scale = scale; combine = combine } ∷ []
force_as name _ = []

-- the FORCE variables in order of declaration
abbrev pub forces_of : List Decl → List ForceVar
forces_of decls = flat_map (λ decl. force_as decl.name decl.what) decls

abbrev pub declared_force : DeclKind → Option ExprType
declared_force (declared_as.Force kind scale combine) = Some (Scaled kind scale)
declared_force _ = None

-- the kind and the scale of a FORCE variable
abbrev pub force_type : Option Decl → Option ExprType
force_type None = None
force_type (Some decl) = declared_force decl.what
