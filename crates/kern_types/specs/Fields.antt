-- The fields that a declaration can name.
use Rattle.std.specs.Prelude.{ℕ, Bool, true, false, List, [], ◌∷◌, Option, Some, None, codes, find, if◌then◌else◌}
use Rattle.std.specs.Option.{option_map}
use Rattle.std.specs.Str.{bytes_eq}
use Rattle.kern_tree.specs.declared.kernel.Kind.{Kind}
use Rattle.kern_tree.specs.declared.kernel.Kind.TheVariants as kinds
use Rattle.kern_types.specs.declared.fields.Field.{Field}

-- whether the particle and the item have it, its kind, and its scale where that isn't as declared
abbrev pub field : Bool → Bool → Kind → Option ℕ → Field
field epi epj kind scale = record { epi = epi; epj = epj; kind = kind; scale = scale }

abbrev pub fields : List (List ℕ × Field)
fields =
    (codes "pos", field true true kinds.Vec3 (Some 0))
    ∷ (codes "vel", field true false kinds.Vec3 (Some 16))
    ∷ (codes "mass", field true true kinds.Num (Some 0))
    ∷ (codes "c0", field true true kinds.Num None)
    ∷ (codes "c1", field true true kinds.Num None)
    ∷ (codes "c2", field true true kinds.Num None)
    ∷ (codes "c3", field true true kinds.Num None)
    ∷ (codes "c4", field true true kinds.Num None)
    ∷ (codes "c5", field true true kinds.Num None)
    ∷ (codes "c6", field true true kinds.Num None)
    ∷ (codes "c7", field true true kinds.Num None)
    ∷ (codes "count", field false true kinds.Num (Some 0))
    ∷ []

abbrev pub field_called : List ℕ → Option Field
field_called name = option_map (λ row. row.1) (find (λ row. bytes_eq row.0 name) fields)

-- the field, where the test holds for it
abbrev pub there : (Field → Bool) → Option Field → Option Field
there test None = None
there test (Some field) = if test field then Some field else None

-- the field of this name that the particle has
abbrev pub particle_field : List ℕ → Option Field
particle_field name = there (λ field. field.epi) (field_called name)

-- the field of this name that the item has
abbrev pub item_field : List ℕ → Option Field
item_field name = there (λ field. field.epj) (field_called name)
