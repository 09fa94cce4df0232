-- The forces on one particle by a list, from what its pairs give.
use Rattle.std.specs.Prelude.{◌≡◌, ℕ, ℤ, pos, Bool, true, false, if◌then◌else◌}
use Rattle.std.specs.Prelude.{List, [], ◌∷◌, Option, Some, None, map, slice_index_or}
use Rattle.std.specs.List.{list_all, flat_map, enumerate_from}
use Rattle.std.specs.Str.{bytes_eq}
use Rattle.pf_geom.specs.declared.edge.Edge.{Edge}
use Rattle.pf_model.specs.declared.entry.Entry.{Entry}
use Rattle.pf_model.specs.Particle.{Particle}
use Rattle.pf_num.specs.Exact.{is_i64}
use Rattle.kern_tree.specs.declared.kernel.Combine.{Combine}
use Rattle.kern_tree.specs.declared.kernel.Kernel.{Kernel}
use Rattle.kern_tree.specs.declared.kernel.Kind.{Kind}
use Rattle.kern_tree.specs.declared.kernel.Kind.TheVariants.{Num, Vec3}
use Rattle.kern_types.specs.declared.force_var.ForceVar.{ForceVar}
use Rattle.kern_meaning.specs.declared.value.Value.{Value}
use Rattle.kern_meaning.specs.Pair.{OrPairStop}
use Rattle.run_model.specs.declared.fault.What.{What}
use Rattle.run_model.specs.declared.fault.What.TheVariants as what
use Rattle.kern_types.specs.Declarations.{forces_of}
use Rattle.run_model.specs.Force.{combined, is_other, pair_with, force_over, first_given, sum_fault}
use Rattle.plain_run.specs.declared.forces.ForceStop.{ForceStop}
use Rattle.plain_run.specs.declared.forces.ForceStop.TheVariants.{Fault, Memory}

-- this is the first fault, or memory ran out
abbrev pub IsForceStop : Option What → ForceStop → Type 0
IsForceStop first (Fault fault) = first ≡ Some fault
IsForceStop first Memory = Unit {0}

-- what was given along an axis, combined
abbrev pub numbers_along : Combine → List (List ℤ) → ℕ → ℤ
numbers_along combine values axis = combined combine (map (λ v. slice_index_or v axis (pos 0)) values)

-- of a num one number, of a vec three
abbrev pub axis_numbers : Kind → ℤ → ℤ → ℤ → List ℤ
axis_numbers Num x y z = x ∷ []
axis_numbers Vec3 x y z = x ∷ y ∷ z ∷ []

-- a FORCE variable, from what it was given
abbrev pub force_of : ForceVar → List (List ℤ) → List ℤ
force_of v values =
    axis_numbers v.kind (numbers_along v.combine values 0) (numbers_along v.combine values 1)
    (numbers_along v.combine values 2)

-- the variable of this number has a number that isn't an i64, or memory ran out
abbrev pub IsSumStop : ForceVar → ℕ → List (List ℤ) → ForceStop → Type 0
IsSumStop v number values (Fault fault) = (list_all is_i64 (force_of v values) ≡ false) × (fault ≡ what.Sum number)
IsSumStop v number values Memory = Unit {0}

-- whether the `+=` of this target gives to the variable of this name
abbrev pub gives_to : Option (List ℕ) → List ℕ → Bool
gives_to None name = false
gives_to (Some target) name = bytes_eq target name

-- what one `+=` gave, if anything, where it gives to the variable
abbrev pub slot_numbers : Bool → Option (List ℤ) → List (List ℤ)
slot_numbers true (Some numbers) = numbers ∷ []
slot_numbers true None = []
slot_numbers false numbers = []

-- the pair of a particle with an entry, and none with itself
abbrev pub pairs_with : Edge → Kernel → Particle → Entry → List (OrPairStop (List (Option Value)))
pairs_with edge kernel i e = if is_other i e then pair_with edge kernel i e ∷ [] else []

-- the numbers of all FORCE variables over these pairs
abbrev pub row_over : Kernel → List (OrPairStop (List (Option Value))) → List ℤ
row_over kernel pairs = flat_map (force_over kernel pairs) (forces_of kernel.decls)

-- the first FORCE variable whose sum isn't an i64
abbrev pub first_sum_fault : Kernel → List (OrPairStop (List (Option Value))) → Option What
first_sum_fault kernel pairs = first_given (sum_fault kernel pairs) (enumerate_from 1 (forces_of kernel.decls))
