-- The numbers of a particle's FORCE variables from their tallies, and the fault of a sum.
use Rattle.std.specs.Prelude.{ℕ, ◌+◌, ℤ, List, [], ◌∷◌, ◌++◌, Option, Some, None, if◌then◌else◌}
use Rattle.std.specs.List.{list_all}
use Rattle.pf_num.specs.Exact.{is_i64}
use Rattle.kern_tree.specs.declared.kernel.Kind.{Kind}
use Rattle.kern_tree.specs.declared.kernel.Kind.TheVariants.{Num, Vec3}
use Rattle.kern_types.specs.declared.force_var.ForceVar.{ForceVar}
use Rattle.run_model.specs.declared.fault.What.{What}
use Rattle.run_model.specs.declared.fault.What.TheVariants as what
use Rattle.force_phase.specs.Tally.{Tallied}

-- of a num one, of a vec three
abbrev pub numbers_of : Kind → Tallied → List ℤ
numbers_of Num t = t.x ∷ []
numbers_of Vec3 t = t.x ∷ t.y ∷ t.z ∷ []

-- of all variables, in order
abbrev pub row_of : List ForceVar → List Tallied → List ℤ
row_of [] tallies = []
row_of (v ∷ forces) [] = []
row_of (v ∷ forces) (t ∷ tallies) = numbers_of v.kind t ++ row_of forces tallies

-- the first variable, counted from n, of whose numbers one isn't an i64
abbrev pub row_fault : ℕ → List ForceVar → List Tallied → Option What
row_fault n [] tallies = None
row_fault n (v ∷ forces) [] = None
row_fault n (v ∷ forces) (t ∷ tallies) =
    if list_all is_i64 (numbers_of v.kind t) then row_fault (n + 1) forces tallies else Some (what.Sum n)
