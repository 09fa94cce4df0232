-- What has been given to all FORCE variables.
use Rattle.std.specs.Prelude.{◌≡◌, ◌+◌, ◌*◌, ◌^◌, ◌<◌, ◌≤◌, ℕ, List, [], ◌∷◌, All, if◌then◌else◌, unwrap_or, fold, length, map}
use Rattle.std.specs.List.{flat_map}
use Rattle.std.specs.Str.{bytes_eq}
use Rattle.pf_geom.specs.declared.axis.Axis.{Axis}
use Rattle.pf_model.specs.Particle.{Particle}
use Rattle.pf_model.specs.Totals.{Source}
use Rattle.kern_tree.specs.declared.kernel.Kernel.{Kernel}
use Rattle.kern_types.specs.declared.force_var.ForceVar.{ForceVar}
use Rattle.kern_types.specs.Declarations.{forces_of}
use Rattle.kern_types.specs.Statements.{targets_in}
use Rattle.lane_code.specs.declared.code.RawCode.{RawCode}
use Rattle.lane_code.specs.Outcome.{Given, lane_answer}
use Rattle.lane_machine.specs.Gathered.{numbers_to, total_at}
use Rattle.lane_machine.specs.Total.{Summed, AreFew, along, joined, nothing}

-- the variable of each slot, what has been added up of each variable, and of how many items
pub record Collected : Type 0 where
  pub slots : List ℕ
  pub totals : List Summed
  pub items : ℕ

-- what sums keep
pub record IsCollected (totals kept : List Summed) (items : ℕ) : Type 0 where
  pub room : length kept ≡ length totals
  pub limit : items ≤ 65536
  pub few : All (AreFew (items * 2 ^ 38)) totals

-- the number of the variable of a name, or how many there are where none has it
abbrev pub number_of_force : List ForceVar → List ℕ → ℕ
number_of_force [] name = 0
number_of_force (v ∷ vs) name = if bytes_eq v.name name then 0 else 1 + number_of_force vs name

-- sums of nothing, made for a kernel
pub record IsMadeFor (kernel : Kernel) (s : Collected) : Type 0 where
  pub slots : s.slots ≡ map (number_of_force (forces_of kernel.decls)) (targets_in kernel.body)
  pub totals : s.totals ≡ map (λ v. nothing v.combine) (forces_of kernel.decls)
  pub items : s.items ≡ 0

-- sums of nothing, with the same variables
pub record IsCleared (old new : Collected) : Type 0 where
  pub slots : new.slots ≡ old.slots
  pub items : new.items ≡ 0
  pub same_length : length new.totals ≡ length old.totals
  pub totals : (f : ℕ) → f < length old.totals → total_at new.totals f ≡ nothing (total_at old.totals f).combine

-- what a code gives for an item
abbrev pub given_for : RawCode → Particle → Source → List Given
given_for raw i j = unwrap_or (lane_answer raw i j) []

-- what a code gives for items is added or compared, exactly
pub record AddsItems (raw : RawCode) (i : Particle) (sources : List Source) (old new : Collected) : Type 0 where
  pub slots : new.slots ≡ old.slots
  pub items : new.items ≡ old.items + length sources
  pub same_length : length new.totals ≡ length old.totals
  pub combines : (f : ℕ) → (total_at new.totals f).combine ≡ (total_at old.totals f).combine
  pub totals :
      (f : ℕ) (axis : Axis) → f < length old.totals → along axis (total_at new.totals f)
      ≡ fold (joined (total_at old.totals f).combine) (along axis (total_at old.totals f))
      (flat_map (λ j. numbers_to old.slots f axis (given_for raw i j)) sources)
