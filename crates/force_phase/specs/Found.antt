-- What the groups finished so far gave: forces, or faults of which the least is kept.
use Rattle.std.specs.Prelude.{◌≡◌, ◌<◌, ℤ, List, [], ◌++◌, Option, Some, None, map, nat_lt, nat_le, if◌then◌else◌, AllPairs, IsPermutation}
use Rattle.std.specs.List.{zip}
use Rattle.order_laws.specs.Order.{in_order_once}
use Rattle.pf_model.specs.Particle.{Particle}
use Rattle.run_model.specs.declared.fault.Fault.{Fault}
use Rattle.force_phase.specs.declared.phase.IdRow.{IdRow}
use Rattle.run_model.specs.declared.fault.PhaseFault.{PhaseFault}
use Rattle.run_model.specs.declared.fault.PhaseFault.TheVariants.{Numeric, Memory}

-- the forces on those without a fault, in the order of their groups, and the least fault by id
pub record FoundSoFar : Type 0 where
  pub rows : List IdRow
  pub least : Option Fault

-- before the first group
abbrev pub nothing : FoundSoFar
nothing = record { rows = []; least = None }

-- the fault of the lesser id
abbrev pub lesser : Option Fault → Fault → Fault
lesser None fault = fault
lesser (Some earlier) fault = if nat_le earlier.id fault.id then earlier else fault

-- the rows of particles, which stand in the same order, under their ids
abbrev pub under_ids : List Particle → List (List ℤ) → List IdRow
under_ids bodies rows = map (λ both. record { id = both.0.id; row = both.1 }) (zip bodies rows)

-- the forces on one group more
abbrev pub with_rows : FoundSoFar → List Particle → List (List ℤ) → FoundSoFar
with_rows found bodies rows = record found { rows = found.rows ++ under_ids bodies rows }

-- or its least fault
abbrev pub with_fault : FoundSoFar → Fault → FoundSoFar
with_fault found fault = record found { least = Some (lesser found.least fault) }

-- the least of the faults of two
abbrev pub least_of_two : Option Fault → Option Fault → Option Fault
least_of_two least None = least
least_of_two least (Some fault) = Some (lesser least fault)

-- what some groups gave, and what others did after them
abbrev pub of_both : FoundSoFar → FoundSoFar → FoundSoFar
of_both found other = record { rows = found.rows ++ other.rows; least = least_of_two found.least other.least }

-- the rows, in an order in which ids ascend
pub record AreInOrderOfId (rows sorted : List IdRow) : Type 0 where
  pub same : IsPermutation rows sorted
  pub in_order : AllPairs (λ r s. r.id < s.id) sorted

-- rows by ascending id
abbrev pub in_order_of_id : List IdRow → List IdRow
in_order_of_id rows = in_order_once (λ r s. nat_lt r.id s.id) rows

-- the stop by the least fault
abbrev pub IsLeastOf : Option Fault → PhaseFault → Type 0
IsLeastOf least (Numeric fault) = least ≡ Some fault
IsLeastOf least Memory = Unit {0}
