-- A code that means a kernel.
use Rattle.std.specs.Prelude.{◌≡◌, ℕ, ◌+◌, List, [], ◌∷◌, ◌++◌, Option, Some, None, Ok, Err}
use Rattle.kern_meaning.specs.declared.value.Value.{Value}
use Rattle.kern_meaning.specs.declared.value.Value.TheVariants as values
use Rattle.kern_meaning.specs.Pair.{OrPairStop, pair_of}
use Rattle.kern_meaning.specs.Values.{x_of, y_of, z_of}
use Rattle.kern_tree.specs.declared.kernel.Kernel.{Kernel}
use Rattle.lane_code.specs.declared.code.RawCode.{RawCode}
use Rattle.lane_code.specs.Outcome.{Given, lane_answer}
use Rattle.pf_geom.specs.declared.axis.Axis.{Axis}
use Rattle.pf_geom.specs.declared.axis.Axis.TheVariants.{X, Y, Z}
use Rattle.pf_model.specs.Particle.{Particle}
use Rattle.pf_model.specs.Totals.{Source}
use Rattle.std.specs.Prelude.{ℤ}

abbrev pub gift : ℕ → Axis → ℤ → Given
gift slot axis number = record { slot = slot; axis = axis; number = number }

-- the contributions to a slot of what its `+=` gave: one of a num, three of a vec
abbrev pub gifts_of : ℕ → Option Value → List Given
gifts_of slot (Some (values.Num a scale)) = gift slot X a ∷ []
gifts_of slot (Some (values.Vec3 a scale)) = gift slot X (x_of a) ∷ gift slot Y (y_of a) ∷ gift slot Z (z_of a) ∷ []
gifts_of slot _ = []

-- those of all slots, of which the first has this number
abbrev pub gifts_from : ℕ → List (Option Value) → List Given
gifts_from slot [] = []
gifts_from slot (given ∷ others) = gifts_of slot given ++ gifts_from (slot + 1) others

-- what a pair gives in a lane: its contributions in text order, or none where it has a fault
abbrev pub as_lane : OrPairStop (List (Option Value)) → Option (List Given)
as_lane (Ok given) = Some (gifts_from 0 given)
as_lane (Err stop) = None

-- For every particle and item the code faults in the item's lane exactly where the pair has a fault, and else gives
-- the pair's contributions.
abbrev pub Means : Kernel → RawCode → Type 0
Means kernel code = (i : Particle) (j : Source) → lane_answer code i j ≡ as_lane (pair_of kernel i j)
