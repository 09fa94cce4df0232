-- The answer of a move.
use Rattle.std.specs.Prelude.{Option, Some, None, Result, Ok, Err}
use Rattle.pf_geom.specs.declared.axis.Axis.{Axis}
use Rattle.leapfrog.specs.declared.fault.MoveFault.{MoveFault}

-- refused where an axis fails
abbrev pub refusal : (Axis → MoveFault) → Option Axis → Result (Unit {0}) MoveFault
refusal fault None = Ok tt
refusal fault (Some axis) = Err (fault axis)
