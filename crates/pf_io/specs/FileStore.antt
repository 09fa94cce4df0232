-- What a store of the system's files tells: neither contents nor that it is steady.
use Rattle.std.specs.Prelude.{Bool, false}
use Rattle.pf_io.specs.Store.{Faults, no_faults}

pub record OpenFiles : Type 0 where
  pub has_source : Bool
  pub has_sink : Bool
  pub faults : Faults

-- nothing is open, and no method has failed
abbrev pub nothing_open : OpenFiles
nothing_open = record { has_source = false; has_sink = false; faults = no_faults }
