use Rattle.std.proofs.Common.{◌≡◌, take}
use Rattle.pf_model.specs.declared.entry.Entry.{Entry}
use Rattle.pf_model.specs.Sufficiency.{moment_together}
use Rattle.list_reuse.specs.Renewing.{values_at}
use Rattle.list_reuse.proofs.values.moment_of_values.Given as goal

abbrev pub invariant-loop-place : goal.invariant-loop-place
invariant-loop-place l = (d : Entry) → l.sum ≡ moment_together (values_at l.values d (take l.place-index l.places))
