use Rattle.std.proofs.Common.{◌≡◌, take}
use Rattle.pf_model.specs.Sums.{moment_of}
use Rattle.plain_run.proofs.kept.moment_of.Given as goal

abbrev pub invariant-loop-body : goal.invariant-loop-body
invariant-loop-body l = l.moment ≡ moment_of (take l.body-index l.bodies)
