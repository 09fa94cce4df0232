use Rattle.std.proofs.Common.{◌≡◌, ◌+◌, take}
use Rattle.pf_model.specs.Group.{box_of}
use Rattle.pf_model.proofs.least_box.box_of.Given as goal

abbrev pub invariant-loop-body : goal.invariant-loop-body
invariant-loop-body l = l.around ≡ box_of (take (l.body-index + 1) l.bodies)
