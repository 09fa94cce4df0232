use Rattle.std.proofs.Common.{◌≡◌, take}
use Rattle.std.specs.List.{filter}
use Rattle.pf_model.specs.Interaction.{leads_to_cell}
use Rattle.plain_run.proofs.kept.members_of_cell.Given as goal

abbrev pub invariant-loop-body : goal.invariant-loop-body
invariant-loop-body l = l.members.items ≡ filter (leads_to_cell l.theta l.around l.cell) (take l.body-index l.built)
