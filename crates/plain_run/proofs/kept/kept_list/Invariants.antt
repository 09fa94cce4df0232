use Rattle.std.proofs.Common.{◌≡◌, map, take}
use Rattle.pf_model.specs.Interaction.{members_of}
use Rattle.pf_model.specs.Reuse.{present_entry}
use Rattle.plain_run.proofs.kept.kept_list.Given as goal

abbrev pub invariant-loop-entry : goal.invariant-loop-entry
invariant-loop-entry l = l.kept.items ≡ map (λ e. present_entry l.now (members_of l.theta l.around l.built e) e) (take l.entry-index l.entry-items)
