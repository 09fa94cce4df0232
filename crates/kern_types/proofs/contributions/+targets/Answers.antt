use Rattle.std.proofs.lemmas.Result.{on_ok_weaker}
use Rattle.kern_types.specs.Statements.{targets_in, targets_in_act}
use Rattle.kern_types.proofs.SlotTargets.{if_targets_read, pushed}
use Rattle.kern_types.proofs.contributions.+targets.Goals as goal

pub push_targets_by-returns-in_ok-push_targets-in-If : goal.push_targets_by-returns-in_ok-push_targets-in-If
push_targets_by-returns-in_ok-push_targets-in-If t c =
    on_ok_weaker c.push_targets-in-If.result
    (pushed c.args.names.now.items c.push_targets.new.names.items c.push_targets-in-If.new.names.items (targets_in c.as_slice.result.now) (targets_in c.as_slice-in-If.result.now) (targets_in_act c.args.act.now) c.in_ok-push_targets-in-If.ensures
    (if_targets_read c.args.act.now c.in-If.field-0 c.in-If.body c.in-If.others c.as_slice.result.now c.as_slice-in-If.result.now c.in-If.is c.as_slice.ensures c.as_slice-in-If.ensures))
    c.push_targets-in-If.ensures
