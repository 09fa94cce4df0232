use Rattle.std.proofs.Common.{◌∙◌}
use Rattle.step_core.specs.declared.event.Event.TheVariants.{Take}
use Rattle.step_core.specs.Core.{after, partial_lists}
use Rattle.step_core.proofs.ListingLemmas.{take_next}
use Rattle.step_core.proofs.scene.Scene.lists_after_take.Goals as goal

pub loop-place-preserved : goal.loop-place-preserved
loop-place-preserved c =
    c.in_ok-push.ensures.items
    ∙ take_next (partial_lists c.args.self.now (after c.args.progress.now (Take c.args.rank))) c.loop-place.new.items c.loop-place.place c.in_ok-list_after_take.field-0 c.loop-place.invariant c.in_ok-list_after_take.ensures
