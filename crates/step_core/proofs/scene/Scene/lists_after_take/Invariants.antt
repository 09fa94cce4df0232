use Rattle.std.proofs.Common.{◌≡◌, take}
use Rattle.step_core.specs.declared.event.Event.TheVariants.{Take}
use Rattle.step_core.specs.Core.{after, partial_lists}
use Rattle.step_core.proofs.scene.Scene.lists_after_take.Given as goal

abbrev pub invariant-loop-place : goal.invariant-loop-place
invariant-loop-place l = l.new.items ≡ take l.place (partial_lists l.self (after l.progress (Take l.rank)))
