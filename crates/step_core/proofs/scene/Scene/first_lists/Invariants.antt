use Rattle.std.proofs.Common.{◌≡◌, [], map, take}
use Rattle.step_core.specs.Plain.{list_at}
use Rattle.step_core.proofs.scene.Scene.first_lists.Given as goal

abbrev pub invariant-loop-site : goal.invariant-loop-site
invariant-loop-site l = l.lists.items ≡ map (list_at l.self.theta l.self.grid l.self.bodies []) (take l.site-index l.site-items)
