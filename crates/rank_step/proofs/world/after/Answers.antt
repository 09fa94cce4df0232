use Rattle.std.proofs.Common.{◌∙◌}
use Rattle.rank_step.specs.Told.{text_with}
use Rattle.rank_step.proofs.StepLemmas.{steps_on}
use Rattle.rank_step.proofs.world.after.Goals as goal

pub returns-clause-ok : goal.returns-clause-ok
returns-clause-ok c u follows particles reaches =
    steps_on c.now_laws.ensures c.args.course u c.args.due c.args.taken.bodies.items c.args.taken.counts.items c.args.taken.last c.in_ok-text.text follows particles reaches c.requires.sound
    (c.in_ok-text.ensures ∙ (λ i. text_with c.args.due c.args.taken.counts.items (c.deref.ensures.value i) (c.deref-2.ensures.value i)))
