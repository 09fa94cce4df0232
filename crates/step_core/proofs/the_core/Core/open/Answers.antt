use Rattle.std.proofs.Common.{◌≡◌, sym, ◌∙◌, subst}
use Rattle.step_core.specs.Core.{CoreState, start, started}
use Rattle.step_core.specs.Plain.{IsKeptCore}
use Rattle.step_core.proofs.CoreLemmas.{kept_at_start}
use Rattle.step_core.proofs.the_core.Core.open.Goals as goal

pub invariant_of-result : goal.invariant_of-result
invariant_of-result c =
    let s = c.in_ok-scene.scene in
    let begun : c.in_ok-progress.progress ≡ start s = c.in_ok-progress.ensures ∙ (λ i. started (c.ranks.ensures.value i) (c.workers.ensures i)) in
    let P : CoreState → Type 0 = λ v. IsKeptCore s v c.in_ok-lists.lists.items in
    subst P (sym begun) (kept_at_start s c.in_ok-lists.lists.items c.ranks.ensures.division c.ranks.ensures.settings c.in_ok-lists.ensures)
