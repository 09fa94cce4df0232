use Rattle.std.proofs.Common.{sym, ◌∙◌, ap, subst}
use Rattle.step_core.specs.declared.event.Event.TheVariants.{Take}
use Rattle.step_core.specs.Core.{StandingCore, CoreState, is_legal}
use Rattle.step_core.specs.Plain.{IsKeptCore}
use Rattle.step_core.proofs.CoreLemmas.{take_within, kept_more}
use Rattle.step_core.proofs.the_core.Core.take.Goals as goal

pub lists_after_take-requires-clause-rank : goal.lists_after_take-requires-clause-rank
lists_after_take-requires-clause-rank c =
    let legal = ap (λ (v : StandingCore). is_legal v.settings v.state (Take c.args.rank)) c.self.view_is ∙ c.requires in
    take_within c.self.inside.scene c.self.inside.progress c.self.inside.lists.items c.args.rank c.self.invariant legal

pub take-requires-clause-rank : goal.take-requires-clause-rank
take-requires-clause-rank c =
    let legal = ap (λ (v : StandingCore). is_legal v.settings v.state (Take c.args.rank)) c.self.view_is ∙ c.requires in
    take_within c.self.inside.scene c.self.inside.progress c.self.inside.lists.items c.args.rank c.self.invariant legal

pub invariant_of-self : goal.invariant_of-self
invariant_of-self c =
    let legal = ap (λ (v : StandingCore). is_legal v.settings v.state (Take c.args.rank)) c.self.view_is ∙ c.requires in
    let P : CoreState → Type 0 = λ v. IsKeptCore c.self.inside.scene v c.in_ok-lists.lists.items in
    subst P (sym c.take.ensures) (kept_more c.self.inside.scene c.self.inside.progress (Take c.args.rank) c.self.inside.lists.items c.in_ok-lists.lists.items c.self.invariant legal c.in_ok-lists.ensures)
