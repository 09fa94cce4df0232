use Rattle.std.proofs.Common.{Bool, sym, ◌∙◌, subst}
use Rattle.step_core.specs.declared.event.Event.{Event}
use Rattle.step_core.specs.declared.event.Event.TheVariants.{Put, Claim, Finish}
use Rattle.step_core.specs.Core.{StandingCore, CoreState, is_legal}
use Rattle.step_core.specs.Plain.{IsKeptCore}
use Rattle.step_core.proofs.CoreLemmas.{put_within, claim_within, claim_few, kept_more, kept_either}
use Rattle.step_core.proofs.the_core.Core.apply.Goals as goal

abbrev legal_in : StandingCore → Event → Bool
legal_in v e = is_legal v.settings v.state e

pub put-requires : goal.put-requires
put-requires c =
    let legal = (λ i. legal_in (c.self.view_is i) (sym c.in-Put.is i)) ∙ c.requires in
    put_within c.self.inside.scene c.self.inside.progress c.self.inside.lists.items c.in-Put.src c.in-Put.dst c.self.invariant legal

pub invariant_of-self : goal.invariant_of-self
invariant_of-self c =
    let legal = (λ i. legal_in (c.self.view_is i) (sym c.in-Put.is i)) ∙ c.requires in
    kept_either c.put.result c.self.inside.scene c.self.inside.progress c.put.new.self (Put c.in-Put.src c.in-Put.dst) c.self.inside.lists.items c.put.ensures.ok c.put.ensures.err c.self.invariant legal c.self.invariant.lists

pub claim-requires-clause-worker : goal.claim-requires-clause-worker
claim-requires-clause-worker c =
    let legal = (λ i. legal_in (c.self-in-Claim.view_is i) (sym c.in-Claim.is i)) ∙ c.requires in
    claim_within c.self-in-Claim.inside.scene c.self-in-Claim.inside.progress c.self-in-Claim.inside.lists.items c.in-Claim.worker c.self-in-Claim.invariant legal

pub claim-requires-clause-few : goal.claim-requires-clause-few
claim-requires-clause-few c =
    let legal = (λ i. legal_in (c.self-in-Claim.view_is i) (sym c.in-Claim.is i)) ∙ c.requires in
    claim_few c.groups_are_few.ensures c.self-in-Claim.inside.scene c.self-in-Claim.inside.progress c.self-in-Claim.inside.lists.items c.in-Claim.worker c.self-in-Claim.invariant legal

pub invariant_of-self-in-Claim : goal.invariant_of-self-in-Claim
invariant_of-self-in-Claim c =
    let legal = (λ i. legal_in (c.self-in-Claim.view_is i) (sym c.in-Claim.is i)) ∙ c.requires in
    let P : CoreState → Type 0 = λ v. IsKeptCore c.self-in-Claim.inside.scene v c.self-in-Claim.inside.lists.items in
    subst P (sym c.claim.ensures)
    (kept_more c.self-in-Claim.inside.scene c.self-in-Claim.inside.progress (Claim c.in-Claim.worker) c.self-in-Claim.inside.lists.items c.self-in-Claim.inside.lists.items c.self-in-Claim.invariant legal c.self-in-Claim.invariant.lists)

pub invariant_of-self-in-Finish : goal.invariant_of-self-in-Finish
invariant_of-self-in-Finish c =
    let legal = (λ i. legal_in (c.self-in-Finish.view_is i) (sym c.in-Finish.is i)) ∙ c.requires in
    kept_either c.finish.result c.self-in-Finish.inside.scene c.self-in-Finish.inside.progress c.finish.new.self (Finish c.in-Finish.worker) c.self-in-Finish.inside.lists.items c.finish.ensures.ok c.finish.ensures.err c.self-in-Finish.invariant legal c.self-in-Finish.invariant.lists
