use Rattle.std.proofs.Common.{rules, ◌∙◌, ap, Ok, Err}
use Rattle.std.proofs.lemmas.List.Sorted.{answers_always}
use Rattle.pf_model.specs.Particle.{Particle}
use Rattle.refresh_phase.proofs.FoundLemmas.{searched}
use Rattle.refresh_phase.proofs.present.as_in.Goals as goal

pub returns-in-Ok : goal.returns-in-Ok
returns-in-Ok c =
    c.index-now-place.is
    ∙ searched c.args.now.now c.requires c.args.body.now _ (Ok c.in-Ok.place) (ap (λ (p : Particle). p.id) c.body.view_is) c.in-Ok.ensures.bound
    (c.in-Ok.ensures.position (λ q. q.id) (answers_always _ _ _ (λ f a r g called. search rules))) c.index-now-place.result

pub returns-in-Err : goal.returns-in-Err
returns-in-Err c =
    c.body.view_is
    ∙ searched c.args.now.now c.requires c.args.body.now _ (Err c.in-Err.field-0) (ap (λ (p : Particle). p.id) c.body.view_is) c.in-Err.ensures.bound
    (c.in-Err.ensures.position (λ q. q.id) (answers_always _ _ _ (λ f a r g called. search rules)))
