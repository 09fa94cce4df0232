use Rattle.std.proofs.Common.{◌∙◌, ap}
use Rattle.pf_model.specs.Reuse.{as_in}
use Rattle.pf_model.specs.Particle.{Particle}
use Rattle.pf_model.specs.Domains.{owner}
use Rattle.run_model.specs.Setup.{Setup}
use Rattle.run_model.specs.Run.{WithForces}
use Rattle.plain_run.proofs.CountLemmas.{row_is}
use Rattle.plain_run.proofs.run.body_line.Goals as goal

pub returns : goal.returns
returns c =
    let built = c.args.built.now in
    let body = ap (λ (b : WithForces). b.body) c.forced.view_is in
    let at = ap (λ (p : Particle). p.at) (c.there.view_is ∙ c.found-there.ensures) ∙ ap (λ (p : Particle). (as_in built p).at) body in
    let grid = ap (λ (u : Setup). u.grid) c.run.view_is in
    let owned = c.in_ok-owner.ensures ∙ (λ i. owner (grid i) built (at i)) in
    let given = c.in_ok-copied.ensures ∙ ap (λ (b : WithForces). b.forces) c.forced.view_is in
    c.line.ensures ∙ row_is c.args.run.now built c.args.forced.now _ _ _ body owned given
