use Rattle.std.proofs.Common.{◌≡◌, ℕ, ◌+◌, ◌-◌, ◌<◌, length, get_or, drop, ◌∙◌, ap, arith}
use Rattle.std.proofs.lemmas.List.{get_or-take, length-take}
use Rattle.std.proofs.lemmas.Grind.{get_or_after_one}
use Rattle.pf_geom.specs.Bounds.{box_round}
use Rattle.pf_model.specs.Particle.{Particle}
use Rattle.pf_model.proofs.BoxLemmas.{box_more}
use Rattle.pf_model.proofs.least_box.box_of.Goals as goal

pub loop-body-preserved : goal.loop-body-preserved
loop-body-preserved c =
    let js = c.args.bodies.now in
    let i = c.loop-body.body-index in
    let k = c.body-item.result in
    let within : i < length js - 1 = (let test = c.loop-body-test.true in let long = length-take (length js - 1) (drop 1 js) in omega arith) in
    let turned : 1 + i ≡ i + 1 = omega arith in
    let at_place : k ≡ get_or js (i + 1) k =
    c.body-item.is ∙ get_or-take (length js - 1) (drop 1 js) i k within ∙ get_or_after_one js i k ∙ ap (λ (n : ℕ). get_or js n k) turned in
    c.widen-around.ensures.value ∙ ap (λ (p : Particle). box_round c.loop-body.around p.at) c.body.view_is
    ∙ box_more js (i + 1) k c.loop-body.around (omega arith) (omega arith) at_place c.loop-body.invariant
