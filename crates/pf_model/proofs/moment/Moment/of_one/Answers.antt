use Rattle.std.proofs.Common.{◌≡◌, ◌*◌, ◌+◌, ◌∷◌, [], length, sym, ◌∙◌, ap, arith}
use Rattle.pf_model.specs.declared.body.Body.TheInside.{Inside}
use Rattle.pf_model.specs.Particle.{Particle}
use Rattle.pf_model.specs.Sums.{moment_of}
use Rattle.pf_model.proofs.MomentLemmas.{attributes_of_one}
use Rattle.pf_model.proofs.moment.Moment.of_one.Goals as goal

pub returns : goal.returns
unfolding moment_of
returns c =
    let j = c.args.body.now in
    let v = c.body.view_is in
    let w = c.body-inside.view_is in
    let attr_is = ap (λ (i : Inside). i.attr) w ∙ ap (λ (p : Particle). p.attr) v in
    let eight : length j.attr ≡ 8 = sym (ap length attr_is) ∙ c.body-inside.told.1 in
    let mass_is : c.from.result ≡ j.mass = c.from.ensures ∙ ap (λ (i : Inside). i.mass) w ∙ ap (λ (p : Particle). p.mass) v in
    let wide_is : c.from-mass.result ≡ j.mass = c.from-mass.ensures ∙ ap (λ (i : Inside). i.mass) w ∙ ap (λ (p : Particle). p.mass) v in
    let x_is : c.from-2.result ≡ j.at.x = c.from-2.ensures ∙ ap (λ (i : Inside). i.at.x) w ∙ ap (λ (p : Particle). p.at.x) v in
    let y_is : c.from-3.result ≡ j.at.y = c.from-3.ensures ∙ ap (λ (i : Inside). i.at.y) w ∙ ap (λ (p : Particle). p.at.y) v in
    let z_is : c.from-4.result ≡ j.at.z = c.from-4.ensures ∙ ap (λ (i : Inside). i.at.z) w ∙ ap (λ (p : Particle). p.at.z) v in
    let mass : c.from.result ≡ 0 + j.mass = omega arith in
    let x : c.from-mass.result * c.from-2.result ≡ 0 + j.mass * j.at.x = rw (wide_is, x_is) (omega arith) in
    let y : c.from-mass.result * c.from-3.result ≡ 0 + j.mass * j.at.y = rw (wide_is, y_is) (omega arith) in
    let z : c.from-mass.result * c.from-4.result ≡ 0 + j.mass * j.at.z = rw (wide_is, z_is) (omega arith) in
    let attr = attr_is ∙ attributes_of_one j.attr eight in
    λ i. record { count = 1; mass = mass i; weighted = x i ∷ y i ∷ z i ∷ []; attr = attr i }
