use Rattle.std.proofs.Common.{ℕ, ◌<◌, ◌^◌, length, sym, ◌∙◌, ap, subst}
use Rattle.pf_geom.specs.Position.{IsPosition}
use Rattle.pf_model.specs.declared.body.Body.TheInside.{Inside}
use Rattle.pf_model.specs.Particle.{Particle, HasParticleLimits}
use Rattle.pf_model.proofs.terms.keeps_limits.Goals as goal

pub returns : goal.returns
returns c =
    let v = c.body.view_is in
    let w = c.body-inside.view_is in
    let vel = ap (λ (i : Inside). i.vel) w ∙ ap (λ (p : Particle). p.vel) v in
    let attr = ap (λ (i : Inside). i.attr) w ∙ ap (λ (p : Particle). p.attr) v in
    let at = ap (λ (i : Inside). i.at) w ∙ ap (λ (p : Particle). p.at) v in
    record {
      named = (let P : ℕ → Type 0 = λ n. n < 2 ^ 32 in subst P (ap (λ (i : Inside). i.id) w ∙ ap (λ (p : Particle). p.id) v) c.is_number.ensures);
      in_cube = subst IsPosition at c.body-inside.invariant;
      three = sym (ap length vel) ∙ c.body-inside.told.0;
      eight = sym (ap length attr) ∙ c.body-inside.told.1;
      limits = subst (λ (p : Particle). HasParticleLimits p.vel p.mass p.attr) v c.body.invariant;
    }
