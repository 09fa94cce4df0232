use Rattle.std.proofs.Common.{List, map, sym, ◌∙◌, ap, subst}
use Rattle.std.specs.List.Sorted.{IsStrictlyIncreasing}
use Rattle.pf_model.specs.Particle.{Particle}
use Rattle.rank_step.proofs.held_now.state_now.Goals as goal

pub invariant_of-result : goal.invariant_of-result
invariant_of-result c =
    let increase = c.ascending_ids_increase.ensures in
    let own = c.state.inside.bodies.items in
    let same = c.in_ok-present_bodies.ensures.ids ∙ ap (λ (ps : List Particle). map (λ p. p.id) ps) c.deref.ensures.value in
    (increase c.in_ok-present_bodies.field-0.items).1 (subst IsStrictlyIncreasing (sym same) ((increase own).0 c.state.invariant))
