use Rattle.std.proofs.Common.{◌∙◌, ap, sym, subst, refl, map, arith, List}
use Rattle.std.specs.Prelude.{IsPermutation}
use Rattle.std.specs.List.Sorted.{IsStrictlyIncreasing}
use Rattle.pf_model.specs.Particle.{Particle}
use Rattle.rank_step.specs.Ranks.{HaveTogether, first_ranks}
use Rattle.rank_step.specs.Taken.{without_forces}
use Rattle.rank_step.proofs.StepLemmas.{opened_sound, opened_is, sorted_is, sorted_ascend, written}
use Rattle.rank_step.proofs.world.World.open.Goals as goal

pub as_read-requires : goal.as_read-requires
as_read-requires c =
    let same = subst (λ (js : List Particle). IsPermutation js c.sort_by_id.new.bodies) c.deref_mut.ensures.value c.sort_by_id.ensures.same_bodies in
    subst (λ (js : List Particle). IsStrictlyIncreasing (map (λ p. p.id) js)) (sym (written _ _ _ (omega arith)))
    (sorted_ascend c.read_laws.ensures _ _ c.requires.particles same c.sort_by_id.ensures.sorted)

pub invariant_of-result : goal.invariant_of-result
invariant_of-result c =
    let same = subst (λ (js : List Particle). IsPermutation js c.sort_by_id.new.bodies) c.deref_mut.ensures.value c.sort_by_id.ensures.same_bodies in
    let is = c.in_ok-without_forces.ensures ∙ ap (map without_forces) (c.deref.ensures.value ∙ written _ _ _ (omega arith)) in
    let last = c.in_ok-as_read.field-0 in
    let together = subst (λ (js : List Particle). HaveTogether c.args.s.grid js last.ranks.items) (written _ _ _ (omega arith)) c.in_ok-as_read.ensures.together in
    opened_sound c.read_laws.ensures _ _ c.requires.particles same c.sort_by_id.ensures.sorted _ _ _ _ c.requires.some c.requires.most c.requires.some_steps _ is last
    (c.in_ok-as_read.ensures.bodies ∙ written _ _ _ (omega arith)) together

pub returns-clause-stands : goal.returns-clause-stands
returns-clause-stands c steps =
    let same = subst (λ (js : List Particle). IsPermutation js c.sort_by_id.new.bodies) c.deref_mut.ensures.value c.sort_by_id.ensures.same_bodies in
    let is = c.in_ok-without_forces.ensures ∙ ap (map without_forces) (c.deref.ensures.value ∙ written _ _ _ (omega arith)) in
    let by = sorted_is c.read_laws.ensures _ _ c.requires.particles same c.sort_by_id.ensures.sorted in
    record {
      kernel = refl;
      grid = refl;
      theta = refl;
      group = refl;
      dt = refl;
      reuse = refl;
      particles = c.requires.particles;
      before = (
        opened_is c.read_laws.ensures _ _ c.requires.particles same c.sort_by_id.ensures.sorted _ is,
        c.in_ok-as_read.ensures.bodies ∙ written _ _ _ (omega arith) ∙ sym by,
      );
      last = c.in_ok-as_read.ensures.first ∙ ap (first_ranks c.args.s.grid) (written _ _ _ (omega arith) ∙ sym by);
    }
