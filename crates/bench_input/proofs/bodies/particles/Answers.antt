use Rattle.std.proofs.Common.{◌+◌, ◌∷◌, ◌++◌, [], sym, ap, ◌∙◌, subst, arith}
use Rattle.std.proofs.lemmas.List.FromFn.{map-range_with_len_more}
use Rattle.pf_model.specs.Particles.{AreBodies}
use Rattle.bench_input.specs.Generator.{particle, particles}
use Rattle.bench_input.proofs.DrawLemmas.{state_after_none, AreBodies-particles}
use Rattle.bench_input.proofs.bodies.particles.Goals as goal

pub loop-before-init : goal.loop-before-init
loop-before-init c = record { made = c.in_ok-bodies.ensures.items; state = state_after_none c.args.seed }

pub loop-before-preserved : goal.loop-before-preserved
loop-before-preserved c =
    let seed = c.args.seed in
    let before = c.loop-before.before in
    record {
      made =
          c.in_ok-push.ensures.items ∙ ap (λ js. js ++ c.particle.result ∷ []) c.loop-before.invariant.made ∙ ap (λ j. particles seed before ++ j ∷ []) c.particle.ensures.value
          ∙ sym (map-range_with_len_more (particle seed) 1 before (before + 1) (omega arith));
      state = c.particle.ensures.state;
    }

pub returns-clause-bodies : goal.returns-clause-bodies
returns-clause-bodies c =
    subst AreBodies (sym c.loop-before.invariant.made) (AreBodies-particles c.args.seed c.loop-before.before (omega (arith, c.requires, c.loop-before.auto.before-end)))
