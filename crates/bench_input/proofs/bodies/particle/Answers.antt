use Rattle.std.proofs.Common.{◌≡◌, ◌+◌, ◌-◌, ◌*◌, sym, ap, ◌∙◌, arith}
use Rattle.bench_input.specs.Generator.{next_state, state_after, coordinate}
use Rattle.bench_input.proofs.DrawLemmas.{state_after_more}
use Rattle.bench_input.proofs.bodies.particle.Goals as goal

x_state : (c : goal.After-draw-3) → c.draw.new.self.state ≡ state_after c.args.seed (3 * (c.args.before + 1) - 2)
x_state c =
    c.draw.ensures.state ∙ ap next_state c.requires.state ∙ sym (state_after_more c.args.seed (3 * c.args.before) _ (omega arith))

y_state : (c : goal.After-draw-3) → c.draw-2.new.self.state ≡ state_after c.args.seed (3 * (c.args.before + 1) - 1)
y_state c =
    c.draw-2.ensures.state ∙ ap next_state (x_state c) ∙ sym (state_after_more c.args.seed (3 * (c.args.before + 1) - 2) _ (omega arith))

z_state : (c : goal.After-draw-3) → c.draw-3.new.self.state ≡ state_after c.args.seed (3 * (c.args.before + 1))
z_state c =
    c.draw-3.ensures.state ∙ ap next_state (y_state c) ∙ sym (state_after_more c.args.seed (3 * (c.args.before + 1) - 1) _ (omega arith))

pub returns-clause-value : goal.returns-clause-value
returns-clause-value c =
    rw (c.draw.ensures.value ∙ ap coordinate (x_state c), c.draw-2.ensures.value ∙ ap coordinate (y_state c), c.draw-3.ensures.value ∙ ap coordinate (z_state c))

pub returns-clause-state : goal.returns-clause-state
returns-clause-state c = z_state c
