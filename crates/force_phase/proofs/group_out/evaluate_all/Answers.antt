use Rattle.std.proofs.Common.{rules, ◌+◌, set, sym, subst, arith}
use Rattle.pf_model.specs.Particle.{Particle}
use Rattle.force_phase.specs.Outcome.{with_stop}
use Rattle.force_phase.proofs.FoundLemmas.{IsEvaluated, evaluated, is_done, is_fault}
use Rattle.force_phase.proofs.group_out.evaluate_all.Goals as goal

pub loop-k-preserved : goal.loop-k-preserved
loop-k-preserved c = record {
  ready = c.fill-stop.ensures.ready;
  rows = search rules;
  widths = search rules;
  evaluated = λ g are.
      let P : Particle → Type 0 = λ b. IsEvaluated c.args.edge c.args.t.now (record g { bodies = c.args.bodies.now }) (c.loop-k.k + 1) (with_stop c.loop-k.least b.id c.fill-stop.result) (set c.loop-k.rows c.loop-k.k c.fill-stop.new.row) in
      rw c.with_stop-least.ensures
      (subst P (sym c.body.view_is)
      (evaluated c.args.edge c.args.t.now (record g { bodies = c.args.bodies.now }) c.loop-k.k c.loop-k.least c.loop-k.rows (c.loop-k.invariant.evaluated g are)
      c.index-bodies-k.result (omega (arith, c.loop-k-test.true)) (omega (arith, c.loop-k-test.true, c.loop-k.invariant.rows)) c.index-bodies-k.is c.fill-stop.new.row
      c.args.partners.now are c.fill-stop.result c.fill-stop.ensures.ok c.fill-stop.ensures.fault));
}

pub returns-in-None-clause-outcome : goal.returns-in-None-clause-outcome
returns-in-None-clause-outcome c = λ g are.
    is_done c.args.edge c.args.t.now (record g { bodies = c.args.bodies.now }) c.loop-k.k c.loop-k.least c.loop-k.rows (c.loop-k.invariant.evaluated g are)
    (omega (arith, c.loop-k-test.false, c.loop-k.auto.k-end)) c.loop-k.invariant.rows c.in-None.is

pub returns-in-Some-clause-outcome : goal.returns-in-Some-clause-outcome
returns-in-Some-clause-outcome c = λ g are.
    is_fault c.args.edge c.args.t.now (record g { bodies = c.args.bodies.now }) c.loop-k.k c.loop-k.least c.loop-k.rows (c.loop-k.invariant.evaluated g are)
    (omega (arith, c.loop-k-test.false, c.loop-k.auto.k-end)) c.loop-k.invariant.rows c.in-Some.fault c.in-Some.is
