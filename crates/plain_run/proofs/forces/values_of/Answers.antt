use Rattle.std.proofs.Common.{arith}
use Rattle.plain_run.proofs.PairLemmas.{given_next, given_end}
use Rattle.plain_run.proofs.forces.values_of.Goals as goal

pub loop-entry-preserved : goal.loop-entry-preserved
loop-entry-preserved c = record {
  made = c.push_pair.ensures.made;
  values = given_next c.args.edge c.args.t.now c.args.i.now c.args.v.now c.args.entries.now c.loop-entry.entry-index c.entry-item.result _ _ _ c.loop-entry-test.true c.entry-item.is c.in_ok-push_pair.ensures.value c.loop-entry.invariant.values;
}

pub returns-clause-value : goal.returns-clause-value
returns-clause-value c = given_end c.args.edge c.args.t.now c.args.i.now c.args.v.now c.args.entries.now c.loop-entry.entry-index _ _ (omega arith) c.loop-entry.invariant.values
