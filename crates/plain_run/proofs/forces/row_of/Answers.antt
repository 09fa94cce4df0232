use Rattle.std.proofs.Common.{ap, ◌∙◌, ◌++◌}
use Rattle.run_model.specs.Force.{pairs_of}
use Rattle.plain_run.proofs.PairLemmas.{force_is, row_next, sums_fit, row_stops}
use Rattle.plain_run.proofs.forces.row_of.Goals as goal

pub loop-k-preserved : goal.loop-k-preserved
loop-k-preserved c =
    let kernel = c.args.t.now in
    let pairs = pairs_of c.args.edge kernel c.args.entries.now c.args.i.now in
    let v = c.index-forces-k.result in
    let is = force_is kernel pairs v c.deref.result.now (c.deref.ensures.value ∙ c.in_ok-values.ensures.value) in
    record {
      made = c.values_of.ensures.made;
      row = row_next kernel pairs c.forces-forces.result.now c.loop-k.k v _ _ _ c.loop-k-test.true c.index-forces-k.is (c.in-Ok.ensures.force ∙ ap (λ l. c.loop-k.row.items ++ l) is) c.loop-k.invariant.row;
      fault = sums_fit kernel pairs c.forces-forces.result.now c.loop-k.k v _ _ c.loop-k-test.true c.index-forces-k.is is c.in-Ok.ensures.fits c.loop-k.invariant.fault;
    }

pub returns-in-Err-clause-fault : goal.returns-in-Err-clause-fault
returns-in-Err-clause-fault c =
    let kernel = c.args.t.now in
    let pairs = pairs_of c.args.edge kernel c.args.entries.now c.args.i.now in
    row_stops kernel pairs c.forces-forces.result.now c.loop-k.k c.index-forces-k.result c.deref.result.now _ c.in-Err.stop c.loop-k-test.true c.index-forces-k.is (c.deref.ensures.value ∙ c.in_ok-values.ensures.value)
    c.loop-k.invariant.fault c.in-Err.ensures.fault
