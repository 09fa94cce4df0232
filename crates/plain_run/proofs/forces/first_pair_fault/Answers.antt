use Rattle.std.proofs.Common.{sym, ◌∙◌, ap, drop, ◌+◌, arith}
use Rattle.run_model.specs.Force.{first_given, pair_fault, pairs_of}
use Rattle.order_laws.specs.Order.{first_some}
use Rattle.plain_run.proofs.PairLemmas.{fault_next, no_pairs}
use Rattle.plain_run.proofs.forces.first_pair_fault.Goals as goal

pub returns-in-Some-clause-value : goal.returns-in-Some-clause-value
returns-in-Some-clause-value c =
    let k = c.loop-entry.entry-index in
    let rest = first_given pair_fault (pairs_of c.args.edge c.args.t.now (drop (k + 1) c.args.entries.now) c.args.i.now) in
    sym (sym c.loop-entry.invariant.fault ∙ fault_next c.args.edge c.args.t.now c.args.i.now c.args.entries.now k c.entry-item.result c.loop-entry-test.true c.entry-item.is
    ∙ ap (λ o. first_some o rest) (sym c.fault_with.ensures.value ∙ c.in-Some.is))

pub loop-entry-preserved : goal.loop-entry-preserved
loop-entry-preserved c =
    let k = c.loop-entry.entry-index in
    let rest = first_given pair_fault (pairs_of c.args.edge c.args.t.now (drop (k + 1) c.args.entries.now) c.args.i.now) in
    record {
      made = c.fault_with.ensures.made;
      fault =
          sym (fault_next c.args.edge c.args.t.now c.args.i.now c.args.entries.now k c.entry-item.result c.loop-entry-test.true c.entry-item.is
          ∙ ap (λ o. first_some o rest) (sym c.fault_with.ensures.value ∙ c.in_default.is)) ∙ c.loop-entry.invariant.fault;
    }

pub returns-clause-value : goal.returns-clause-value
returns-clause-value c = sym (sym c.loop-entry.invariant.fault ∙ ap (first_given pair_fault) (no_pairs c.args.edge c.args.t.now c.args.i.now c.args.entries.now c.loop-entry.entry-index (omega arith)))
