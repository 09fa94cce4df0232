use Rattle.std.proofs.Common.{◌≡◌, drop}
use Rattle.kern_meaning.specs.Prepared.{IsMadeFor}
use Rattle.run_model.specs.Force.{first_given, pair_fault, pairs_of}
use Rattle.plain_run.proofs.forces.first_pair_fault.Given as goal

abbrev pub invariant-loop-entry : goal.invariant-loop-entry
invariant-loop-entry l = record {
  made : IsMadeFor l.t l.scratch;
  fault : first_given pair_fault (pairs_of l.edge l.t (drop l.entry-index l.entries) l.i) ≡ first_given pair_fault (pairs_of l.edge l.t l.entries l.i);
}
