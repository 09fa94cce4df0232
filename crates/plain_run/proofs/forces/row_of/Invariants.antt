use Rattle.std.proofs.Common.{◌≡◌, ◌+◌, ◌++◌, drop}
use Rattle.std.specs.List.{enumerate_from, flat_map}
use Rattle.kern_types.specs.Declarations.{forces_of}
use Rattle.kern_meaning.specs.Prepared.{IsMadeFor}
use Rattle.run_model.specs.Force.{first_given, force_over, sum_fault, pairs_of}
use Rattle.plain_run.proofs.forces.row_of.Given as goal

abbrev pub invariant-loop-k : goal.invariant-loop-k
invariant-loop-k l = record {
  made : IsMadeFor l.t l.scratch;
  row : l.row.items ++ flat_map (force_over l.t (pairs_of l.edge l.t l.entries l.i)) (drop l.k l.forces) ≡ flat_map (force_over l.t (pairs_of l.edge l.t l.entries l.i)) (forces_of l.t.decls);
  fault : first_given (sum_fault l.t (pairs_of l.edge l.t l.entries l.i)) (enumerate_from (l.k + 1) (drop l.k l.forces)) ≡ first_given (sum_fault l.t (pairs_of l.edge l.t l.entries l.i)) (enumerate_from 1 (forces_of l.t.decls));
}
