use Rattle.std.proofs.Common.{◌≡◌, ◌++◌, drop, map}
use Rattle.std.specs.List.{flat_map}
use Rattle.kern_meaning.specs.Prepared.{IsMadeFor}
use Rattle.kern_meaning.specs.Values.{components}
use Rattle.run_model.specs.Force.{contributions, pairs_of}
use Rattle.plain_run.proofs.forces.values_of.Given as goal

abbrev pub invariant-loop-entry : goal.invariant-loop-entry
invariant-loop-entry l = record {
  made : IsMadeFor l.t l.scratch;
  values : l.values.items ++ map components (flat_map (contributions l.t l.v) (pairs_of l.edge l.t (drop l.entry-index l.entries) l.i))
      ≡ map components (flat_map (contributions l.t l.v) (pairs_of l.edge l.t l.entries l.i));
}
