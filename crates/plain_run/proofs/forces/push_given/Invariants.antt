use Rattle.std.proofs.Common.{◌≡◌, ◌++◌, drop, map}
use Rattle.std.specs.List.{filter_map, zip}
use Rattle.kern_meaning.specs.Pair.{given_to}
use Rattle.kern_meaning.specs.Values.{components}
use Rattle.plain_run.proofs.forces.push_given.Given as goal

abbrev pub invariant-loop-n : goal.invariant-loop-n
invariant-loop-n l =
    l.values.items ++ map components (filter_map (given_to l.v.name) (zip (drop l.n l.targets) (drop l.n l.scratch.given)))
    ≡ l.fn.values.items ++ map components (filter_map (given_to l.v.name) (zip l.targets l.scratch.given))
