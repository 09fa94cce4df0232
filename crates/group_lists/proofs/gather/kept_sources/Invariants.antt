use Rattle.std.specs.List.{AllZip}
use Rattle.group_lists.specs.Indexed.{IsKeptOf}
use Rattle.group_lists.proofs.gather.kept_sources.Given as goal

abbrev pub invariant-loop-tree : goal.invariant-loop-tree
invariant-loop-tree g l = AllZip (λ tree s. IsKeptOf g.T.Terms.theta g.T.Terms.grid g.T.Terms.particles tree s) l.yielded l.sources.items
