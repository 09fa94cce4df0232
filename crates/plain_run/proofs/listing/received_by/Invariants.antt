use Rattle.std.proofs.Common.{◌≡◌, [], nat_eq}
use Rattle.std.specs.Prelude.{if◌then◌else◌}
use Rattle.std.specs.List.{flat_map, range_with_len}
use Rattle.pf_model.specs.EssentialTree.{essential_tree}
use Rattle.plain_run.proofs.listing.received_by.Given as goal

abbrev pub invariant-loop-src : goal.invariant-loop-src
invariant-loop-src l = l.entries.items ≡ flat_map (λ src. if nat_eq src l.rank then [] else essential_tree l.theta l.grid l.built src l.rank) (range_with_len 0 l.src)
