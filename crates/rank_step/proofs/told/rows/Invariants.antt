use Rattle.std.proofs.Common.{◌≡◌, ◌++◌, map}
use Rattle.std.specs.List.{zip}
use Rattle.std.specs.Iterator.Adapters.{zip_first, zip_second}
use Rattle.std.specs.Slice.Iter.{iter_rest}
use Rattle.rank_step.specs.Told.{row_with}
use Rattle.rank_step.proofs.told.rows.Given as goal

abbrev pub invariant-loop-owner : goal.invariant-loop-owner
invariant-loop-owner l =
    (l.rows.items ++ map row_with (zip (iter_rest (zip_first l.owner-iterator)) (iter_rest (zip_second l.owner-iterator)))) ≡ map row_with (zip l.owners l.bodies)
