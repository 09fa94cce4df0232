use Rattle.std.proofs.Common.{nat_le, rules, of_calls}
use Rattle.std.proofs.lemmas.List.Sorted.{IsPartitionPoint-from_clause, IsPartitionedBy-leb}
use Rattle.multisection.proofs.RunLemmas.{point_is_count}
use Rattle.multisection.proofs.slab.slab_of.Goals as goal

pub returns-clause-value : goal.returns-clause-value
returns-clause-value c =
    let cuts = c.args.cuts.now in
    point_is_count (λ cut. nat_le cut c.args.coordinate) cuts c.partition_point.result c.partition_point.ensures.bound
    (IsPartitionPoint-from_clause (λ cut. nat_le cut c.args.coordinate) cuts c.partition_point.result c.partition_point.ensures.partitioned
    (IsPartitionedBy-leb (λ cut. cut) cuts c.args.coordinate c.requires) (λ a r f k. search (rules, of_calls)))
