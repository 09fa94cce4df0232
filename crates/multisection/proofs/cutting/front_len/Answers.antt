use Rattle.std.proofs.Common.{nat_le, nat_lt, rules, of_calls}
use Rattle.std.proofs.lemmas.List.Sorted.{IsPartitionPoint-from_clause}
use Rattle.pf_model.specs.Particle.{Particle}
use Rattle.multisection.proofs.RunLemmas.{slab_at, slab_first, front_is_filter, rest_is_filter, le_or_lt}
use Rattle.multisection.proofs.cutting.front_len.Goals as goal

pub returns-clause-front : goal.returns-clause-front
returns-clause-front c =
    let slab = slab_at c.args.axis c.args.cuts.now in
    front_is_filter (λ (j : Particle). nat_le (slab j) c.args.slab) c.args.sites.now c.partition_point.result c.partition_point.ensures.bound
    (IsPartitionPoint-from_clause (λ (j : Particle). nat_le (slab j) c.args.slab) c.args.sites.now c.partition_point.result c.partition_point.ensures.partitioned
    (slab_first c.args.axis c.args.cuts.now c.args.sites.now c.args.slab c.requires.rise) (λ a r f k. search (rules, of_calls)))

pub returns-clause-rest : goal.returns-clause-rest
returns-clause-rest c =
    let slab = slab_at c.args.axis c.args.cuts.now in
    rest_is_filter (λ (j : Particle). nat_le (slab j) c.args.slab) (λ (j : Particle). nat_lt c.args.slab (slab j)) (λ j. le_or_lt (slab j) c.args.slab)
    c.args.sites.now c.partition_point.result c.partition_point.ensures.bound
    (IsPartitionPoint-from_clause (λ (j : Particle). nat_le (slab j) c.args.slab) c.args.sites.now c.partition_point.result c.partition_point.ensures.partitioned
    (slab_first c.args.axis c.args.cuts.now c.args.sites.now c.args.slab c.requires.rise) (λ a r f k. search (rules, of_calls)))
