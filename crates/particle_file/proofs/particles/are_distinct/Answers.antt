use Rattle.std.proofs.Common.{◌-◌, refl, rules, arith}
use Rattle.particle_file.proofs.DistinctLemmas.{distinct_from_neighbours, not_distinct}
use Rattle.particle_file.proofs.particles.are_distinct.Goals as goal

pub returns-then-sorted-i : goal.returns-then-sorted-i
returns-then-sorted-i c = (λ e. cc, λ distinct. absurd (not_distinct c.args.sorted.now (c.loop-i.i - 1) c.loop-i.i (omega arith) (omega arith) (search rules) distinct))

pub returns : goal.returns
returns c = (λ e. distinct_from_neighbours c.args.sorted.now c.requires (λ k inside. c.loop-i.invariant k (omega arith)), λ distinct. refl)
