use Rattle.std.proofs.Common.{ℕ, ◌<◌, slice_index_or}
use Rattle.pf_model.specs.Particle.{Particle, IsParticle}
use Rattle.pf_model.proofs.terms.keep_limits.Given as goal

abbrev pub invariant-loop-body : goal.invariant-loop-body
invariant-loop-body l = (k : ℕ) (d : Particle) → k < l.body-index → IsParticle (slice_index_or l.bodies k d)
