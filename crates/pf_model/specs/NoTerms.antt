-- Terms of no particles.
use Rattle.std.specs.Prelude.{[], All}
use Rattle.std.specs.List.{IsDistinct}
use Rattle.std.proofs.lemmas.List.Elements.{All-nil}
use Rattle.pf_model.specs.Particle.{IsParticle}
use Rattle.pf_model.specs.Particles.{HaveDistinctIds}

pub no_particles_differ : HaveDistinctIds []
unfolding IsDistinct
no_particles_differ = tt

pub no_particle_passes_a_limit : All IsParticle []
no_particle_passes_a_limit = All-nil IsParticle
