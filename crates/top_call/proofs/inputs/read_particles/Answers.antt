use Rattle.std.proofs.Common.{◌^◌}
use Rattle.command_frame.proofs.StepLaws.{load_then_read}
use Rattle.top_call.specs.Inputs.{ParticlesMean}
use Rattle.top_call.specs.declared.status.Refusal.TheVariants.{ParticlesTooLarge}
use Rattle.top_call.proofs.inputs.read_particles.Goals as goal

pub returns-clause-reads : goal.returns-clause-reads
returns-clause-reads g c =
    let read = rw c.deref.ensures.value at c.particles_in.ensures.interprets in
    load_then_read (2 ^ 24) ParticlesTooLarge ParticlesMean (λ v. v.items) (λ particles. particles) c.args.name.now c.in_ok-text.text c.text_of.result c.particles_in.result _ _
    c.in_ok-text.was c.text_of.ensures.reads read
