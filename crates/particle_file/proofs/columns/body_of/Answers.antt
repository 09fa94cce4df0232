use Rattle.std.proofs.Common.{sym, subst}
use Rattle.pf_model.specs.Particle.{Particle, HasParticleLimits}
use Rattle.particle_file.proofs.ColumnLemmas.{particle_of-limits, read_particle}
use Rattle.particle_file.proofs.columns.body_of.Goals as goal

pub invariant_of-result-2 : goal.invariant_of-result-2
invariant_of-result-2 c =
    let P : Particle → Type 0 = λ p. HasParticleLimits p.vel p.mass p.attr in
    subst P (sym (read_particle c.args.numbers c.requires)) (particle_of-limits c.args.numbers c.requires)

pub returns : goal.returns
returns c = read_particle c.args.numbers c.requires
