use Rattle.run_model.specs.declared.fault.Fault.{Fault}
use Rattle.top_call.proofs.InputLemmas.{particles_refuse}
use Rattle.top_call.proofs.inputs.particles_in.Goals as goal

pub returns-in-Err-clause-interprets : goal.returns-in-Err-clause-interprets
returns-in-Err-clause-interprets c = particles_refuse Fault c.args.text.now c.in-Err.fault c.particles_refused.result c.in-Err.ensures.exact c.particles_refused.ensures.status
