use Rattle.run_model.specs.declared.fault.Fault.{Fault}
use Rattle.top_call.proofs.InputLemmas.{deck_refuses}
use Rattle.top_call.proofs.inputs.deck_in.Goals as goal

pub returns-in-Err-clause-interprets : goal.returns-in-Err-clause-interprets
returns-in-Err-clause-interprets c = deck_refuses Fault c.args.text.now c.in-Err.fault c.deck_refused.result c.in-Err.ensures.err c.deck_refused.ensures.status
