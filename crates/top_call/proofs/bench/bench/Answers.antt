use Rattle.top_call.proofs.BenchLemmas.{said_bench, unsaid_bench}
use Rattle.top_call.proofs.bench.bench.Goals as goal

pub returns-in-Ok : goal.returns-in-Ok
returns-in-Ok g c =
    said_bench c.args.count c.args.seed _ c.in-Ok.text.items c.say_answer.result _ _ c.in-Ok.ensures.answered c.deref.ensures.value c.say_answer.ensures

pub returns-in-Err : goal.returns-in-Err
returns-in-Err g c = unsaid_bench c.args.count c.args.seed c.in-Err.status _ c.in-Err.ensures.unsaid
