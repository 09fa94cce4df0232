use Rattle.top_call.proofs.BenchLemmas.{answers, unsaid_passed}
use Rattle.top_call.proofs.bench.answer.Goals as goal

pub returns-in-Ok-summary-clause-answered : goal.returns-in-Ok-summary-clause-answered
returns-in-Ok-summary-clause-answered g c =
    answers c.args.count c.args.seed c.in-Ok.kernel c.in_ok-tally.tally c.in-Ok-summary.text.items c.in-Ok.ensures c.in_ok-tally.ensures c.in-Ok-summary.ensures

pub returns-in_err-tally-clause-unsaid : goal.returns-in_err-tally-clause-unsaid
returns-in_err-tally-clause-unsaid g c =
    unsaid_passed c.args.count c.args.seed c.in-Ok.kernel c.from_residual.result c.in_err-tally.field-0.0 c.from_residual.ensures c.in-Ok.ensures c.in_err-tally.ensures
