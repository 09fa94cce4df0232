use Rattle.top_call.proofs.SomeVerdict.{some_verdict}
use Rattle.top_call.proofs.top.some_verdict.Goals as goal

pub returns : goal.returns
returns c = some_verdict record {
  tokens = c.one_reading.ensures.some;
  trees = c.some_answer.ensures;
  types = c.one_typing.ensures.some;
  decks = c.one_reading-2.ensures.some;
  bench_kernel = c.bench_text_is_a_kernel.ensures;
}
