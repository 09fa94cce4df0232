use Rattle.top_call.proofs.OneVerdict.{one_verdict}
use Rattle.top_call.proofs.top.one_verdict.Goals as goal

pub returns : goal.returns
returns c = one_verdict record {
  tokens = c.one_reading.ensures.one;
  trees = c.one_answer.ensures;
  types = c.one_typing.ensures.not_both;
  type_faults = c.one_typing.ensures.one_fault;
  decks = c.one_reading-2.ensures.one;
  bench_kernels = c.bench_kernels_are_one.ensures;
}
