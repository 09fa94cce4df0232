use Rattle.bench_input.specs.Setup.{bench_setup}
use Rattle.top_call.proofs.bench.answer.Given as goal

abbrev pub ghost-tallied : goal.ghost-tallied
ghost-tallied g a = bench_setup a.count a.seed a.kernel
