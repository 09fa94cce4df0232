use Rattle.std.proofs.Common.{map}
use Rattle.top_call.proofs.WordLemmas.{bench_of_words, no_memory_for_words, numbers_of_words, run_of_words, workers_of_words}
use Rattle.top_call.proofs.top.carry_out.Goals as goal

pub run-requires-clause-workers : goal.run-requires-clause-workers
run-requires-clause-workers g c κs within =
    let words = rw (c.in-Ok-Some-Run.field-0-is, c.in-Ok-Some-Run.field-0-0-is) at c.in-Ok-Some-Run.ensures in
    workers_of_words (map g.W.AsStr.text c.args.words.now) c.in-Ok-Some-Run.deck.now c.in-Ok-Some-Run.count words

pub returns-in-Ok-Some-Run : goal.returns-in-Ok-Some-Run
returns-in-Ok-Some-Run g c =
    let words = rw (c.in-Ok-Some-Run.field-0-is, c.in-Ok-Some-Run.field-0-0-is) at c.in-Ok-Some-Run.ensures in
    run_of_words (map g.W.AsStr.text c.args.words.now) c.in-Ok-Some-Run.deck.now c.in-Ok-Some-Run.count c.run.result _ _ words c.run.ensures

pub bench-requires-clause-workers : goal.bench-requires-clause-workers
bench-requires-clause-workers g c κs within =
    let words = rw (c.in-Ok-Some-Bench.field-0-is, c.in-Ok-Some-Bench.field-0-0-is) at c.in-Ok-Some-Bench.ensures in
    let numbers = numbers_of_words (map g.W.AsStr.text c.args.words.now) c.in-Ok-Some-Bench.particles c.in-Ok-Some-Bench.seed c.in-Ok-Some-Bench.count words in
    numbers.1

pub bench-requires-clause-few : goal.bench-requires-clause-few
bench-requires-clause-few g c κs within =
    let words = rw (c.in-Ok-Some-Bench.field-0-is, c.in-Ok-Some-Bench.field-0-0-is) at c.in-Ok-Some-Bench.ensures in
    let numbers = numbers_of_words (map g.W.AsStr.text c.args.words.now) c.in-Ok-Some-Bench.particles c.in-Ok-Some-Bench.seed c.in-Ok-Some-Bench.count words in
    numbers.0

pub returns-in-Ok-Some-Bench : goal.returns-in-Ok-Some-Bench
returns-in-Ok-Some-Bench g c =
    let words = rw (c.in-Ok-Some-Bench.field-0-is, c.in-Ok-Some-Bench.field-0-0-is) at c.in-Ok-Some-Bench.ensures in
    bench_of_words (map g.W.AsStr.text c.args.words.now) c.in-Ok-Some-Bench.particles c.in-Ok-Some-Bench.seed c.in-Ok-Some-Bench.count c.bench.result _ _ words c.bench.ensures

pub returns-in-Err : goal.returns-in-Err
returns-in-Err g c = no_memory_for_words (map g.W.AsStr.text c.args.words.now) _
