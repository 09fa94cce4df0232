use Rattle.std.proofs.Common.{length, ap, arith}
use Rattle.plain_run.proofs.ListingLemmas.{own_short}
use Rattle.plain_run.proofs.counts.counts_by.Goals as goal

pub overflow_cast-result : goal.overflow_cast-result
overflow_cast-result c =
    let long = ap length c.in_ok-own.ensures in
    let short = own_short c.args.grid c.args.built.now c.args.rank in
    let few = c.requires.few in
    let whole = c.in_ok-own.own.ok.0 in
    omega arith

pub overflow_cast-result-2 : goal.overflow_cast-result-2
overflow_cast-result-2 c =
    let long = ap length c.in_ok-own.ensures in
    let short = own_short c.args.grid c.args.built.now c.args.rank in
    let few = c.requires.few in
    let same = ap length c.deref.ensures.value in
    let cells = ap length c.in_ok-cells.ensures in
    let fewer = c.groups_are_few.ensures c.args.limit c.deref.result.now in
    let whole = c.in_ok-cells.cells.ok.0 in
    omega arith
