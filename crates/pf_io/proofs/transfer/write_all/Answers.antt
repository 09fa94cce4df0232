use Rattle.std.proofs.Common.{◌≡◌, ◌+◌, take, rules, arith, sym}
use Rattle.std.proofs.lemmas.List.{take_all}
use Rattle.pf_io.proofs.transfer.write_all.Goals as goal
use Rattle.pf_io.proofs.WrittenParts.{writes_nothing, write_on}

pub loop-n-init : goal.loop-n-init
loop-n-init g c = record {
  within = search rules;
  written = sym (writes_nothing _ (g.met.S.Store.has_its_sink c.args.store.now));
  faults = search rules;
  source = search rules;
  sink = search rules;
  steady = search rules;
}

pub loop-n-preserved : goal.loop-n-preserved
loop-n-preserved g c = record {
  within = search rules;
  written = write_on _ _ _ _ _ _ c.loop-n.invariant.written c.in-Ok.ensures.written;
  faults = search rules;
  source = search rules;
  sink = search rules;
  steady = search rules;
}

pub returns-then-done-piece-clause-written : goal.returns-then-done-piece-clause-written
returns-then-done-piece-clause-written g c =
    let whole : take (c.loop-n.done + c.in-Ok.n) c.args.piece.now ≡ c.args.piece.now = take_all _ _ (omega arith) in
    rw whole at (write_on _ _ _ _ _ _ c.loop-n.invariant.written c.in-Ok.ensures.written)
