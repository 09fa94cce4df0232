use Rattle.std.proofs.Common.{◌≡◌, ◌-◌, ◌≤◌, take, length, option_map, IsTrue}
use Rattle.pf_io.specs.Store.{after_write}
use Rattle.pf_io.proofs.transfer.write_all.Given as goal

abbrev pub invariant-loop-n : goal.invariant-loop-n
invariant-loop-n g l = record {
  within : l.done ≤ length l.piece;
  written : g.S.Store.told l.store ≡ option_map (after_write (take l.done l.piece)) (g.S.Store.told l.fn.store);
  faults : g.S.Store.faults l.store ≡ g.S.Store.faults l.fn.store;
  source : g.S.Store.has_source l.store ≡ g.S.Store.has_source l.fn.store;
  sink : g.S.Store.has_sink l.store ≡ g.S.Store.has_sink l.fn.store;
  steady : IsTrue (g.S.Store.is_steady l.fn.store) → IsTrue (g.S.Store.is_steady l.store);
}

abbrev pub decreases-loop-n : goal.decreases-loop-n
decreases-loop-n g l = length l.piece - l.done
