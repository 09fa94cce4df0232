use Rattle.std.proofs.Common.{◌≡◌, ◌+◌, ◌-◌, ◌<◌, ◌≤◌, length, true, IsTrue}
use Rattle.pf_io.proofs.transfer.read_all.Given as goal
use Rattle.pf_io.proofs.ReadParts.{IsReadSoFar}

abbrev pub invariant-loop-n : goal.invariant-loop-n
invariant-loop-n g l = record {
  within : length l.bytes.items ≤ l.limit;
  room : 0 < length l.buffer.items;
  so_far : IsReadSoFar (g.S.Store.told l.fn.store) l.name l.bytes.items (g.S.Store.told l.store);
  faults : g.S.Store.faults l.store ≡ g.S.Store.faults l.fn.store;
  source : g.S.Store.has_source l.store ≡ true;
  sink : g.S.Store.has_sink l.store ≡ g.S.Store.has_sink l.fn.store;
  steady : IsTrue (g.S.Store.is_steady l.fn.store) → IsTrue (g.S.Store.is_steady l.store);
}

abbrev pub decreases-loop-n : goal.decreases-loop-n
decreases-loop-n g l = l.limit + 1 - length l.bytes.items
