use Rattle.std.proofs.Common.{◌≡◌, IsTrue, length}
use Rattle.command_frame.proofs.Appending.{IsUnderWay}
use Rattle.top_call.proofs.dumps.append.Given as goal

abbrev pub invariant-loop-text : goal.invariant-loop-text
invariant-loop-text g l =
    let store = g.S.Store in
    record {
      way : IsUnderWay l.fn.dumps.texts l.dumps.texts l.fn.dumps.last l.dumps.last (store.told l.fn.store) (store.told l.store);
      counts : store.faults l.store ≡ store.faults l.fn.store;
      sink : store.has_sink l.store ≡ store.has_sink l.fn.store;
      steady : IsTrue (store.is_steady l.fn.store) → IsTrue (store.is_steady l.store);
    }

abbrev pub decreases-loop-text : goal.decreases-loop-text
decreases-loop-text g l = length l.dumps.texts
