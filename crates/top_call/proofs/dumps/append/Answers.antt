use Rattle.std.proofs.Common.{inl, inr, refl, ◌∙◌}
use Rattle.command_frame.proofs.Appending.{goes_on, gives_up, breaks}
use Rattle.top_call.proofs.dumps.append.Goals as goal

pub returns-in-Err-WriteFailed-clause-appended : goal.returns-in-Err-WriteFailed-clause-appended
returns-in-Err-WriteFailed-clause-appended g c =
    let failed = rw c.deref.ensures.value at c.in-Err-WriteFailed.ensures.err in
    breaks _ c.in-Piece.text.items (inl refl) c.loop-text.invariant.way c.in-Piece.ensures.0 failed

pub returns-in-Err-Memory-clause-appended : goal.returns-in-Err-Memory-clause-appended
returns-in-Err-Memory-clause-appended g c =
    let failed = rw c.deref.ensures.value at c.in-Err-Memory.ensures.err in
    breaks _ c.in-Piece.text.items (inr refl) c.loop-text.invariant.way c.in-Piece.ensures.0 failed

pub loop-text-preserved : goal.loop-text-preserved
loop-text-preserved g c =
    let written = rw c.deref.ensures.value at c.in-Ok.ensures.written in
    record {
      way = goes_on c.in-Piece.text.items c.loop-text.invariant.way c.in-Piece.ensures.0 c.in-Piece.ensures.1 written;
      counts = c.in-Ok.ensures.faults ∙ c.loop-text.invariant.counts;
      sink = c.in-Ok.ensures.sink ∙ c.loop-text.invariant.sink;
      steady = λ h. c.in-Ok.ensures.stays_steady (c.loop-text.invariant.steady h);
    }

pub returns-in-Memory-clause-appended : goal.returns-in-Memory-clause-appended
returns-in-Memory-clause-appended g c = gives_up _ c.loop-text.invariant.way refl
