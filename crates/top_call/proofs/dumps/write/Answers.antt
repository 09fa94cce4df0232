use Rattle.std.proofs.Common.{refl, inl, rules, ap, Err}
use Rattle.command_frame.proofs.Telling.{same_told}
use Rattle.command_frame.proofs.Writing.{left, left_untold, ends, no_fault}
use Rattle.top_call.proofs.dumps.write.Goals as goal

pub returns-in-Ok : goal.returns-in-Ok
returns-in-Ok g c =
    let texts = c.args.dumps.now.texts in
    record {
      ends = ends texts _ c.append.result _ _ c.append.ensures.appended;
      left = left c.args.out.now texts _ c.append.result _ _ _ c.in-Ok.ensures.created c.append.ensures.appended;
      untold = λ _ files. left_untold c.args.out.now texts _ c.append.result _ _ c.append.ensures.appended files;
      counts = search rules;
      stays_steady = λ h. c.append.ensures.stays_steady (c.create.ensures.stays_steady h);
      steady = λ h call e. absurd (no_fault c.append.result call (c.append.ensures.steady (c.create.ensures.stays_steady h) c.in-Ok.ensures.sink) e);
    }

pub returns-in-Err-Failed : goal.returns-in-Err-Failed
returns-in-Err-Failed g c = record {
  ends = tt;
  left = same_told _ _ _ (λ t. record { files = (record { out = _; text = _; last = _; meant = refl }, refl); said = refl }) c.in-Err-Failed.ensures.err;
  untold = λ _ files. (files, (record { out = _; text = _; last = _; meant = refl }, refl));
  counts = rw c.in-Err-Failed.field-0-is at c.in-Err-Failed.ensures.faults;
  stays_steady = c.in-Err-Failed.ensures.stays_steady;
  steady = λ h call e. absurd (c.in-Err-Failed.ensures.steady h (ap Err c.in-Err-Failed.field-0-is));
}

pub returns-in-Err-Memory : goal.returns-in-Err-Memory
returns-in-Err-Memory g c = record {
  ends = tt;
  left = same_told _ _ _ (λ t. record { files = inl refl; said = refl }) c.in-Err-Memory.ensures.err;
  untold = λ _ files. (files, inl refl);
  counts = rw c.in-Err-Memory.field-0-is at c.in-Err-Memory.ensures.faults;
  stays_steady = c.in-Err-Memory.ensures.stays_steady;
  steady = λ h call e. cc;
}
