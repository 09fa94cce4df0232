use Rattle.std.proofs.Common.{refl, inl, inr, ap, Err}
use Rattle.pf_io.specs.Store.{after_say}
use Rattle.command_frame.proofs.Telling.{told_by, same_told}
use Rattle.command_frame.proofs.speak.say_answer.Goals as goal

pub returns-in-Ok : goal.returns-in-Ok
returns-in-Ok g c = record {
  ends = tt;
  left = told_by (after_say c.args.text.now) _ _ _ (λ t. record {
    files = inr (record { text = _; meant = refl }, refl);
    said = inr (record { text = _; meant = refl; said = refl });
  }) c.in-Ok.ensures.said;
  untold = λ _ files. (files, inr (record { text = _; meant = refl }, refl));
  counts = c.in-Ok.ensures.faults;
  stays_steady = c.in-Ok.ensures.stays_steady;
  steady = λ h call e. cc;
}

pub returns-in-Err-Failed : goal.returns-in-Err-Failed
returns-in-Err-Failed g c = record {
  ends = tt;
  left = same_told _ _ _ (λ t. record { files = (record { text = _; meant = refl }, refl); said = refl }) c.in-Err-Failed.ensures.err;
  untold = λ _ files. (files, (record { text = _; meant = refl }, refl));
  counts = rw c.in-Err-Failed.field-0-is at c.in-Err-Failed.ensures.faults;
  stays_steady = c.in-Err-Failed.ensures.stays_steady;
  steady = λ h call e. absurd (c.in-Err-Failed.ensures.steady h (ap Err c.in-Err-Failed.field-0-is));
}

pub returns-in-Err-Memory : goal.returns-in-Err-Memory
returns-in-Err-Memory g c = record {
  ends = tt;
  left = same_told _ _ _ (λ t. record { files = inl refl; said = refl }) c.in-Err-Memory.ensures.err;
  untold = λ _ files. (files, inl refl);
  counts = rw c.in-Err-Memory.field-0-is at c.in-Err-Memory.ensures.faults;
  stays_steady = c.in-Err-Memory.ensures.stays_steady;
  steady = λ h call e. cc;
}
