-- How the counts of a store stand after a command, and after the saying of its line.
use Rattle.std.proofs.Common.{◌≡◌, ◌≢◌, ◌<◌, ◌⊎◌, inl, inr, Option, None, refl, ap, arith}
use Rattle.pf_io.specs.Store.{Faults, one_more_say}
use Rattle.command_frame.specs.Clauses.{IsJudgement, HasLine}
use Rattle.command_frame.specs.Status.{failed_call, count_of, one_more, counts_after}
use Rattle.command_frame.specs.declared.status.Status.{Status}
use Rattle.command_frame.specs.declared.status.Status.TheVariants.{Done, Usage, Refused, Numeric, Lists, StoreFault, Memory}
use Rattle.command_frame.specs.declared.status.StoreCall.{StoreCall}
use Rattle.command_frame.specs.declared.status.StoreCall.TheVariants.{Open, Read, Create, Write, Say}

pub rises : (call : StoreCall) (faults : Faults) → count_of call faults < count_of call (one_more call faults)
rises Open faults = omega arith
rises Read faults = omega arith
rises Create faults = omega arith
rises Write faults = omega arith
rises Say faults = omega arith

pub rises_to_say : (call : StoreCall) (faults : Faults) → count_of call faults < count_of call (one_more_say (one_more call faults))
rises_to_say Open faults = omega arith
rises_to_say Read faults = omega arith
rises_to_say Create faults = omega arith
rises_to_say Write faults = omega arith
rises_to_say Say faults = omega arith

-- a fault of saying leaves the other counts
pub say_alone : (call : StoreCall) (faults : Faults) → call ≢ Say → count_of call (one_more_say faults) ≡ count_of call faults
say_alone Open faults ne = refl
say_alone Read faults ne = refl
say_alone Create faults ne = refl
say_alone Write faults ne = refl
say_alone Say faults ne = absurd (ne refl)

pub no_fault_of : {R F : Type 0} (status : Status R F) → IsJudgement status → failed_call status ≡ None
no_fault_of Done j = refl
no_fault_of Usage j = refl
no_fault_of (Refused refusal) j = refl
no_fault_of (Numeric step fault) j = refl
no_fault_of (Lists step count) j = refl
no_fault_of (StoreFault call) j = absurd j
no_fault_of Memory j = refl

-- under a status that has a line, no fault of saying came before the line
pub says_kept : {R F : Type 0} (status : Status R F) (faults : Faults) → HasLine status → (counts_after (failed_call status) faults).says ≡ faults.says
says_kept Done faults h = refl
says_kept Usage faults h = refl
says_kept (Refused refusal) faults h = refl
says_kept (Numeric step fault) faults h = refl
says_kept (Lists step count) faults h = refl
says_kept (StoreFault Open) faults h = refl
says_kept (StoreFault Read) faults h = refl
says_kept (StoreFault Create) faults h = refl
says_kept (StoreFault Write) faults h = refl
says_kept (StoreFault Say) faults h = absurd h
says_kept Memory faults h = refl

pub fault_or_none : {R F : Type 0} (status : Status R F) → (failed_call status ≡ None) ⊎ ((call : StoreCall) × (status ≡ StoreFault call))
fault_or_none Done = inl refl
fault_or_none Usage = inl refl
fault_or_none (Refused refusal) = inl refl
fault_or_none (Numeric step fault) = inl refl
fault_or_none (Lists step count) = inl refl
fault_or_none (StoreFault call) = inr (call, refl)
fault_or_none Memory = inl refl

pub counted_none : {R F : Type 0} (status : Status R F) (faults : Faults) → failed_call status ≡ None → counts_after (failed_call status) faults ≡ faults
counted_none status faults e = ap (λ (o : Option StoreCall). counts_after o faults) e

pub counted_call : {R F : Type 0} (status : Status R F) (call : StoreCall) (faults : Faults) → status ≡ StoreFault call → counts_after (failed_call status) faults ≡ one_more call faults
counted_call {R} {F} status call faults e = ap (λ (s : Status R F). counts_after (failed_call s) faults) e
