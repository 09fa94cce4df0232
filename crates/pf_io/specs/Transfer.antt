-- What reading a whole file and writing a whole piece do to a store.
use Rattle.std.specs.Prelude.{ℕ, ◌≡◌, ◌≤◌, List, [], Bool, true, IsTrue, Option, option_map, Result, Ok, Err}
use Rattle.pf_io.specs.Store.{Told, Faults, after_open, after_read, one_more_open, one_more_read, one_more_write}
use Rattle.pf_io.specs.declared.transfer.ReadFault.{ReadFault}
use Rattle.pf_io.specs.declared.transfer.ReadFault.TheVariants.{CannotOpen, ReadFailed, TooLarge, Memory}
use Rattle.pf_io.specs.declared.transfer.WriteFault.{WriteFault}
use Rattle.pf_io.specs.declared.transfer.WriteFault.TheVariants.{WriteFailed, Memory as NoMemory}

-- what a store tells, but for the unread rest of its source
abbrev pub without_unread : Told → Told
without_unread t = record t { unread = [] }

-- a store tells the same before and after, but for the unread rest of its source
abbrev pub IsSameButUnread : Option Told → Option Told → Type 0
IsSameButUnread before after = option_map without_unread after ≡ option_map without_unread before

-- the named file was opened, and at most that many of its bytes were read
abbrev pub ReadsPart : List ℕ → ℕ → Option Told → Option Told → Type 0
ReadsPart name most before after =
    (n : ℕ) × (n ≤ most) × (after ≡ option_map (λ t. after_read n (after_open name t)) before)

-- whether there is a source before and after an answer of `read_all`
abbrev pub HasSourceAfter : {A : Type 0} → Result A ReadFault → Bool → Bool → Type 0
HasSourceAfter (Ok x) before after = after ≡ true
HasSourceAfter (Err CannotOpen) before after = after ≡ before
HasSourceAfter (Err ReadFailed) before after = after ≡ true
HasSourceAfter (Err TooLarge) before after = after ≡ true
HasSourceAfter (Err Memory) before after = IsTrue before → IsTrue after

-- the counts after an answer of `read_all`: one more exactly where the store failed
abbrev pub read_all_counted : {A : Type 0} → Result A ReadFault → Faults → Faults
read_all_counted (Ok x) f = f
read_all_counted (Err CannotOpen) f = one_more_open f
read_all_counted (Err ReadFailed) f = one_more_read f
read_all_counted (Err TooLarge) f = f
read_all_counted (Err Memory) f = f

-- the counts after an answer of `write_all`: one more exactly where the store failed
abbrev pub write_all_counted : {A : Type 0} → Result A WriteFault → Faults → Faults
write_all_counted (Ok x) f = f
write_all_counted (Err WriteFailed) f = one_more_write f
write_all_counted (Err NoMemory) f = f
