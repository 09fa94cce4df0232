-- What a store tells of its files, its counts of faults, and what each method does to them.
use Rattle.std.specs.Prelude.{ℕ, ◌+◌, List, [], ◌++◌, drop, Option, Some, None, unwrap_or, if◌then◌else◌, Result, Ok, Err}
use Rattle.std.specs.Str.{bytes_eq}
use Rattle.pf_io.specs.declared.store.StoreErr.{StoreErr}
use Rattle.pf_io.specs.declared.store.StoreErr.TheVariants.{Failed, Memory}

-- the contents of the files: none under a name that isn't there
abbrev pub Files : Type 0
Files = List ℕ → Option (List ℕ)

-- the files, but with these contents under this name
abbrev pub with_contents : Files → List ℕ → List ℕ → Files
with_contents files name bytes = λ other. if bytes_eq other name then Some bytes else files other

-- what a store may tell of itself: all of it, or nothing
pub record Told : Type 0 where
  pub files : Files
  -- what is left of the source, from its next byte on
  pub unread : List ℕ
  -- what was written to the sink since it was created, and the sink's name
  pub written : List ℕ
  pub sink : Option (List ℕ)
  pub said : List ℕ

-- how often each method failed
pub record Faults : Type 0 where
  pub opens : ℕ
  pub reads : ℕ
  pub creates : ℕ
  pub writes : ℕ
  pub says : ℕ

-- the named contents are the source, from their first byte
abbrev pub after_open : List ℕ → Told → Told
after_open name t = record t { unread = unwrap_or (t.files name) [] }

-- the next n bytes of the source were taken
abbrev pub after_read : ℕ → Told → Told
after_read n t = record t { unread = drop n t.unread }

-- the named contents are empty and are the sink
abbrev pub after_create : List ℕ → Told → Told
after_create name t = record t { files = with_contents t.files name []; written = []; sink = Some name }

-- these bytes follow what the sink's file has
abbrev pub files_after_write : List ℕ → Option (List ℕ) → Files → Files
files_after_write bytes None files = files
files_after_write bytes (Some name) files = with_contents files name (unwrap_or (files name) [] ++ bytes)

-- these bytes were appended to the sink
abbrev pub after_write : List ℕ → Told → Told
after_write bytes t = record t { files = files_after_write bytes t.sink t.files; written = t.written ++ bytes }

-- this text was said
abbrev pub after_say : List ℕ → Told → Told
after_say text t = record t { said = t.said ++ text }

-- no method has failed
abbrev pub no_faults : Faults
no_faults = record { opens = 0; reads = 0; creates = 0; writes = 0; says = 0 }

-- the counts after one more fault of a method
abbrev pub one_more_open : Faults → Faults
one_more_open f = record f { opens = f.opens + 1 }

abbrev pub one_more_read : Faults → Faults
one_more_read f = record f { reads = f.reads + 1 }

abbrev pub one_more_create : Faults → Faults
one_more_create f = record f { creates = f.creates + 1 }

abbrev pub one_more_write : Faults → Faults
one_more_write f = record f { writes = f.writes + 1 }

abbrev pub one_more_say : Faults → Faults
one_more_say f = record f { says = f.says + 1 }

-- the counts after an answer: one more exactly where the method failed
abbrev pub counted : {A : Type 0} → (Faults → Faults) → Result A StoreErr → Faults → Faults
counted one_more (Ok x) f = f
counted one_more (Err Failed) f = one_more f
counted one_more (Err Memory) f = f
