-- A store in memory, and what it tells.
use Rattle.std.specs.Prelude.{ℕ, ◌≡◌, ◌^◌, ◌-◌, ◌+◌, ◌&&◌, ◌==◌, List, [], Bool, Option, Some, None, option_map, unwrap_or, option_and_then, nat_le, nat_lt, slice_get, find, position, IsSomeAnd, if◌then◌else◌, Result}
use Rattle.std.specs.List.{list_all, list_any}
use Rattle.std.specs.Str.{bytes_eq}
use Rattle.pf_io.specs.Store.{Files, Told, Faults, no_faults, counted}
use Rattle.pf_io.specs.declared.store.StoreErr.{StoreErr}

-- a file: its name and its bytes
pub record NamedBytes : Type 0 where
  pub name : List ℕ
  pub bytes : List ℕ

pub record MemoryStore : Type 0 where
  pub files : List NamedBytes
  -- what is left of the source, if there is one
  pub source : Option (List ℕ)
  -- the place of the sink among the files, if there is one
  pub sink : Option ℕ
  pub said : List ℕ
  pub faults : Faults
  -- the numbers of the calls that are to fail, and the number of calls so far
  pub fails : List ℕ
  pub calls : ℕ
  -- the most bytes that one call moves
  pub most : ℕ

-- the contents by name
abbrev pub contents_of : List NamedBytes → Files
contents_of files name = option_map (λ f. f.bytes) (find (λ f. bytes_eq name f.name) files)

abbrev pub sink_of : MemoryStore → Option NamedBytes
sink_of s = option_and_then (slice_get s.files) s.sink

-- what is at this place among the files is the first of its name
abbrev pub IsFirstOfItsName : List NamedBytes → ℕ → Type 0
IsFirstOfItsName files i = IsSomeAnd (slice_get files i) (λ f. position (λ g. bytes_eq f.name g.name) files ≡ Some i)

-- a store in memory tells all. What was written since the sink was created is what its file has
abbrev pub told_of : MemoryStore → Told
told_of s = record {
  files = contents_of s.files;
  unread = unwrap_or s.source [];
  written = unwrap_or (option_map (λ f. f.bytes) (sink_of s)) [];
  sink = option_map (λ f. f.name) (sink_of s);
  said = s.said;
}

-- no call that is still to come is to fail
abbrev pub fails_no_more : List ℕ → ℕ → Bool
fails_no_more fails calls = list_all (λ n. nat_le n calls) fails

abbrev pub is_steady_of : MemoryStore → Bool
is_steady_of s = fails_no_more s.fails s.calls

-- the next call is to fail by its number, which goes up to the greatest u64
abbrev pub fails_next : List ℕ → ℕ → Bool
fails_next fails calls = nat_lt calls (2 ^ 64 - 1) && list_any (λ n. n == calls + 1) fails

abbrev pub fails_by_number : MemoryStore → Bool
fails_by_number s = fails_next s.fails s.calls

-- the number of calls after one more, which stays at the greatest u64
abbrev pub next_count : ℕ → ℕ
next_count calls = if nat_lt calls (2 ^ 64 - 1) then calls + 1 else calls

-- the store, with one more call counted
abbrev pub one_more_call : MemoryStore → MemoryStore
one_more_call s = record s { calls = next_count s.calls }

-- the store after a call that gave up: the call is counted, and where it failed its fault too
abbrev pub after_err : {A : Type 0} → (Faults → Faults) → Result A StoreErr → MemoryStore → MemoryStore
after_err one_more result s = record (one_more_call s) { faults = counted one_more result s.faults }

-- a store of these files, before any call
abbrev pub fresh_store : List NamedBytes → List ℕ → ℕ → MemoryStore
fresh_store files fails most = record {
  files = files;
  source = None;
  sink = None;
  said = [];
  faults = no_faults;
  fails = fails;
  calls = 0;
  most = most;
}
