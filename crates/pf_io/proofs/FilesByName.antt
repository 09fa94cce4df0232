-- Files that are found by their names.
use Rattle.std.proofs.Common.{ℕ, ◌≡◌, ◌<◌, ◌≤◌, Bool, true, length, List, [], ◌∷◌, ◌++◌, Option, Some, None, option_map, set, get_or, refl, sym, ◌∙◌, ap, arith, inl, inr, nat_lt, length-set, get_or-set_same, eq-eqb}
use Rattle.std.specs.List.{position, position_or_len, find, slice_get}
use Rattle.std.specs.Str.{bytes_eq}
use Rattle.std.proofs.lemmas.List.Folds.{find_at, find-append, find_past, find-set, position_or_len-set, position_or_len_push}
use Rattle.std.proofs.lemmas.List.Sums.{prefix_len-le-length}
use Rattle.std.proofs.lemmas.List.Quantifiers.{position-Some}
use Rattle.std.proofs.lemmas.Option.{cond_some, slice_get_past, slice_get-get_or, get_or_from_slice_get}
use Rattle.std.proofs.lemmas.Slice.Eq.{bytes_eq-Decides}
use Rattle.std.proofs.lemmas.Bool.{cases_Bool, ltb-true}
use Rattle.std.proofs.lemmas.Bool.Decides.{nat_tests}
use Rattle.std.proofs.lemmas.List.{length_push}
use Rattle.std.specs.Option.{option_or, IsSomeAnd}
use Rattle.std.proofs.Math.Path.{fun_ext}
use Rattle.pf_io.specs.Store.{with_contents, after_write}
use Rattle.pf_io.specs.MemoryStore.{NamedBytes, MemoryStore, contents_of, told_of, IsFirstOfItsName}

abbrev pub named : List ℕ → NamedBytes → Bool
named name f = bytes_eq name f.name

abbrev pub file : List ℕ → List ℕ → NamedBytes
file name bytes = record { name = name; bytes = bytes }

-- the first place at which a test passes
pub record IsPlace {X : Type 0} (p : X → Bool) (xs : List X) (i : ℕ) : Type 0 where
  pub first : position_or_len p xs ≡ i
  pub within : i < length xs

pub place_is : {X : Type 0} (p : X → Bool) (xs : List X) (i : ℕ) → position p xs ≡ Some i → IsPlace p xs i
place_is p xs i e =
    let parts : (nat_lt (position_or_len p xs) (length xs) ≡ true) × (position_or_len p xs ≡ i) = cond_some _ _ _ e in
    record { first = parts.1; within = let below = ltb-true _ _ parts.0 in omega (arith, below) }

pub is_place : {X : Type 0} (p : X → Bool) (xs : List X) (i : ℕ) → IsPlace p xs i → position p xs ≡ Some i
is_place p xs i place =
    let first = place.first in let within = place.within in grind (arith, nat_tests)

pub no_place : {X : Type 0} (p : X → Bool) (xs : List X) → position p xs ≡ None → position_or_len p xs ≡ length xs
no_place p xs e =
    let most : position_or_len p xs ≤ length xs = prefix_len-le-length _ xs in grind (arith, nat_tests)

self_named : (name : List ℕ) → bytes_eq name name ≡ true
self_named name = (bytes_eq-Decides name name).1 refl

-- where a file is, it has the name
pub name_there : (files : List NamedBytes) (name : List ℕ) (i : ℕ) (d : NamedBytes) → position (named name) files ≡ Some i
    → (get_or files i d).name ≡ name
name_there files name i d e = sym ((bytes_eq-Decides name _).0 ((position-Some (named name) files i d e).1))

-- a file that is written is where it was, with its new contents, and the other files have theirs
pub place_rewritten : (files : List NamedBytes) (name : List ℕ) (i : ℕ) (bytes : List ℕ)
    → position (named name) files ≡ Some i → position (named name) (set files i (file name bytes)) ≡ Some i
place_rewritten files name i bytes e =
    let d = file name bytes in
    let place : IsPlace (named name) files i = place_is _ _ _ e in
    let same : named name d ≡ named name (get_or files i d) = self_named name ∙ sym ((position-Some (named name) files i d e).1) in
    is_place (named name) (set files i d) i
    record {
      first = position_or_len-set (named name) files i d d same ∙ place.first;
      within = rw length-set place.within;
    }

pub file_rewritten : (files : List NamedBytes) (i : ℕ) (f : NamedBytes)
    → i < length files → slice_get (set files i f) i ≡ Some f
file_rewritten files i f within =
    slice_get-get_or (set files i f) i f (rw length-set within) ∙ ap Some (get_or-set_same files i f f within)

pub contents_rewritten : (files : List NamedBytes) (name : List ℕ) (i : ℕ) (bytes : List ℕ)
    → position (named name) files ≡ Some i
    → contents_of (set files i (file name bytes)) ≡ with_contents (contents_of files) name bytes
contents_rewritten files name i bytes e =
    fun_ext
    (λ other.
    elim (cases_Bool (bytes_eq other name)) [
      | inl mine ↦
          let is : other ≡ name = (bytes_eq-Decides other name).0 mine in
          rw (mine, is)
          (ap (option_map (λ (f : NamedBytes). f.bytes))
          (find-set (named name) files i (file name bytes) (sym (place_is (named name) files i e).first) (place_is (named name) files i e).within (self_named name)))
      | inr another ↦
          rw another
          (ap (option_map (λ (f : NamedBytes). f.bytes))
          (find_past (named other) files i (file name bytes) (file name bytes) (ap (bytes_eq other) (name_there files name i (file name bytes) e) ∙ another) another))
    ])

-- a file that is added is the last, with its contents, where there was none of its name
pub place_added : (files : List NamedBytes) (name bytes : List ℕ)
    → position (named name) files ≡ None → position (named name) (files ++ file name bytes ∷ []) ≡ Some (length files)
place_added files name bytes e =
    let none : position_or_len (named name) files ≡ length files = no_place (named name) files e in
    is_place (named name) (files ++ file name bytes ∷ []) (length files)
    record {
      first = position_or_len_push (named name) files (file name bytes) ∙ rw (none, eq-eqb (length files) (length files) refl, self_named name) (omega arith);
      within = rw length_push (omega arith);
    }

pub file_added : (files : List NamedBytes) (f : NamedBytes) → slice_get (files ++ f ∷ []) (length files) ≡ Some f
file_added [] f = refl
file_added (g ∷ files) f = file_added files f

pub contents_added : (files : List NamedBytes) (name bytes : List ℕ)
    → position (named name) files ≡ None
    → contents_of (files ++ file name bytes ∷ []) ≡ with_contents (contents_of files) name bytes
contents_added files name bytes e =
    fun_ext
    (λ other.
    elim (cases_Bool (bytes_eq other name)) [
      | inl mine ↦
          let is : other ≡ name = (bytes_eq-Decides other name).0 mine in
          let none : find (named name) files ≡ None = find_at (named name) files ∙ slice_get_past files _ (omega (arith, no_place (named name) files e)) in
          rw (mine, is, find-append, none, self_named name) refl
      | inr another ↦
          rw (find-append, another) (kept (find (named other) files))
    ])
  where
    kept : (found : Option NamedBytes)
        → option_map (λ (f : NamedBytes). f.bytes) (option_or found None) ≡ option_map (λ (f : NamedBytes). f.bytes) found
    kept None = refl
    kept (Some f) = refl

-- a file at the first place of its name
pub record IsFirst (files : List NamedBytes) (i : ℕ) (f : NamedBytes) : Type 0 where
  pub there : slice_get files i ≡ Some f
  pub place : position (named f.name) files ≡ Some i

pub first_is : (files : List NamedBytes) (i : ℕ) (f : NamedBytes) → f ≡ get_or files i f → IsFirstOfItsName files i → IsFirst files i f
first_is files i f is first = by_slot (slice_get files i) refl first where
  by_slot : (slot : Option NamedBytes) → slice_get files i ≡ slot
      → IsSomeAnd slot (λ g. position (named g.name) files ≡ Some i) → IsFirst files i f
  by_slot None e first = absurd first
  by_slot (Some g) e first =
      let same : f ≡ g = is ∙ get_or_from_slice_get files i g f e in
      record { there = rw same e; place = rw same first }

-- it stays so when it is written
pub first_written : (files : List NamedBytes) (i : ℕ) (f : NamedBytes) (bytes : List ℕ) → IsFirst files i f
    → IsFirst (set files i (file f.name bytes)) i (file f.name bytes)
first_written files i f bytes first = record {
  there = file_rewritten files i (file f.name bytes) (place_is (named f.name) files i first.place).within;
  place = place_rewritten files f.name i bytes first.place;
}

pub is_first : (files : List NamedBytes) (i : ℕ) (f : NamedBytes) → IsFirst files i f → IsFirstOfItsName files i
is_first files i f first = rw first.there first.place

-- a store in memory tells of its sink's file what is written to it
pub told_written : (s : MemoryStore) (i : ℕ) (f : NamedBytes) (piece : List ℕ) → s.sink ≡ Some i → IsFirst s.files i f
    → told_of (record s { files = set s.files i (file f.name (f.bytes ++ piece)) }) ≡ after_write piece (told_of s)
told_written s i f piece is first =
    let there = first.there in
    let known : contents_of s.files f.name ≡ Some f.bytes =
    ap (option_map (λ (g : NamedBytes). g.bytes))
    (find_at (named f.name) s.files ∙ ap (slice_get s.files) (place_is (named f.name) s.files i first.place).first ∙ there) in
    let now = (first_written s.files i f (f.bytes ++ piece) first).there in
    let files = contents_rewritten s.files f.name i (f.bytes ++ piece) first.place in
    rw (is, now, there, files, known) refl
