-- A file that is read piece by piece.
use Rattle.std.proofs.Common.{ℕ, ◌≡◌, ◌≤◌, take, drop, length, List, [], ◌++◌, Option, Some, None, option_map, unwrap_or, IfSome, IsSome, refl, sym, ◌∙◌, ap, append_assoc}
use Rattle.std.proofs.lemmas.List.{take-append-drop}
use Rattle.std.proofs.Math.Seq.{drop-append_seam}
use Rattle.pf_io.specs.Store.{Told, after_open, after_read}
use Rattle.pf_io.specs.Transfer.{ReadsPart}

-- what a store tells, with this rest of its source
abbrev pub with_unread : List ℕ → Told → Told
with_unread rest t = record t { unread = rest }

-- of the named file these bytes were read, and the rest wasn't
pub record IsReadSoFar (before : Option Told) (name bytes : List ℕ) (now : Option Told) : Type 0 where
  pub rest : List ℕ
  pub unread : now ≡ option_map (with_unread rest) before
  pub parts : IfSome before (λ t. t.files name ≡ Some (bytes ++ rest))

pub opened : (before : Option Told) (name : List ℕ) (now : Option Told)
    → IfSome before (λ t. IsSome (t.files name)) → now ≡ option_map (after_open name) before
    → IsReadSoFar before name [] now
opened None name now there is = record { rest = []; unread = is; parts = there }
opened (Some t) name now there is = record { rest = unwrap_or (t.files name) []; unread = is; parts = known (t.files name) there } where
  known : (contents : Option (List ℕ)) → IsSome contents → contents ≡ Some (unwrap_or contents [])
  known None there = cc
  known (Some x) there = refl

pub read_on : (before : Option Told) (name bytes : List ℕ) (mid : Option Told) (n : ℕ) (buffer : List ℕ) (now : Option Told)
    → IsReadSoFar before name bytes mid
    → IfSome mid (λ t. (n ≤ length t.unread) × (take n buffer ≡ take n t.unread))
    → now ≡ option_map (after_read n) mid
    → IsReadSoFar before name (bytes ++ take n buffer) now
read_on None name bytes mid n buffer now so_far taken is = record {
  rest = [];
  unread = is ∙ ap (option_map (after_read n)) so_far.unread;
  parts = so_far.parts;
}
read_on (Some t) name bytes mid n buffer now so_far taken is =
    let here : (n ≤ length so_far.rest) × (take n buffer ≡ take n so_far.rest) =
    rw so_far.unread at taken in
    record {
      rest = drop n so_far.rest;
      unread = is ∙ ap (option_map (after_read n)) so_far.unread;
      parts = so_far.parts ∙ ap Some (ap (λ (r : List ℕ). bytes ++ r) (sym (take-append-drop n so_far.rest)) ∙ sym (append_assoc bytes (take n so_far.rest) (drop n so_far.rest)) ∙ ap (λ (p : List ℕ). (bytes ++ p) ++ drop n so_far.rest) (sym here.1));
    }

-- so many bytes of the file were read
pub read_count : (before : Option Told) (name bytes : List ℕ) (now : Option Told) (n : ℕ)
    → IsReadSoFar before name bytes now → length bytes ≡ n
    → now ≡ option_map (λ t. after_read n (after_open name t)) before
read_count None name bytes now n so_far count = so_far.unread
read_count (Some t) name bytes now n so_far count = so_far.unread ∙ ap (λ (rest : List ℕ). Some (with_unread rest t)) (sym dropped) where
  dropped : drop n (unwrap_or (t.files name) []) ≡ so_far.rest
  dropped = rw (so_far.parts, ← count) (drop-append_seam bytes so_far.rest)

-- which is a part of it, also where the next call tells the same
pub part_read : (before : Option Told) (name bytes : List ℕ) (mid now : Option Told) (most : ℕ)
    → IsReadSoFar before name bytes mid → length bytes ≤ most → now ≡ mid → ReadsPart name most before now
part_read before name bytes mid now most so_far few same =
    (length bytes, few, same ∙ read_count before name bytes mid (length bytes) so_far refl)
