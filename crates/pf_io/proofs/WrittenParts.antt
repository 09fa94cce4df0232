-- Pieces that are written one after another, as one piece.
use Rattle.std.proofs.Common.{ℕ, ◌≡◌, ◌+◌, ◌-◌, take, drop, length, Bool, true, false, List, [], ◌++◌, Option, Some, None, option_map, unwrap_or, if◌then◌else◌, IfSome, IsSome, refl, sym, ◌∙◌, ap, append_assoc, append-nil, arith, inl, inr}
use Rattle.std.proofs.lemmas.Bool.{cases_Bool}
use Rattle.std.proofs.lemmas.List.{take-take, take_rest, take-append-drop, drop-take}
use Rattle.std.specs.Str.{bytes_eq}
use Rattle.std.proofs.lemmas.Slice.Eq.{bytes_eq-Decides}
use Rattle.std.proofs.Math.Path.{fun_ext}
use Rattle.pf_io.specs.Store.{Files, Told, with_contents, files_after_write, after_write}

-- a name is itself
pub same_name : (name : List ℕ) → bytes_eq name name ≡ true
same_name name = (bytes_eq-Decides name name).1 refl

-- of the contents put under a name twice the later stay
pub contents_twice : (files : Files) (name first then_ : List ℕ)
    → with_contents (with_contents files name first) name then_ ≡ with_contents files name then_
contents_twice files name first then_ = fun_ext (λ other. picks_twice (bytes_eq other name) then_ first (files other)) where
  picks_twice : (mine : Bool) (x y : List ℕ) (z : Option (List ℕ))
      → (if mine then Some x else (if mine then Some y else z)) ≡ (if mine then Some x else z)
  picks_twice true x y z = refl
  picks_twice false x y z = refl

files_twice : (a b : List ℕ) (sink : Option (List ℕ)) (files : Files)
    → files_after_write b sink (files_after_write a sink files) ≡ files_after_write (a ++ b) sink files
files_twice a b None files = refl
files_twice a b (Some name) files = rw (contents_twice, same_name name, append_assoc) refl

pub write_twice : (a b : List ℕ) (t : Told) → after_write b (after_write a t) ≡ after_write (a ++ b) t
write_twice a b t = cc (files_twice a b t.sink t.files, append_assoc t.written a b)

-- contents that are there stay when they are put again
contents_again : (files : Files) (name : List ℕ) → IsSome (files name)
    → with_contents files name (unwrap_or (files name) [] ++ []) ≡ files
contents_again files name there =
    fun_ext
    (λ other.
    elim (cases_Bool (bytes_eq other name)) [
      | inl mine ↦
          rw (mine, append-nil, unwrapped (files name) there) (ap files (sym ((bytes_eq-Decides other name).0 mine)))
      | inr another ↦ rw another refl
    ])
  where
    unwrapped : (contents : Option (List ℕ)) → IsSome contents → Some (unwrap_or contents []) ≡ contents
    unwrapped None there = cc
    unwrapped (Some x) there = refl

files_again : (sink : Option (List ℕ)) (files : Files) → IfSome sink (λ name. IsSome (files name))
    → files_after_write [] sink files ≡ files
files_again None files there = refl
files_again (Some name) files there = contents_again files name there

pub write_nothing : (t : Told) → IfSome t.sink (λ name. IsSome (t.files name)) → after_write [] t ≡ t
write_nothing t there =
    ap (λ (f : Files). record t { files = f; written = t.written ++ [] }) (files_again t.sink t.files there)
    ∙ ap (λ (w : List ℕ). record t { written = w }) (append-nil t.written)

-- the same of what may be told, which is all or nothing
pub writes_twice : (a b : List ℕ) (told : Option Told)
    → option_map (after_write b) (option_map (after_write a) told) ≡ option_map (after_write (a ++ b)) told
writes_twice a b None = refl
writes_twice a b (Some t) = ap Some (write_twice a b t)

pub writes_nothing : (told : Option Told) → IfSome told (λ t. IfSome t.sink (λ name. IsSome (t.files name)))
    → option_map (after_write []) told ≡ told
writes_nothing None there = refl
writes_nothing (Some t) there = ap Some (write_nothing t there)

-- the first bytes of a piece, and then the first bytes of its rest
more_written : (piece : List ℕ) (done n : ℕ)
    → take done piece ++ take n (take (length piece - done) (drop done piece)) ≡ take (done + n) piece
more_written piece done n =
    let front : take done (take (done + n) piece) ≡ take done piece = take-take done (done + n) piece (omega arith) in
    let back : drop done (take (done + n) piece) ≡ take n (drop done piece) = drop-take done n piece in
    let whole : take done (take (done + n) piece) ++ drop done (take (done + n) piece) ≡ take (done + n) piece = take-append-drop done (take (done + n) piece) in
    cc (take_rest piece done)

pub write_on : (piece : List ℕ) (done n : ℕ) (before mid after : Option Told)
    → mid ≡ option_map (after_write (take done piece)) before
    → after ≡ option_map (after_write (take n (take (length piece - done) (drop done piece)))) mid
    → after ≡ option_map (after_write (take (done + n) piece)) before
write_on piece done n before mid after first then_ =
    then_
    ∙ ap (option_map (after_write (take n (take (length piece - done) (drop done piece))))) first
    ∙ writes_twice (take done piece) (take n (take (length piece - done) (drop done piece))) before
    ∙ ap (λ (bytes : List ℕ). option_map (after_write bytes) before) (more_written piece done n)
