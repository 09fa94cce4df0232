-- What creating an output and appending pieces to it leaves.
use Rattle.std.proofs.Common.{ℕ, ◌≡◌, ◌≢◌, ◌⊎◌, inl, inr, List, [], ◌∷◌, ◌++◌, Bool, true, false, Option, Some, None, option_map, unwrap_or, refl, sym, ap, subst, ◌∙◌}
use Rattle.std.specs.List.{concat}
use Rattle.std.specs.Str.{bytes_eq}
use Rattle.std.proofs.lemmas.List.{append_assoc, append-nil}
use Rattle.std.proofs.lemmas.Slice.Eq.{bytes_eq-Decides}
use Rattle.pf_io.specs.Store.{Files, Told, after_create, after_write, with_contents, files_after_write}
use Rattle.command_frame.specs.Effects.{Leaves, LeavesFiles, LeavesSaid, HasWritten, HasBegun}
use Rattle.command_frame.specs.Output.{appended, Appends}
use Rattle.command_frame.specs.Standing.{IfBoth, IsWritten, IsFrontOf}
use Rattle.command_frame.specs.Status.{IsLast, EndsWriting, failed_call}
use Rattle.command_frame.specs.Verdict.{Verdict, writes}
use Rattle.command_frame.specs.declared.status.Status.{Status}
use Rattle.command_frame.specs.declared.status.Status.TheVariants.{Done, Usage, Refused, Numeric, Lists, StoreFault, Memory}
use Rattle.command_frame.specs.declared.status.StoreCall.{StoreCall}
use Rattle.command_frame.specs.declared.status.StoreCall.TheVariants.{Write}

is_false : (b : Bool) → (b ≡ true → ⊥) → b ≡ false
is_false true h = absurd (h refl)
is_false false h = refl

eq_same : (name : List ℕ) → bytes_eq name name ≡ true
eq_same name = (bytes_eq-Decides name name).1 refl

eq_other : (name other : List ℕ) → other ≢ name → bytes_eq other name ≡ false
eq_other name other h = is_false (bytes_eq other name) (λ e. h ((bytes_eq-Decides other name).0 e))

there : (files : Files) (name bytes : List ℕ) → with_contents files name bytes name ≡ Some bytes
there files name bytes = rw (eq_same name) refl

elsewhere : (files : Files) (name bytes other : List ℕ) → other ≢ name → with_contents files name bytes other ≡ files other
elsewhere files name bytes other h = rw (eq_other name other h) refl

-- the sink has more, and all else stays
record HasMore (out text : List ℕ) (old new : Told) : Type 0 where
  sink : new.sink ≡ Some out
  written : IsWritten out text old.files new.files
  said : new.said ≡ old.said

created : (out : List ℕ) (t : Told) → HasMore out [] t (after_create out t)
created out t = record {
  sink = refl;
  written = record { there = there t.files out []; others = λ other h. elsewhere t.files out [] other h };
  said = refl;
}

-- one more piece at the end of the sink
one_more_piece : (out text piece : List ℕ) (t u : Told) → HasMore out text t u → HasMore out (text ++ piece) t (after_write piece u)
one_more_piece out text piece t u more =
    let files : files_after_write piece u.sink u.files ≡ with_contents u.files out (text ++ piece) =
    ap (λ (sink : Option (List ℕ)). files_after_write piece sink u.files) more.sink
    ∙ ap (λ (found : Option (List ℕ)). with_contents u.files out (unwrap_or found [] ++ piece)) more.written.there in
    record {
      sink = more.sink;
      written = record {
        there = ap (λ (f : Files). f out) files ∙ there u.files out (text ++ piece);
        others = λ other h. ap (λ (f : Files). f other) files ∙ elsewhere u.files out (text ++ piece) other h ∙ more.written.others other h;
      };
      said = more.said;
    }

all_pieces : (pieces : List (List ℕ)) (out text : List ℕ) (t u : Told) → HasMore out text t u → HasMore out (text ++ concat pieces) t (appended pieces u)
all_pieces [] out text t u more = subst (λ (bytes : List ℕ). HasMore out bytes t u) (sym (append-nil text)) more
all_pieces (piece ∷ pieces) out text t u more =
    subst (λ (bytes : List ℕ). HasMore out bytes t (appended pieces (after_write piece u))) (append_assoc text piece (concat pieces))
    (all_pieces pieces out (text ++ piece) t (after_write piece u) (one_more_piece out text piece t u more))

output : (pieces : List (List ℕ)) (out : List ℕ) (t : Told) → HasMore out (concat pieces) t (appended pieces (after_create out t))
output pieces out t = all_pieces pieces out [] t (after_create out t) (created out t)

-- all of the text that the verdict names was written
pub ended : {R F : Type 0} (Means : Verdict R F → Type 0) (status : Status R F) (old new : Files) → IsLast status → HasWritten Means status old new → LeavesFiles Means status old new
ended Means Done old new last h = inl h
ended Means Usage old new last h = absurd last
ended Means (Refused refusal) old new last h = absurd last
ended Means (Numeric step fault) old new last h = inl h
ended Means (Lists step count) old new last h = inl h
ended Means (StoreFault call) old new last h = absurd last
ended Means Memory old new last h = absurd last

silent : {R F : Type 0} (Means : Verdict R F → Type 0) (status : Status R F) (old new out text : List ℕ) → IsLast status → Means (writes out text status) → new ≡ old → LeavesSaid Means status old new
silent Means Done old new out text last meant e = inl (record { out = out; text = text; meant = meant; silent = e })
silent Means Usage old new out text last meant e = e
silent Means (Refused refusal) old new out text last meant e = e
silent Means (Numeric step fault) old new out text last meant e = e
silent Means (Lists step count) old new out text last meant e = e
silent Means (StoreFault call) old new out text last meant e = e
silent Means Memory old new out text last meant e = e

-- the verdict that this text is written under this name
abbrev pub WritesThis : {R F : Type 0} → List ℕ → List ℕ → Status R F → Files → Verdict R F → Type 0
WritesThis out text last files verdict = verdict ≡ writes out text last

pub wrote : {R F : Type 0} (out : List ℕ) (texts : List (List ℕ)) (status : Status R F) (old mid new : Option Told) → IsLast status
    → mid ≡ option_map (after_create out) old → new ≡ option_map (appended texts) mid → IfBoth old new (Leaves (WritesThis out (concat texts) status) status)
wrote out texts status None mid new last made e = tt
wrote out texts status (Some t) mid new last made e =
    let all = output texts out t in
    subst (λ o. IfBoth (Some t) o (Leaves (WritesThis out (concat texts) status) status)) (sym (e ∙ ap (option_map (appended texts)) made))
    (record {
      files = ended (WritesThis out (concat texts) status t.files) status t.files _ last (record { out = out; text = concat texts; meant = refl; written = all.written });
      said = silent (WritesThis out (concat texts) status t.files) status t.said _ out (concat texts) last refl all.said;
    })

begun : {R F : Type 0} (out : List ℕ) (texts pieces : List (List ℕ)) (last : Status R F) (t : Told) → IsFrontOf (concat pieces) (concat texts)
    → HasBegun (WritesThis out (concat texts) last t.files) t.files (appended pieces (after_create out t)).files
begun out texts pieces last t begins = record {
  verdict = record { out = out; text = concat texts; last = last; meant = refl };
  front = concat pieces;
  rest = begins.0;
  split = begins.1;
  written = (output pieces out t).written;
}

broke : {R F : Type 0} (out : List ℕ) (texts pieces : List (List ℕ)) (last status : Status R F) (old mid new : Option Told)
    → (status ≡ StoreFault Write) ⊎ (status ≡ Memory) → IsFrontOf (concat pieces) (concat texts)
    → mid ≡ option_map (after_create out) old → new ≡ option_map (appended pieces) mid → IfBoth old new (Leaves (WritesThis out (concat texts) last) status)
broke out texts pieces last status None mid new how begins made e = tt
broke {R} {F} out texts pieces last status (Some t) mid new how begins made e =
    let u = appended pieces (after_create out t) in
    let as_status : (s : Status R F) → status ≡ s → Leaves (WritesThis out (concat texts) last) s t u → IfBoth (Some t) (Some u) (Leaves (WritesThis out (concat texts) last) status) =
    λ s is h. subst (λ (x : Status R F). Leaves (WritesThis out (concat texts) last) x t u) (sym is) h in
    subst (λ o. IfBoth (Some t) o (Leaves (WritesThis out (concat texts) last) status)) (sym (e ∙ ap (option_map (appended pieces)) made))
    (elim how [
      | inl is ↦ as_status (StoreFault Write) is (record { files = begun out texts pieces last t begins; said = (output pieces out t).said })
      | inr is ↦ as_status Memory is (record { files = inr (begun out texts pieces last t begins); said = (output pieces out t).said })
    ])

pub left : {R F : Type 0} (out : List ℕ) (texts : List (List ℕ)) (last status : Status R F) (old mid new : Option Told)
    → mid ≡ option_map (after_create out) old → Appends texts last status mid new → IfBoth old new (Leaves (WritesThis out (concat texts) last) status)
left {R} {F} out texts last status old mid new made h = elim h [
  | inl all ↦ subst (λ (s : Status R F). IfBoth old new (Leaves (WritesThis out (concat texts) s) status)) all.0 (wrote out texts status old mid new all.1 made all.2)
  | inr some ↦ broke out texts some.1 last status old mid new some.0 some.2 made some.3
]

-- a store that tells these contents
with_files : Files → Told
with_files files = record { files = files; unread = []; written = []; sink = None; said = [] }

-- so a status after an appending is one to which the text leads on any contents
pub left_untold : {R F : Type 0} (out : List ℕ) (texts : List (List ℕ)) (last status : Status R F) (mid new : Option Told)
    → Appends texts last status mid new → (files : Files) → (later : Files) × LeavesFiles (WritesThis out (concat texts) last files) status files later
unfolding with_files
left_untold {R} {F} out texts last status mid new h files = elim h [
  | inl all ↦ subst (λ (s : Status R F). Leads s) (all.0)
      (let w = wrote out texts status (Some t) (Some u) (option_map (appended texts) (Some u)) all.1 refl refl in (_, w.files))
  | inr some ↦ (_, (broke out texts some.1 last status (Some t) (Some u) (option_map (appended some.1) (Some u)) some.0 some.2 refl refl).files)
] where
  t : Told
  t = with_files files

  u : Told
  u = after_create out t

  Leads : Status R F → Type 0
  Leads s = (later : Files) × LeavesFiles (WritesThis out (concat texts) s files) status files later

last_ends : {R F : Type 0} (status : Status R F) → IsLast status → EndsWriting status
last_ends Done last = tt
last_ends Usage last = absurd last
last_ends (Refused refusal) last = absurd last
last_ends (Numeric step fault) last = tt
last_ends (Lists step count) last = tt
last_ends (StoreFault call) last = absurd last
last_ends Memory last = absurd last

pub ends : {R F : Type 0} (texts : List (List ℕ)) (last status : Status R F) (mid new : Option Told) → Appends texts last status mid new → EndsWriting status
ends {R} {F} texts last status mid new h = elim h [
  | inl all ↦ last_ends status all.1
  | inr some ↦ elim some.0 [ inl e ↦ subst (λ (s : Status R F). EndsWriting s) (sym e) tt | inr e ↦ subst (λ (s : Status R F). EndsWriting s) (sym e) tt ]
]

pub no_fault : {R F : Type 0} (status : Status R F) (call : StoreCall) → failed_call status ≡ None → status ≡ StoreFault call → ⊥
no_fault status call none e = let other = ap failed_call e in cc
