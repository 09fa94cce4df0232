-- How the steps of a command make up the command: the reading of an input, and then what follows from its value. No
-- clause can range over relations, so these laws stand here with their proofs.
use Rattle.std.specs.Prelude.{ℕ, ◌≡◌, ◌≤◌, List, length, Option, Some, None, Result, Ok, Err, IsTrue, IfSome, refl}
use Rattle.std.proofs.Common.{inl, inr, sym, ◌∙◌, ap, subst}
use Rattle.pf_io.specs.Store.{Files, Told}
use Rattle.command_frame.specs.Effects.{CarriesOut, Leaves, LeavesFiles, LeavesSaid, IsStopped, HasWritten, HasBegun, IsToWrite, IsToSpeak}
use Rattle.command_frame.specs.Reading.{ReadsInput, Answers, Interprets, IsItself, ending_of, failing_of}
use Rattle.command_frame.specs.Standing.{Standing, IfBoth, IsKept}
use Rattle.command_frame.specs.Status.{EndsReading, failed_call, counts_after}
use Rattle.command_frame.specs.Verdict.{Verdict, lacks, stops, writes, speaks, After, AfterText, Within, IgnoresFiles}
use Rattle.command_frame.specs.declared.status.Status.{Status}
use Rattle.command_frame.specs.declared.status.Status.TheVariants.{Done, Usage, Refused, Numeric, Lists, StoreFault, Memory}
use Rattle.command_frame.specs.declared.status.StoreCall.{StoreCall}
use Rattle.command_frame.specs.declared.status.StoreCall.TheVariants.{Open, Read, Create, Write, Say}

-- one relation on verdicts holds wherever another does
abbrev Implies : {R F : Type 0} → (Verdict R F → Type 0) → (Verdict R F → Type 0) → Type 0
Implies {R} {F} M N = (verdict : Verdict R F) → M verdict → N verdict

stopped : {R F : Type 0} (M N : Verdict R F → Type 0) (status : Status R F) (old new : Files) → Implies M N → IsStopped M status old new → IsStopped N status old new
stopped M N status old new more h = record { meant = more (stops status) h.meant; kept = h.kept }

wrote : {R F : Type 0} (M N : Verdict R F → Type 0) (status : Status R F) (old new : Files) → Implies M N → HasWritten M status old new → HasWritten N status old new
wrote M N status old new more h = record { out = h.out; text = h.text; meant = more (writes h.out h.text status) h.meant; written = h.written }

due : {R F : Type 0} (M N : Verdict R F → Type 0) → Implies M N → IsToWrite M → IsToWrite N
due M N more h = record { out = h.out; text = h.text; last = h.last; meant = more (writes h.out h.text h.last) h.meant }

begun : {R F : Type 0} (M N : Verdict R F → Type 0) (old new : Files) → Implies M N → HasBegun M old new → HasBegun N old new
unfolding due
begun M N old new more h = record { verdict = due M N more h.verdict; front = h.front; rest = h.rest; split = h.split; written = h.written }

to_speak : {R F : Type 0} (M N : Verdict R F → Type 0) → Implies M N → IsToSpeak M → IsToSpeak N
to_speak M N more h = record { text = h.text; meant = more (speaks h.text) h.meant }

files_of_more : {R F : Type 0} (M N : Verdict R F → Type 0) (status : Status R F) (old new : Files) → Implies M N → LeavesFiles M status old new → LeavesFiles N status old new
files_of_more M N Done old new more h = elim h [ inl w ↦ inl (wrote M N Done old new more w) | inr s ↦ inr (to_speak M N more s.0, s.1) ]
files_of_more M N Usage old new more h = stopped M N Usage old new more h
files_of_more M N (Refused refusal) old new more h = stopped M N (Refused refusal) old new more h
files_of_more M N (Numeric step fault) old new more h = elim h [
  | inl w ↦ inl (wrote M N (Numeric step fault) old new more w)
  | inr s ↦ inr (stopped M N (Numeric step fault) old new more s)
]
files_of_more M N (Lists step count) old new more h = elim h [
  | inl w ↦ inl (wrote M N (Lists step count) old new more w)
  | inr s ↦ inr (stopped M N (Lists step count) old new more s)
]
files_of_more M N (StoreFault Open) old new more h = h
files_of_more M N (StoreFault Read) old new more h = h
files_of_more M N (StoreFault Create) old new more h = (due M N more h.0, h.1)
files_of_more M N (StoreFault Write) old new more h = begun M N old new more h
files_of_more M N (StoreFault Say) old new more h = (to_speak M N more h.0, h.1)
files_of_more M N Memory old new more h = elim h [ inl e ↦ inl e | inr b ↦ inr (begun M N old new more b) ]

said_of_more : {R F : Type 0} (M N : Verdict R F → Type 0) (status : Status R F) (old new : List ℕ) → Implies M N → LeavesSaid M status old new → LeavesSaid N status old new
said_of_more M N Done old new more h = elim h [
  | inl n ↦ inl (record { out = n.out; text = n.text; meant = more (writes n.out n.text Done) n.meant; silent = n.silent })
  | inr s ↦ inr (record { text = s.text; meant = more (speaks s.text) s.meant; said = s.said })
]
said_of_more M N Usage old new more h = h
said_of_more M N (Refused refusal) old new more h = h
said_of_more M N (Numeric step fault) old new more h = h
said_of_more M N (Lists step count) old new more h = h
said_of_more M N (StoreFault call) old new more h = h
said_of_more M N Memory old new more h = h

-- what a command leaves, from a telling with the same contents and with the same said
leaves_from : {R F : Type 0} (M N : Files → Verdict R F → Type 0) (status : Status R F) (t u v : Told)
    → Implies (M t.files) (N t.files) → IsKept t u → Leaves M status u v → Leaves N status t v
leaves_from {R} {F} M N status t u v more kept h = record {
  files = files_of_more (M t.files) (N t.files) status t.files v.files more
      (subst (λ (files : Files). LeavesFiles (M files) status files v.files) kept.files h.files);
  said = said_of_more (M t.files) (N t.files) status t.said v.said more
      (subst (λ (said : List ℕ). LeavesSaid (M t.files) status said v.said) kept.said
      (subst (λ (files : Files). LeavesSaid (M files) status u.said v.said) kept.files h.said));
}

left_from : {R F : Type 0} (M N : Files → Verdict R F → Type 0) (status : Status R F) (old mid new : Option Told)
    → IfSome old (λ t. Implies (M t.files) (N t.files)) → IfBoth old mid IsKept → IfBoth mid new (Leaves M status) → IfBoth old new (Leaves N status)
left_from M N status None mid new more kept h = tt
left_from M N status (Some t) None new more kept h = absurd kept
left_from M N status (Some t) (Some u) None more kept h = h
left_from M N status (Some t) (Some u) (Some v) more kept h = leaves_from M N status t u v more kept h

-- that an input lacks is known from a telling with the same contents
lacks_from : {R F : Type 0} (M N : Files → Verdict R F → Type 0) (old mid : Option Told)
    → IfSome old (λ t. Implies (M t.files) (N t.files)) → IfBoth old mid IsKept → IfSome mid (λ t. M t.files lacks) → IfSome old (λ t. N t.files lacks)
lacks_from M N None mid more kept h = tt
lacks_from M N (Some t) None more kept h = absurd kept
lacks_from M N (Some t) (Some u) more kept h = more lacks (subst (λ (files : Files). M files lacks) kept.files h)

-- on any contents, a status is one to which a verdict leads
abbrev EndsUntold : {R F : Type 0} → (Files → Verdict R F → Type 0) → Status R F → Type 0
EndsUntold M status = IgnoresFiles M → (files : Files) → (later : Files) × LeavesFiles (M files) status files later

untold_of_more : {R F : Type 0} (M N : Files → Verdict R F → Type 0) (status : Status R F) → ((files : Files) (verdict : Verdict R F) → M files verdict → N files verdict) → (IgnoresFiles N → IgnoresFiles M)
    → EndsUntold M status → EndsUntold N status
untold_of_more M N status more ignores h = λ alike files.
    let later = h (ignores alike) files in
    (later.0, files_of_more (M files) (N files) status files later.0 (more files) later.1)

-- a command is carried out where a step that changes nothing leads to it, and its verdicts follow
carried_from : {R F : Type 0} (E D : Status R F → Type 0) (M N : Files → Verdict R F → Type 0) (status : Status R F) (old mid new : Standing)
    → (E status → D status) → IfSome old.told (λ t. Implies (M t.files) (N t.files)) → IfBoth old.told mid.told IsKept → mid.faults ≡ old.faults → (IsTrue old.is_steady → IsTrue mid.is_steady)
    → EndsUntold N status → CarriesOut E M status mid new → CarriesOut D N status old new
carried_from E D M N status old mid new ends more kept counts steady untold h = record {
  ends = ends h.ends;
  left = left_from M N status old.told mid.told new.told more kept h.left;
  untold = untold;
  counts = h.counts ∙ ap (counts_after (failed_call status)) counts;
  stays_steady = λ is. h.stays_steady (steady is);
  steady = λ is call e. let lacking = h.steady (steady is) call e in (lacking.0, lacks_from M N old.told mid.told more kept lacking.1);
}

any_told : (o : Option Told) (P : Told → Type 0) → ((t : Told) → P t) → IfSome o P
any_told None P h = tt
any_told (Some t) P h = h t

same_kept : (o : Option Told) → IfBoth o o IsKept
same_kept None = tt
same_kept (Some t) = record { files = refl; said = refl }

-- a command is carried out as one with more verdicts and more statuses
pub carried_as_more : {R F : Type 0} (E D : Status R F → Type 0) (M N : Files → Verdict R F → Type 0) (status : Status R F) (old new : Standing)
    → (E status → D status) → ((files : Files) (verdict : Verdict R F) → M files verdict → N files verdict) → (IgnoresFiles N → IgnoresFiles M)
    → CarriesOut E M status old new → CarriesOut D N status old new
carried_as_more {R} {F} E D M N status old new ends more ignores h =
    carried_from E D M N status old old new ends (any_told old.told (λ t. Implies (M t.files) (N t.files)) (λ t. more t.files)) (same_kept old.told) refl (λ is. is)
    (untold_of_more M N status more ignores h.untold) h

-- a command that ends before it calls its store: with the status of its verdict, or for want of memory
pub carried_at_once : {R F : Type 0} (E : Status R F → Type 0) (M : Files → Verdict R F → Type 0) (status : Status R F) (old : Standing)
    → E status → ((files : Files) → LeavesFiles (M files) status files files) → ((files : Files) (said : List ℕ) → LeavesSaid (M files) status said said) → failed_call status ≡ None
    → CarriesOut E M status old old
carried_at_once {R} {F} E M status old ends files said none = record {
  ends = ends;
  left = left old.told;
  untold = λ alike any. (any, files any);
  counts = sym (ap (λ (o : Option StoreCall). counts_after o old.faults) none);
  stays_steady = λ is. is;
  steady = λ is call e. let other = ap failed_call e in cc;
} where
  left : (o : Option Told) → IfBoth o o (Leaves M status)
  left None = tt
  left (Some t) = record { files = files t.files; said = said t.files t.said }

-- the value of an input, as it is there
value_there : {X A R F : Type 0} (Means : List ℕ → Result A R → Type 0) (view : X → A) (next : A → Verdict R F → Type 0) (there : Option (List ℕ)) (answer : Result X (Status R F)) (x : X)
    → answer ≡ Ok x → Answers Means view there answer → Implies (next (view x)) (AfterText Means next there)
value_there {X} {A} {R} {F} Means view next None answer x is h = absurd (subst (λ (a : Result X (Status R F)). Answers Means view None a) is h)
value_there {X} {A} {R} {F} Means view next (Some text) answer x is h =
    λ verdict m. inr (view x, subst (λ (a : Result X (Status R F)). Answers Means view (Some text) a) is h, m)

-- the input was read, and the command goes on with its value
pub goes_on_after : {X A R F : Type 0} (E : Status R F → Type 0) (Means : List ℕ → Result A R → Type 0) (view : X → A) (name : List ℕ) (next : Files → A → Verdict R F → Type 0)
    (answer : Result X (Status R F)) (x : X) (status : Status R F) (old mid new : Standing)
    → answer ≡ Ok x → ReadsInput Means view name answer old mid → ¬ IgnoresFiles (λ files. After Means files name (next files))
    → CarriesOut E (λ files. next files (view x)) status mid new
    → CarriesOut E (λ files. After Means files name (next files)) status old new
goes_on_after {X} {A} {R} {F} E Means view name next answer x status old mid new is read looks h =
    carried_from E E (λ files. next files (view x)) (λ files. After Means files name (next files)) status old mid new (λ ends. ends)
    (follows old.told read.answers) read.kept (read.counts ∙ ap (λ (a : Result X (Status R F)). counts_after (failing_of a) old.faults) is) read.stays_steady
    (λ alike. absurd (looks alike)) h
  where
    follows : (o : Option Told) → IfSome o (λ t. Answers Means view (t.files name) answer) → IfSome o (λ t. Implies (next t.files (view x)) (After Means t.files name (next t.files)))
    follows None a = tt
    follows (Some t) a = value_there Means view (next t.files) (t.files name) answer x is a

-- the reading of the input ends the command
ends_after : {X A R F : Type 0} (Means : List ℕ → Result A R → Type 0) (view : X → A) (next : A → Verdict R F → Type 0) (there : Option (List ℕ)) (status : Status R F) (files : Files)
    → EndsReading status → Answers Means view there (Err status) → LeavesFiles (AfterText Means next there) status files files
ends_after Means view next there Done files ends h = absurd ends
ends_after Means view next there Usage files ends h = absurd ends
ends_after Means view next None (Refused refusal) files ends h = absurd h
ends_after Means view next (Some text) (Refused refusal) files ends h = record { meant = inl (refusal, h, refl); kept = refl }
ends_after Means view next there (Numeric step fault) files ends h = absurd ends
ends_after Means view next there (Lists step count) files ends h = absurd ends
ends_after Means view next there (StoreFault Open) files ends h = refl
ends_after Means view next there (StoreFault Read) files ends h = refl
ends_after Means view next there (StoreFault Create) files ends h = absurd ends
ends_after Means view next there (StoreFault Write) files ends h = absurd ends
ends_after Means view next there (StoreFault Say) files ends h = absurd ends
ends_after Means view next there Memory files ends h = inl refl

ends_silent : {R F : Type 0} (M : Verdict R F → Type 0) (status : Status R F) (said : List ℕ) → EndsReading status → LeavesSaid M status said said
ends_silent M Done said ends = absurd ends
ends_silent M Usage said ends = refl
ends_silent M (Refused refusal) said ends = refl
ends_silent M (Numeric step fault) said ends = refl
ends_silent M (Lists step count) said ends = refl
ends_silent M (StoreFault call) said ends = refl
ends_silent M Memory said ends = refl

ends_told : {X A R F : Type 0} (Means : List ℕ → Result A R → Type 0) (view : X → A) (name : List ℕ) (next : Files → A → Verdict R F → Type 0) (status : Status R F) (t u : Told)
    → EndsReading status → Answers Means view (t.files name) (Err status) → IsKept t u → Leaves (λ files. After Means files name (next files)) status t u
ends_told Means view name next status t u ends h kept = record {
  files = subst (λ (files : Files). LeavesFiles (After Means t.files name (next t.files)) status t.files files) (sym kept.files)
      (ends_after Means view (next t.files) (t.files name) status t.files ends h);
  said = subst (λ (said : List ℕ). LeavesSaid (After Means t.files name (next t.files)) status t.said said) (sym kept.said)
      (ends_silent (After Means t.files name (next t.files)) status t.said ends);
}

lacks_after : {A R F : Type 0} (Means : List ℕ → Result A R → Type 0) (next : A → Verdict R F → Type 0) (there : Option (List ℕ)) → there ≡ None → AfterText Means next there lacks
lacks_after Means next None e = refl
lacks_after Means next (Some text) e = cc

pub stops_after : {X A R F : Type 0} (E : Status R F → Type 0) (Means : List ℕ → Result A R → Type 0) (view : X → A) (name : List ℕ) (next : Files → A → Verdict R F → Type 0)
    (answer : Result X (Status R F)) (status : Status R F) (old new : Standing)
    → ((s : Status R F) → EndsReading s → E s) → answer ≡ Err status → ReadsInput Means view name answer old new
    → ¬ IgnoresFiles (λ files. After Means files name (next files))
    → CarriesOut E (λ files. After Means files name (next files)) status old new
stops_after {X} {A} {R} {F} E Means view name next answer status old new may is read looks =
    let ends : EndsReading status = subst (λ (a : Result X (Status R F)). IfSome (ending_of a) EndsReading) is read.ends in
    record {
      ends = may status ends;
      left = left old.told new.told ends read.answers read.kept;
      untold = λ alike. absurd (looks alike);
      counts = read.counts ∙ ap (λ (a : Result X (Status R F)). counts_after (failing_of a) old.faults) is;
      stays_steady = read.stays_steady;
      steady = λ steady call e. let lacking = read.steady steady call (is ∙ ap Err e) in (lacking.0, lacking_told old.told lacking.1);
    }
  where
    left : (o p : Option Told) → EndsReading status → IfSome o (λ t. Answers Means view (t.files name) answer) → IfBoth o p IsKept → IfBoth o p (Leaves (λ files. After Means files name (next files)) status)
    left None p ends a kept = tt
    left (Some t) None ends a kept = kept
    left (Some t) (Some u) ends a kept = ends_told Means view name next status t u ends (subst (λ (x : Result X (Status R F)). Answers Means view (t.files name) x) is a) kept

    lacking_told : (o : Option Told) → IfSome o (λ t. t.files name ≡ None) → IfSome o (λ t. After Means t.files name (next t.files) lacks)
    lacking_told None h = tt
    lacking_told (Some t) h = lacks_after Means (next t.files) (t.files name) h

-- a text that could not be loaded is an input that could not be read
fails_there : {X Y A R F : Type 0} (limit : ℕ) (large : R) (Means : List ℕ → Result A R → Type 0) (view : X → List ℕ) (look : Y → A) (there : Option (List ℕ)) (status : Status R F)
    → Answers (Within limit large IsItself) view there (Err status) → Answers (Within limit large Means) look there (Err status)
fails_there limit large Means view look there Done h = h
fails_there limit large Means view look there Usage h = h
fails_there limit large Means view look None (Refused refusal) h = h
fails_there limit large Means view look (Some text) (Refused refusal) h = elim h [ inl w ↦ let e = w.1 in cc | inr w ↦ let e = w.1 in let same : refusal ≡ large = cc in inr (w.0, ap Err same) ]
fails_there limit large Means view look there (Numeric step fault) h = h
fails_there limit large Means view look there (Lists step count) h = h
fails_there limit large Means view look there (StoreFault Open) h = h
fails_there limit large Means view look there (StoreFault Read) h = h
fails_there limit large Means view look there (StoreFault Create) h = h
fails_there limit large Means view look there (StoreFault Write) h = h
fails_there limit large Means view look there (StoreFault Say) h = h
fails_there limit large Means view look there Memory h = h

pub load_fails : {X Y A R F : Type 0} (limit : ℕ) (large : R) (Means : List ℕ → Result A R → Type 0) (view : X → List ℕ) (look : Y → A) (name : List ℕ) (status : Status R F) (loaded : Result X (Status R F)) (old new : Standing)
    → loaded ≡ Err status → ReadsInput (Within limit large IsItself) view name loaded old new → ReadsInput (Within limit large Means) look name (Err status) old new
load_fails {X} {Y} {A} {R} {F} limit large Means view look name status loaded old new is read = record {
  ends = subst (λ (a : Result X (Status R F)). IfSome (ending_of a) EndsReading) is read.ends;
  kept = read.kept;
  answers = answers old.told read.answers;
  counts = read.counts ∙ ap (λ (a : Result X (Status R F)). counts_after (failing_of a) old.faults) is;
  stays_steady = read.stays_steady;
  steady = λ steady call e. let same : status ≡ StoreFault call = cc in read.steady steady call (is ∙ ap Err same);
} where
  answers : (o : Option Told) → IfSome o (λ t. Answers (Within limit large IsItself) view (t.files name) loaded) → IfSome o (λ t. Answers (Within limit large Means) look (t.files name) (Err status))
  answers None h = tt
  answers (Some t) h = fails_there limit large Means view look (t.files name) status (subst (λ (a : Result X (Status R F)). Answers (Within limit large IsItself) view (t.files name) a) is h)

-- what is read in a text that was loaded
reads_there : {X Y A R F : Type 0} (limit : ℕ) (large : R) (Means : List ℕ → Result A R → Type 0) (view : X → List ℕ) (look : Y → A) (there : Option (List ℕ)) (x : X) (answer : Result Y (Status R F))
    → Answers {R = R} {F = F} (Within limit large IsItself) view there (Ok x) → Interprets Means look (view x) answer → Answers (Within limit large Means) look there answer
reads_there limit large Means view look None x answer h read = absurd h
reads_there {X} {Y} {A} {R} {F} limit large Means view look (Some text) x answer h read = elim h [
  | inl w ↦ let same : view x ≡ text = let e = w.1 in cc in by_answer answer w.0 (subst (λ (bytes : List ℕ). Interprets Means look bytes answer) same read)
  | inr w ↦ let e = w.1 in cc
] where
  by_answer : (answer : Result Y (Status R F)) → length text ≤ limit → Interprets Means look text answer → Answers (Within limit large Means) look (Some text) answer
  by_answer (Ok y) short m = inl (short, m)
  by_answer (Err Done) short m = m
  by_answer (Err Usage) short m = m
  by_answer (Err (Refused refusal)) short m = inl (short, m)
  by_answer (Err (Numeric step fault)) short m = m
  by_answer (Err (Lists step count)) short m = m
  by_answer (Err (StoreFault Open)) short m = absurd m
  by_answer (Err (StoreFault Read)) short m = absurd m
  by_answer (Err (StoreFault Create)) short m = m
  by_answer (Err (StoreFault Write)) short m = m
  by_answer (Err (StoreFault Say)) short m = m
  by_answer (Err Memory) short m = m

-- what is answered of a text alone ends the reading, or is its value
interprets_ends : {Y A R F : Type 0} (Means : List ℕ → Result A R → Type 0) (look : Y → A) (text : List ℕ) (answer : Result Y (Status R F)) → Interprets Means look text answer
    → IfSome (ending_of answer) EndsReading × (failing_of answer ≡ None)
interprets_ends Means look text (Ok y) m = (tt, refl)
interprets_ends Means look text (Err Done) m = absurd m
interprets_ends Means look text (Err Usage) m = absurd m
interprets_ends Means look text (Err (Refused refusal)) m = (tt, refl)
interprets_ends Means look text (Err (Numeric step fault)) m = absurd m
interprets_ends Means look text (Err (Lists step count)) m = absurd m
interprets_ends Means look text (Err (StoreFault call)) m = absurd m
interprets_ends Means look text (Err Memory) m = (tt, refl)

-- an input is read where its text was loaded, and then read
pub load_then_read : {X Y A R F : Type 0} (limit : ℕ) (large : R) (Means : List ℕ → Result A R → Type 0) (view : X → List ℕ) (look : Y → A) (name : List ℕ) (x : X) (loaded : Result X (Status R F)) (answer : Result Y (Status R F)) (old new : Standing)
    → loaded ≡ Ok x → ReadsInput (Within limit large IsItself) view name loaded old new → Interprets Means look (view x) answer → ReadsInput (Within limit large Means) look name answer old new
load_then_read {X} {Y} {A} {R} {F} limit large Means view look name x loaded answer old new is read m =
    let ends = interprets_ends Means look (view x) answer m in
    record {
      ends = ends.0;
      kept = read.kept;
      answers = answers old.told read.answers;
      counts = read.counts ∙ ap (λ (a : Result X (Status R F)). counts_after (failing_of a) old.faults) is ∙ sym (ap (λ (o : Option StoreCall). counts_after o old.faults) ends.1);
      stays_steady = read.stays_steady;
      steady = λ steady call e. let failing = ap failing_of e in let none = ends.1 in cc;
    }
  where
    answers : (o : Option Told) → IfSome o (λ t. Answers (Within limit large IsItself) view (t.files name) loaded) → IfSome o (λ t. Answers (Within limit large Means) look (t.files name) answer)
    answers None h = tt
    answers (Some t) h = reads_there limit large Means view look (t.files name) x answer (subst (λ (a : Result X (Status R F)). Answers (Within limit large IsItself) view (t.files name) a) is h) m
