-- A command has at most one verdict where each of its inputs has at most one meaning, and at least one where each has at
-- least one. No clause can range over relations, so these laws stand here with their proofs.
use Rattle.std.specs.Prelude.{ℕ, ◌≡◌, ◌+◌, List, length, Option, Some, None, Result, Ok, Err, refl}
use Rattle.std.proofs.Common.{inl, inr, replicate, sym, ◌∙◌, ap, subst, arith}
use Rattle.std.proofs.lemmas.Bool.{cases_lt}
use Rattle.std.proofs.lemmas.List.{length-replicate}
use Rattle.pf_io.specs.Store.{Files}
use Rattle.command_frame.specs.Verdict.{Verdict, lacks, stops, AfterText, After, Within, Refusing, AtMostOne, AtLeastOne, IgnoresFiles}
use Rattle.command_frame.specs.declared.status.Status.{Status}
use Rattle.command_frame.specs.declared.status.Status.TheVariants.{Refused}

one_after_text : {A R F : Type 0} (Means : List ℕ → Result A R → Type 0) (next : A → Verdict R F → Type 0) (there : Option (List ℕ))
    → ((text : List ℕ) → AtMostOne (Means text)) → ((value : A) → AtMostOne (next value)) → AtMostOne (AfterText Means next there)
one_after_text Means next None sure one a b p q = p ∙ sym q
one_after_text {A} {R} {F} Means next (Some text) sure one a b p q = elim p [
  | inl m ↦ elim q [
    | inl n ↦ let same = sure text (Err m.0) (Err n.0) m.1 n.1 in let e : m.0 ≡ n.0 = cc in m.2 ∙ ap (λ (r : R). stops (Refused r)) e ∙ sym n.2
    | inr n ↦ let same = sure text (Err m.0) (Ok n.0) m.1 n.1 in cc
  ]
  | inr m ↦ elim q [
    | inl n ↦ let same = sure text (Ok m.0) (Err n.0) m.1 n.1 in cc
    | inr n ↦ let same = sure text (Ok m.0) (Ok n.0) m.1 n.1 in let e : m.0 ≡ n.0 = cc in one n.0 a b (subst (λ (value : A). next value a) e m.2) n.2
  ]
]

pub one_after : {A R F : Type 0} (Means : List ℕ → Result A R → Type 0) (files : Files) (name : List ℕ) (next : A → Verdict R F → Type 0)
    → ((text : List ℕ) → AtMostOne (Means text)) → ((value : A) → AtMostOne (next value)) → AtMostOne (After Means files name next)
one_after Means files name next sure one a b p q = one_after_text Means next (files name) sure one a b p q

pub one_within : {A R : Type 0} (limit : ℕ) (large : R) (Means : List ℕ → Result A R → Type 0)
    → ((text : List ℕ) → AtMostOne (Means text)) → (text : List ℕ) → AtMostOne (Within limit large Means text)
one_within limit large Means sure text a b p q = elim p [
  | inl m ↦ elim q [ inl n ↦ sure text a b m.1 n.1 | inr n ↦ absurd (omega (arith, m.0, n.0)) ]
  | inr m ↦ elim q [ inl n ↦ absurd (omega (arith, m.0, n.0)) | inr n ↦ m.1 ∙ sym n.1 ]
]

pub one_refusing : {A E R : Type 0} (why : E → R) (Means : List ℕ → Result A E → Type 0) → ((text : List ℕ) → AtMostOne (Means text)) → (text : List ℕ) → AtMostOne (Refusing why Means text)
one_refusing why Means sure text (Ok x) (Ok y) p q = let e = sure text (Ok x) (Ok y) p q in let same : x ≡ y = cc in ap Ok same
one_refusing why Means sure text (Ok x) (Err r) p q = let e = sure text (Ok x) (Err q.0) p q.1 in cc
one_refusing why Means sure text (Err r) (Ok y) p q = let e = sure text (Err p.0) (Ok y) p.1 q in cc
one_refusing why Means sure text (Err r) (Err s) p q =
    let e = sure text (Err p.0) (Err q.0) p.1 q.1 in let same : p.0 ≡ q.0 = cc in ap Err (p.2 ∙ ap why same ∙ sym q.2)

pub some_after : {A R F : Type 0} (Means : List ℕ → Result A R → Type 0) (files : Files) (name : List ℕ) (next : A → Verdict R F → Type 0)
    → ((text : List ℕ) → AtLeastOne (Means text)) → ((value : A) → AtLeastOne (next value)) → AtLeastOne (After Means files name next)
some_after {A} {R} {F} Means files name next reads goes_on = of_text (files name) where
  of_answer : (text : List ℕ) (answer : Result A R) → Means text answer → AtLeastOne (AfterText Means next (Some text))
  of_answer text (Ok value) m = let on = goes_on value in (on.0, inr (value, m, on.1))
  of_answer text (Err refusal) m = (stops (Refused refusal), inl (refusal, m, refl))

  of_text : (there : Option (List ℕ)) → AtLeastOne (AfterText Means next there)
  of_text None = (lacks, refl)
  of_text (Some text) = let read = reads text in of_answer text read.0 read.1

pub some_within : {A R : Type 0} (limit : ℕ) (large : R) (Means : List ℕ → Result A R → Type 0)
    → ((text : List ℕ) → AtLeastOne (Means text)) → (text : List ℕ) → AtLeastOne (Within limit large Means text)
some_within limit large Means reads text = elim (cases_lt limit (length text)) [
  | inl long ↦ (Err large, inr (long, refl))
  | inr short ↦ let read = reads text in (read.0, inl (short, read.1))
]

pub some_refusing : {A E R : Type 0} (why : E → R) (Means : List ℕ → Result A E → Type 0) → ((text : List ℕ) → AtLeastOne (Means text)) → (text : List ℕ) → AtLeastOne (Refusing why Means text)
some_refusing {A} {E} {R} why Means reads text = let read = reads text in of_answer read.0 read.1 where
  of_answer : (answer : Result A E) → Means text answer → AtLeastOne (Refusing why Means text)
  of_answer (Ok value) m = (Ok value, m)
  of_answer (Err fault) m = (Err (why fault), (fault, m, refl))

-- what reads an input with a limit on its length looks at its contents: they may lack it, or have one that is too large
pub reading_looks : {A R F : Type 0} (limit : ℕ) (large : R) (Means : List ℕ → Result A R → Type 0) (name : List ℕ) (next : Files → A → Verdict R F → Type 0)
    → ¬ IgnoresFiles (λ files. After (Within limit large Means) files name (next files))
reading_looks {A} {R} {F} limit large Means name next alike =
    let long : List ℕ = replicate (limit + 1) 0 in
    let size : length long ≡ limit + 1 = length-replicate (limit + 1) 0 in
    elim (alike (λ other. None) (λ other. Some long) lacks refl) [
      | inl refused ↦ let e = refused.2 in cc
      | inr read ↦ elim read.1 [
        | inl short ↦ omega (arith, short.0, size)
        | inr other ↦ let e = other.1 in cc
      ]
    ]
