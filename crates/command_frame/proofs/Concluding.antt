-- A command concludes: it was carried out, and then its line was said.
use Rattle.std.proofs.Common.{ℕ, ◌≡◌, ◌≢◌, ◌+◌, ◌<◌, ◌⊎◌, inl, inr, List, ◌++◌, IsTrue, IfSome, Option, Some, None, option_map, refl, sym, ap, subst, ◌∙◌, arith}
use Rattle.pf_io.specs.Store.{Files, Told, Faults, after_say, one_more_say}
use Rattle.command_frame.specs.Clauses.{Concludes, OnContents, IsUnlessStopped, IsJudgement, HasLine, IsAccepted, IsOutputDue, HasAnswered, HasOutput, HasOutputFront, WritesNothing, IsNoOutput, SaidThis, SaidNothing}
use Rattle.command_frame.specs.Effects.{CarriesOut, SaysLine, Leaves, LeavesFiles, LeavesSaid}
use Rattle.command_frame.specs.Standing.{Standing, IfBoth, IfTold}
use Rattle.command_frame.specs.Status.{failed_call, count_of, counts_after}
use Rattle.command_frame.specs.Verdict.{Verdict, lacks, stops, writes, speaks, AtMostOne, IgnoresFiles}
use Rattle.command_frame.specs.declared.status.Status.{Status}
use Rattle.command_frame.specs.declared.status.Status.TheVariants.{Done, Usage, Refused, Numeric, Lists, StoreFault, Memory}
use Rattle.command_frame.specs.declared.status.StoreCall.{StoreCall}
use Rattle.command_frame.specs.declared.status.StoreCall.TheVariants.{Open, Read, Create, Write, Say}
use Rattle.command_frame.proofs.Counting.{rises, rises_to_say, say_alone, no_fault_of, says_kept, fault_or_none, counted_none, counted_call}
use Rattle.command_frame.proofs.Telling.{more_of_both, chained, told_by, same_told, at_entry}
use Rattle.command_frame.proofs.Ways.{Way, stopped, wrote, spoke, unread, uncreated, broken, unsaid, way, as_memory, stops_of, kept_of, accepted_of, nothing_written_of, other_kept_of, due_of, unless_of, output_of, write_fault_of, memory_of}

-- nothing is said before the line, but under Done
silent : {R F : Type 0} (M : Verdict R F → Type 0) (status : Status R F) (old new : List ℕ) → status ≢ Done → LeavesSaid M status old new → new ≡ old
silent M Done old new ne h = absurd (ne refl)
silent M Usage old new ne h = h
silent M (Refused refusal) old new ne h = h
silent M (Numeric step fault) old new ne h = h
silent M (Lists step count) old new ne h = h
silent M (StoreFault call) old new ne h = h
silent M Memory old new ne h = h

answered : {R F : Type 0} (M : Verdict R F → Type 0) (old new : List ℕ) → AtMostOne M → LeavesSaid M Done old new → HasAnswered M old new
answered M old new one h = elim h [
  | inl n ↦ record {
    text = λ text m. let e = one _ _ n.meant m in cc;
    nothing = λ out text m. n.silent;
  }
  | inr s ↦ record {
    text = λ text m. let e = one _ _ s.meant m in let same : s.text ≡ text = cc in s.said ∙ ap (λ (bytes : List ℕ). old ++ bytes) same;
    nothing = λ out text m. let e = one _ _ s.meant m in cc;
  }
]

module _ {R F : Type 0} (MayEnd : Status R F → Type 0) (Means : Files → Verdict R F → Type 0) (line_of : Status R F → List ℕ) (status result : Status R F) (old mid new : Standing)
    (one : (files : Files) → AtMostOne (Means files)) (carried : CarriesOut MayEnd Means status old mid) (says : SaysLine line_of status result mid new) where
  -- the status stays, unless no memory is left to say it
  ending : (result ≡ status) ⊎ ((result ≡ Memory) × (status ≢ Done))
  ending = elim says [
    | inl a ↦ inl a.0
    | inr t ↦ elim t [ inl b ↦ inl b.0 | inr u ↦ elim u [ inl c ↦ inl c.0 | inr d ↦ inr (d.0, d.1) ] ]
  ]

  files_stay : IfBoth mid.told new.told (λ t u. u.files ≡ t.files)
  files_stay =
      let same : new.told ≡ mid.told → IfBoth mid.told new.told (λ t u. u.files ≡ t.files) = λ e. same_told mid.told new.told (λ t u. u.files ≡ t.files) (λ t. refl) e in
      elim says [
        | inl a ↦ same a.2
        | inr t ↦ elim t [
          | inl b ↦ told_by (after_say (line_of status)) mid.told new.told (λ t u. u.files ≡ t.files) (λ t. refl) b.2
          | inr u ↦ elim u [ inl c ↦ same c.2 | inr d ↦ same d.2 ]
        ]
      ]

  ends_by : (files later : Files) → Way (Means files) status files later → Way (Means files) result files later
  ends_by files later w = elim ending [
    | inl e ↦ subst (λ (s : Status R F). Way (Means files) s files later) (sym e) w
    | inr m ↦ subst (λ (s : Status R F). Way (Means files) s files later) (sym m.0) (as_memory (Means files) status files later m.1 w)
  ]

  Ending : Told → Told → Type 0
  Ending t u = Way (Means t.files) result t.files u.files

  ways : IfBoth old.told new.told Ending
  unfolding Ending
  ways = chained old.told mid.told new.told (Leaves Means status) (λ t u. u.files ≡ t.files) Ending
      (λ t u v left same. ends_by t.files v.files (subst (λ (files : Files). Way (Means t.files) status t.files files) (sym same) (way (Means t.files) status t.files u.files left.files)))
      carried.left files_stay

  may_end : (result ≡ Memory) ⊎ MayEnd result
  may_end = elim ending [ inl e ↦ inr (subst MayEnd (sym e) carried.ends) | inr m ↦ inl m.0 ]

  -- the counts
  fault_rose : (call : StoreCall) → result ≡ StoreFault call → count_of call old.faults < count_of call new.faults
  fault_rose call is =
      let plain : result ≡ status → new.faults ≡ mid.faults → count_of call old.faults < count_of call new.faults =
      λ e same. subst (λ (f : Faults). count_of call old.faults < count_of call f) (sym (same ∙ carried.counts ∙ counted_call status call old.faults (sym e ∙ is))) (rises call old.faults) in
      elim says [
        | inl a ↦ plain a.0 a.3
        | inr t ↦ elim t [
          | inl b ↦ plain b.0 b.3
          | inr u ↦ elim u [
            | inl c ↦ subst (λ (f : Faults). count_of call old.faults < count_of call f) (sym (c.3 ∙ ap one_more_say (carried.counts ∙ counted_call status call old.faults (sym c.0 ∙ is)))) (rises_to_say call old.faults)
            | inr d ↦ let e = sym d.0 ∙ is in cc
          ]
        ]
      ]

  not_risen : (call : StoreCall) → result ≡ StoreFault call → new.faults ≡ old.faults → ⊥
  not_risen call is same =
      let rose : count_of call old.faults < count_of call old.faults = subst (λ (f : Faults). count_of call old.faults < count_of call f) same (fault_rose call is) in
      omega arith

  done_counts : result ≡ Done → new.faults ≡ old.faults
  done_counts is =
      elim says [
        | inl a ↦ a.3 ∙ carried.counts ∙ ap (λ (s : Status R F). counts_after (failed_call s) old.faults) a.1
        | inr t ↦ elim t [
          | inl b ↦ absurd (b.1 (sym b.0 ∙ is))
          | inr u ↦ elim u [ inl c ↦ absurd (c.1 (sym c.0 ∙ is)) | inr d ↦ let e = sym d.0 ∙ is in cc ]
        ]
      ]

  other_counts : (call : StoreCall) → IsJudgement result → call ≢ Say → count_of call new.faults ≡ count_of call old.faults
  other_counts call judged ne =
      let none : result ≡ status → mid.faults ≡ old.faults =
      λ e. carried.counts ∙ counted_none status old.faults (no_fault_of status (subst IsJudgement e judged)) in
      elim says [
        | inl a ↦ ap (count_of call) (a.3 ∙ none a.0)
        | inr t ↦ elim t [
          | inl b ↦ ap (count_of call) (b.3 ∙ none b.0)
          | inr u ↦ elim u [
            | inl c ↦ ap (count_of call) (c.3 ∙ ap one_more_say (none c.0)) ∙ say_alone call old.faults ne
            | inr d ↦ absurd (subst IsJudgement d.0 judged)
          ]
        ]
      ]

  Lacking : Type 0
  Lacking = ((result ≡ StoreFault Open) ⊎ (result ≡ Memory)) × MayEnd (StoreFault Open) × IfSome old.told (λ t. Means t.files lacks)

  steady : IsTrue old.is_steady → (new.faults ≡ old.faults) ⊎ Lacking
  unfolding Lacking
  steady is =
      let still = carried.stays_steady is in
      elim (fault_or_none status) [
        | inl none ↦
            let same : mid.faults ≡ old.faults = carried.counts ∙ counted_none status old.faults none in
            elim says [
              | inl a ↦ inl (a.3 ∙ same)
              | inr t ↦ elim t [
                | inl b ↦ inl (b.3 ∙ same)
                | inr u ↦ elim u [ inl c ↦ absurd (c.4 still) | inr d ↦ inl (d.3 ∙ same) ]
              ]
            ]
        | inr fault ↦
            let lacking = carried.steady is fault.0 fault.1 in
            let opening : status ≡ StoreFault Open = fault.1 ∙ ap (λ (c : StoreCall). StoreFault c) lacking.0 in
            let may = subst MayEnd opening carried.ends in
            elim ending [ inl e ↦ inr (inl (e ∙ opening), may, lacking.1) | inr m ↦ inr (inr m.0, may, lacking.1) ]
      ]

  -- what was said
  Said : Type 0
  Said = SaidThis (line_of result) old new

  Silent : Type 0
  Silent = SaidNothing old new

  quiet : status ≢ Done → IfBoth old.told mid.told (λ t u. u.said ≡ t.said)
  quiet ne = more_of_both old.told mid.told (Leaves Means status) (λ t u. u.said ≡ t.said) (λ t u left. silent (Means t.files) status t.said u.said ne left.said) carried.left

  told_line : status ≢ Done → result ≡ status → new.told ≡ option_map (after_say (line_of status)) mid.told → Said
  unfolding Said
  told_line ne same e = chained old.told mid.told new.told (λ t u. u.said ≡ t.said) (λ t u. u.said ≡ t.said ++ line_of result) (λ t u. u.said ≡ t.said ++ line_of result)
      (λ t u v before after. after ∙ ap (λ (said : List ℕ). said ++ line_of result) before)
      (quiet ne)
      (told_by (after_say (line_of status)) mid.told new.told (λ t u. u.said ≡ t.said ++ line_of result) (λ t. ap (λ (s : Status R F). t.said ++ line_of s) (sym same)) e)

  told_nothing : status ≢ Done → new.told ≡ mid.told → Silent
  unfolding Silent
  told_nothing ne e = chained old.told mid.told new.told (λ t u. u.said ≡ t.said) (λ t u. u.said ≡ t.said) (λ t u. u.said ≡ t.said)
      (λ t u v before after. after ∙ before) (quiet ne)
      (same_told mid.told new.told (λ t u. u.said ≡ t.said) (λ t. refl) e)

  said : HasLine result → ((new.faults.says ≡ old.faults.says) × Said) ⊎ ((old.faults.says < new.faults.says) × Silent)
  said line =
      let kept : result ≡ status → mid.faults.says ≡ old.faults.says =
      λ e. ap (λ (f : Faults). f.says) carried.counts ∙ says_kept status old.faults (subst HasLine e line) in
      elim says [
        | inl a ↦ absurd (subst HasLine (a.0 ∙ a.1) line)
        | inr t ↦ elim t [
          | inl b ↦ inl (ap (λ (f : Faults). f.says) b.3 ∙ kept b.0, told_line b.1 b.0 b.2)
          | inr u ↦ elim u [
            | inl c ↦
                let after : new.faults.says ≡ mid.faults.says + 1 = ap (λ (f : Faults). f.says) c.3 in
                let before = kept c.0 in
                inr (omega arith, told_nothing c.1 c.2)
            | inr d ↦ absurd (subst HasLine d.0 line)
          ]
        ]
      ]

  say_fault : result ≡ StoreFault Say → ((new.faults.says ≡ old.faults.says + 1) × Said) ⊎ ((new.faults.says ≡ old.faults.says + 2) × Silent)
  say_fault is =
      let failed : result ≡ status → mid.faults.says ≡ old.faults.says + 1 =
      λ e. ap (λ (f : Faults). f.says) (carried.counts ∙ counted_call status Say old.faults (sym e ∙ is)) in
      elim says [
        | inl a ↦ let e = sym is ∙ a.0 ∙ a.1 in cc
        | inr t ↦ elim t [
          | inl b ↦ inl (ap (λ (f : Faults). f.says) b.3 ∙ failed b.0, told_line b.1 b.0 b.2)
          | inr u ↦ elim u [
            | inl c ↦
                let after : new.faults.says ≡ mid.faults.says + 1 = ap (λ (f : Faults). f.says) c.3 in
                let before = failed c.0 in
                inr (omega arith, told_nothing c.1 c.2)
            | inr d ↦ let e = sym d.0 ∙ is in cc
          ]
        ]
      ]

  memory_said : result ≡ Memory → Said ⊎ Silent
  memory_said is = elim says [
    | inl a ↦ let e = sym is ∙ a.0 ∙ a.1 in cc
    | inr t ↦ elim t [
      | inl b ↦ inl (told_line b.1 b.0 b.2)
      | inr u ↦ elim u [ inl c ↦ inr (told_nothing c.1 c.2) | inr d ↦ inr (told_nothing d.1 d.2) ]
    ]
  ]

  done_said : result ≡ Done → IfTold old new (λ t u. HasAnswered (Means t.files) t.said u.said)
  done_said is =
      let done : status ≡ Done → new.told ≡ mid.told → IfBoth old.told new.told (λ t u. HasAnswered (Means t.files) t.said u.said) =
      λ d e. chained old.told mid.told new.told (λ t u. HasAnswered (Means t.files) t.said u.said) (λ t u. u.said ≡ t.said) (λ t u. HasAnswered (Means t.files) t.said u.said)
      (λ t u v before after. subst (HasAnswered (Means t.files) t.said) (sym after) before)
      (more_of_both old.told mid.told (Leaves Means status) (λ t u. HasAnswered (Means t.files) t.said u.said)
      (λ t u left. answered (Means t.files) t.said u.said (one t.files) (subst (λ (s : Status R F). LeavesSaid (Means t.files) s t.said u.said) d left.said)) carried.left)
      (same_told mid.told new.told (λ t u. u.said ≡ t.said) (λ t. refl) e) in
      elim says [
        | inl a ↦ done a.1 a.2
        | inr t ↦ elim t [
          | inl b ↦ absurd (b.1 (sym b.0 ∙ is))
          | inr u ↦ elim u [ inl c ↦ absurd (c.1 (sym c.0 ∙ is)) | inr d ↦ let e = sym d.0 ∙ is in cc ]
        ]
      ]

  -- completeness
  written_of : (M : Verdict R F → Type 0) (files later : Files) → AtMostOne M → Way M result files later
      → (out text : List ℕ) (last : Status R F) → M (writes out text last) → new.faults ≡ old.faults → (result ≡ last) ⊎ (result ≡ Memory)
  written_of M files later sure (stopped named s) out text last m same = let e = sure _ _ s.meant m in cc
  written_of M files later sure (wrote is w) out text last m same = let e = sure _ _ w.meant m in inl cc
  written_of M files later sure (spoke d s k) out text last m same = let e = sure _ _ s.meant m in cc
  written_of M files later sure (unread e k) out text last m same = elim e [
    | inl is ↦ inr is
    | inr f ↦ elim f [ inl is ↦ absurd (not_risen Open is same) | inr is ↦ absurd (not_risen Read is same) ]
  ]
  written_of M files later sure (uncreated is t k) out text last m same = absurd (not_risen Create is same)
  written_of M files later sure (broken e b) out text last m same = elim e [ inl is ↦ absurd (not_risen Write is same) | inr is ↦ inr is ]
  written_of M files later sure (unsaid is s k) out text last m same = absurd (not_risen Say is same)

  answered_of : (M : Verdict R F → Type 0) (files later : Files) → AtMostOne M → Way M result files later
      → (text : List ℕ) → M (speaks text) → new.faults ≡ old.faults → (result ≡ Done) ⊎ (result ≡ Memory)
  answered_of M files later sure (stopped named s) text m same = let e = sure _ _ s.meant m in cc
  answered_of M files later sure (wrote is w) text m same = let e = sure _ _ w.meant m in cc
  answered_of M files later sure (spoke d s k) text m same = inl d
  answered_of M files later sure (unread e k) text m same = elim e [
    | inl is ↦ inr is
    | inr f ↦ elim f [ inl is ↦ absurd (not_risen Open is same) | inr is ↦ absurd (not_risen Read is same) ]
  ]
  answered_of M files later sure (uncreated is t k) text m same = absurd (not_risen Create is same)
  answered_of M files later sure (broken e b) text m same = elim e [ inl is ↦ absurd (not_risen Write is same) | inr is ↦ inr is ]
  answered_of M files later sure (unsaid is s k) text m same = absurd (not_risen Say is same)

  -- a clause over the ways, of both tellings or of the one at entry
  of_both : (P : Told → Told → Type 0) → ((t u : Told) → Ending t u → P t u) → IfTold old new P
  of_both P h = more_of_both old.told new.told Ending P h ways

  -- or on the contents at entry
  on_contents : (P : Files → Type 0) → ((files later : Files) → Way (Means files) result files later → P files) → OnContents Means old.told P
  unfolding Ending
  on_contents P h = judged old.told (at_entry old.told new.told Ending (λ t. P t.files) (λ t u w. h t.files u.files w) ways) where
    judged : (o : Option Told) → IfSome o (λ t. P t.files) → OnContents Means o P
    judged None known = λ alike files.
        let later = carried.untold alike files in
        h files later.0 (ends_by files later.0 (way (Means files) status files later.0 later.1))
    judged (Some t) known = known

  pub concluded : Concludes MayEnd Means line_of result old new
  unfolding Said Silent Ending Lacking
  concluded = record {
    ends = may_end;
    refused_only = λ r. on_contents (λ files. Means files (stops result)) (λ files later w. stops_of (Means files) result files later r w);
    refused = on_contents (λ files. (other : Status R F) → Means files (stops other) → IsUnlessStopped result other)
        (λ files later w other m. unless_of (Means files) result files later (one files) other m w);
    accepted_only = λ l. on_contents (λ files. IsAccepted (Means files) result) (λ files later w. accepted_of (Means files) result files later l w);
    contents_kept = λ k. of_both (λ t u. u.files ≡ t.files) (λ t u w. kept_of (Means t.files) result t.files u.files k w);
    nothing_written = of_both (λ t u. WritesNothing (Means t.files) → u.files ≡ t.files)
        (λ t u w none. nothing_written_of (Means t.files) result t.files u.files none w);
    others_kept = of_both (λ t u. (name : List ℕ) → IsNoOutput (Means t.files) name → u.files name ≡ t.files name)
        (λ t u w name none. other_kept_of (Means t.files) result t.files u.files name none w);
    output = λ l. of_both (λ t u. HasOutput (Means t.files) result u.files)
        (λ t u w. output_of (Means t.files) result t.files u.files (one t.files) l w);
    write_fault = λ is. of_both (λ t u. HasOutputFront (Means t.files) u.files)
        (λ t u w. write_fault_of (Means t.files) result t.files u.files (one t.files) is w);
    memory = λ is. of_both (λ t u. (u.files ≡ t.files) ⊎ (IsOutputDue (Means t.files) × HasOutputFront (Means t.files) u.files))
        (λ t u w. memory_of (Means t.files) result t.files u.files (one t.files) is w);
    fault_rose = fault_rose;
    create_and_write_only = λ is. on_contents (λ files. IsOutputDue (Means files)) (λ files later w. due_of (Means files) result files later is w);
    steady = steady;
    done_counts = done_counts;
    done_said = done_said;
    other_counts = other_counts;
    said = said;
    say_fault = say_fault;
    memory_said = memory_said;
    written = on_contents (λ files. (out text : List ℕ) (last : Status R F) → Means files (writes out text last) → new.faults ≡ old.faults → (result ≡ last) ⊎ (result ≡ Memory))
        (λ files later w out text last m same. written_of (Means files) files later (one files) w out text last m same);
    answered = on_contents (λ files. (text : List ℕ) → Means files (speaks text) → new.faults ≡ old.faults → (result ≡ Done) ⊎ (result ≡ Memory))
        (λ files later w text m same. answered_of (Means files) files later (one files) w text m same);
  }
