-- A lane on its way through instructions.
use Rattle.std.proofs.Common.{◌≡◌, ℕ, ℤ, List, [], ◌∷◌, ◌++◌, length, set, Bool, true, false, Option, Some, None, Result, Ok, Err, refl, sym, ap, ◌∙◌, append_assoc}
use Rattle.std.specs.Option.{option_map}
use Rattle.std.proofs.lemmas.List.{append-nil, length-set}
use Rattle.lane_code.specs.declared.instruction.Instr.{Instr}
use Rattle.lane_code.specs.Outcome.{Given, and_then, before, given_by, outcome}
use Rattle.lane_code.specs.Steps.{LaneState, mask_at, number_of, truth_of_act, step, with_mask, with_number, written}
use Rattle.pf_model.specs.Particle.{Particle}
use Rattle.pf_model.specs.Totals.{Source}
use Rattle.pf_num.specs.declared.fault.NumFault.{NumFault}

-- its registers, and what it gave so far
pub record Running : Type 0 where
  pub state : LaneState
  pub given : List Given

-- two lists of one length
pub record SameLengths (s t : LaneState) : Type 0 where
  pub numbers : length t.numbers ≡ length s.numbers
  pub masks : length t.masks ≡ length s.masks

module _ (i : Particle) (j : Source) where
  abbrev pub step_on : Instr → Running → Option Running
  step_on x l = option_map (λ t. record { state = t; given = l.given ++ given_by x l.state }) (step i j x l.state)

  abbrev pub run : List Instr → Running → Option Running
  run [] l = Some l
  run (x ∷ xs) l = and_then (step_on x l) (run xs)

  then_both : (xs ys : List Instr) → ((k : Running) → run (xs ++ ys) k ≡ and_then (run xs k) (run ys)) → (o : Option Running) → and_then o (run (xs ++ ys)) ≡ and_then (and_then o (run xs)) (run ys)
  then_both xs ys h None = refl
  then_both xs ys h (Some k) = h k

  pub run-append : (xs ys : List Instr) (l : Running) → run (xs ++ ys) l ≡ and_then (run xs l) (run ys)
  run-append [] ys l = refl
  run-append (x ∷ xs) ys l = then_both xs ys (run-append xs ys) (step_on x l)

  then_one : (x : Instr) (o : Option Running) → and_then o (run (x ∷ [])) ≡ and_then o (step_on x)
  then_one x None = refl
  then_one x (Some l) = one (step_on x l) where
    one : (o : Option Running) → and_then o (run []) ≡ o
    one None = refl
    one (Some k) = refl

  -- one instruction more
  pub run_more : (xs : List Instr) (x : Instr) (l : Running) (o : Option Running) → run xs l ≡ o → run (xs ++ x ∷ []) l ≡ and_then o (step_on x)
  run_more xs x l o e = run-append xs (x ∷ []) l ∙ then_one x (run xs l) ∙ ap (λ r. and_then r (step_on x)) e

  -- ---- what it gives

  given_first : (g h : List Given) (o : Option (List Given)) → before g (before h o) ≡ before (g ++ h) o
  given_first g h None = refl
  given_first g h (Some others) = ap Some (sym (append_assoc g h others))

  pub outcome_is : (xs : List Instr) (l : Running) → before l.given (outcome i j xs l.state) ≡ option_map (λ k. k.given) (run xs l)
  outcome_is [] l = ap Some (append-nil l.given)
  outcome_is (x ∷ xs) l = more (outcome_is xs) (step i j x l.state) where
    more : ((k : Running) → before k.given (outcome i j xs k.state) ≡ option_map (λ k. k.given) (run xs k)) → (o : Option LaneState)
        → before l.given (before (given_by x l.state) (and_then o (outcome i j xs)))
        ≡ option_map (λ k. k.given) (and_then (option_map (λ t. record { state = t; given = l.given ++ given_by x l.state }) o) (run xs))
    more h None = refl
    more h (Some t) = given_first l.given (given_by x l.state) (outcome i j xs t) ∙ h (record { state = t; given = l.given ++ given_by x l.state })

  -- ---- registers stay as many

  number_lengths : (under : Bool) (out : ℕ) (s t : LaneState) (answer : Result ℤ NumFault) → with_number under out s answer ≡ Some t → SameLengths s t
  number_lengths false out s t answer e = let is : s ≡ t = cc in record { numbers = ap (λ (x : LaneState). length x.numbers) (sym is); masks = ap (λ (x : LaneState). length x.masks) (sym is) }
  number_lengths true out s t (Ok number) e =
      let got : LaneState = record { numbers = set s.numbers out number; masks = s.masks } in let is : got ≡ t = cc in
      record { numbers = ap (λ (x : LaneState). length x.numbers) (sym is) ∙ length-set s.numbers out number; masks = ap (λ (x : LaneState). length x.masks) (sym is) }
  number_lengths true out s t (Err fault) e = absurd (let no : ⊥ = cc in no)

  mask_lengths : (out : ℕ) (s t : LaneState) (truth : Option Bool) → Some (with_mask out s truth) ≡ Some t → SameLengths s t
  mask_lengths out s t None e = let is : s ≡ t = cc in record { numbers = ap (λ (x : LaneState). length x.numbers) (sym is); masks = ap (λ (x : LaneState). length x.masks) (sym is) }
  mask_lengths out s t (Some b) e =
      let got : LaneState = record { numbers = s.numbers; masks = set s.masks out b } in let is : got ≡ t = cc in
      record { numbers = ap (λ (x : LaneState). length x.numbers) (sym is); masks = ap (λ (x : LaneState). length x.masks) (sym is) ∙ length-set s.masks out b }

  written_lengths : (under : Bool) (out : ℕ) (s t : LaneState) (number : Option (Result ℤ NumFault)) (truth : Option Bool) → written under out s number truth ≡ Some t → SameLengths s t
  written_lengths under out s t (Some answer) truth e = number_lengths under out s t answer e
  written_lengths under out s t None truth e = mask_lengths out s t truth e

  pub run_lengths : (xs : List Instr) (l k : Running) → run xs l ≡ Some k → SameLengths l.state k.state
  run_lengths [] l k e = let is : l ≡ k = cc in record { numbers = ap (λ (x : Running). length x.state.numbers) (sym is); masks = ap (λ (x : Running). length x.state.masks) (sym is) }
  run_lengths (x ∷ xs) l k e = after (λ m f. run_lengths xs m k f) (step i j x l.state) refl e where
    after : ((m : Running) → run xs m ≡ Some k → SameLengths m.state k.state) → (o : Option LaneState) → step i j x l.state ≡ o → and_then (option_map (λ t. record { state = t; given = l.given ++ given_by x l.state }) o) (run xs) ≡ Some k → SameLengths l.state k.state
    after rest None is e = absurd (let no : ⊥ = cc in no)
    after rest (Some t) is e =
        let one = written_lengths (mask_at l.state.masks x.under) x.out l.state t (number_of i j l.state.numbers x.act) (truth_of_act (mask_at l.state.masks x.under) l.state x.act) is in
        let more = rest (record { state = t; given = l.given ++ given_by x l.state }) e in
        record { numbers = more.numbers ∙ one.numbers; masks = more.masks ∙ one.masks }
