-- What the instructions that are written do in a lane, one by one.
use Rattle.std.proofs.Common.{◌≡◌, ◌≢◌, ℕ, ℤ, pos, List, [], ◌∷◌, ◌++◌, set, Bool, true, false, cond, Option, Some, None, Result, Ok, Err, refl, sym, ap, ◌∙◌}
use Rattle.std.specs.Option.{option_map}
use Rattle.std.proofs.lemmas.List.{append-nil, set-get_or, get_or-set_other}
use Rattle.lane_code.specs.declared.instruction.Lane.{Lane}
use Rattle.lane_code.specs.declared.instruction.Lane.TheVariants as lanes
use Rattle.lane_code.specs.Outcome.{Given, given_of}
use Rattle.lane_code.specs.Steps.{LaneState, mask_at, number_at, number_of, truth_of_act, written}
use Rattle.lane_code.specs.Validity.{makes_number}
use Rattle.lane_codegen.specs.Meaning.{gift as gift_to}
use Rattle.lane_codegen.specs.Writing.{instr}
use Rattle.pf_geom.specs.declared.axis.Axis.{Axis}
use Rattle.pf_model.specs.Particle.{Particle}
use Rattle.pf_model.specs.Totals.{Source}
use Rattle.pf_num.specs.declared.fault.NumFault.{NumFault}
use Rattle.lane_codegen.proofs.Runs.{Running, step_on}
use Rattle.lane_codegen.proofs.Tidy.{has_number, gives_nothing}

abbrev pub with_value : ℕ → ℤ → Running → Running
with_value out v l = record { state = record { numbers = set l.state.numbers out v; masks = l.state.masks }; given = l.given }

abbrev pub with_truth : ℕ → Bool → Running → Running
with_truth out b l = record { state = record { numbers = l.state.numbers; masks = set l.state.masks out b }; given = l.given }

abbrev pub with_given : Given → Running → Running
with_given g l = record { state = l.state; given = l.given ++ g ∷ [] }

module _ (i : Particle) (j : Source) where
  -- by the mask of an instruction, and by what its act gives
  abbrev stepped : Bool → ℕ → Lane → Running → Option (Result ℤ NumFault) → Option Bool → List Given → Option Running
  stepped b out act l number truth given = option_map (λ t. record { state = t; given = l.given ++ given }) (written b out l.state number truth)

  number_stepped : (b : Bool) (under out : ℕ) (act : Lane) (l : Running) (answer : Result ℤ NumFault) → makes_number act ≡ true → mask_at l.state.masks under ≡ b → number_of i j l.state.numbers act ≡ Some answer
      → step_on i j (instr under out act) l ≡ stepped b out act l (Some answer) (truth_of_act b l.state act) []
  number_stepped b under out act l answer makes masked is =
      ap (λ m. stepped m out act l (number_of i j l.state.numbers act) (truth_of_act m l.state act) (cond m (given_of l.state.numbers act) [])) masked
      ∙ ap (λ n. stepped b out act l n (truth_of_act b l.state act) (cond b (given_of l.state.numbers act) [])) is
      ∙ ap (λ g. stepped b out act l (Some answer) (truth_of_act b l.state act) g) (nothing b) where
        nothing : (m : Bool) → cond m (given_of l.state.numbers act) [] ≡ []
        nothing true = gives_nothing l.state.numbers act makes
        nothing false = refl

  same_given : (s : LaneState) (g : List Given) → ◌≡◌ {A = Option Running} (Some (record { state = s; given = g ++ [] })) (Some (record { state = s; given = g }))
  same_given s g = let P : List Given → Option Running = λ x. Some (record { state = s; given = x }) in ap P (append-nil g)

  -- a number
  pub number_idle : (under out : ℕ) (act : Lane) (l : Running) → makes_number act ≡ true → mask_at l.state.masks under ≡ false → step_on i j (instr under out act) l ≡ Some l
  number_idle under out act l makes masked =
      let h = has_number i j l.state.numbers act makes in
      number_stepped false under out act l h.answer makes masked h.is ∙ same_given l.state l.given

  pub number_written : (under out : ℕ) (act : Lane) (l : Running) (v : ℤ) → makes_number act ≡ true → mask_at l.state.masks under ≡ true → number_of i j l.state.numbers act ≡ Some (Ok v) → step_on i j (instr under out act) l ≡ Some (with_value out v l)
  number_written under out act l v makes masked is = number_stepped true under out act l (Ok v) makes masked is ∙ same_given _ l.given

  pub number_faults : (under out : ℕ) (act : Lane) (l : Running) (fault : NumFault) → makes_number act ≡ true → mask_at l.state.masks under ≡ true → number_of i j l.state.numbers act ≡ Some (Err fault) → step_on i j (instr under out act) l ≡ None
  number_faults under out act l fault makes masked is = number_stepped true under out act l (Err fault) makes masked is

  -- a mask
  pub mask_written : (under out : ℕ) (act : Lane) (b : Bool) (l : Running) → number_of i j l.state.numbers act ≡ None → truth_of_act (mask_at l.state.masks under) l.state act ≡ Some b → given_of l.state.numbers act ≡ [] → step_on i j (instr under out act) l ≡ Some (with_truth out b l)
  mask_written under out act b l no_number is none =
      ap (λ n. stepped (mask_at l.state.masks under) out act l n (truth_of_act (mask_at l.state.masks under) l.state act) (cond (mask_at l.state.masks under) (given_of l.state.numbers act) [])) no_number
      ∙ ap (λ t. stepped (mask_at l.state.masks under) out act l None t (cond (mask_at l.state.masks under) (given_of l.state.numbers act) [])) is
      ∙ ap (λ g. stepped (mask_at l.state.masks under) out act l None (Some b) g) (nothing (mask_at l.state.masks under))
      ∙ same_given _ l.given where
        nothing : (m : Bool) → cond m (given_of l.state.numbers act) [] ≡ []
        nothing true = none
        nothing false = refl

  -- a mask that is false already
  pub mask_idle : (under out : ℕ) (act : Lane) (b : Bool) (l : Running) → number_of i j l.state.numbers act ≡ None → truth_of_act (mask_at l.state.masks under) l.state act ≡ Some b → given_of l.state.numbers act ≡ [] → b ≡ false → mask_at l.state.masks out ≡ false → step_on i j (instr under out act) l ≡ Some l
  mask_idle under out act b l no_number is none off was =
      mask_written under out act b l no_number is none
      ∙ ap (λ x. Some (with_truth out x l)) (off ∙ sym was)
      ∙ (let P : List Bool → Option Running = λ ms. Some (record { state = record { numbers = l.state.numbers; masks = ms }; given = l.given }) in ap P (set-get_or l.state.masks out false))

  -- a contribution
  pub gift_idle : (under slot : ℕ) (axis : Axis) (from : ℕ) (l : Running) → mask_at l.state.masks under ≡ false → step_on i j (instr under 0 (lanes.Give slot axis from)) l ≡ Some l
  gift_idle under slot axis from l masked =
      (let P : Bool → Option Running = λ m. Some (record { state = l.state; given = l.given ++ cond m (gift_to slot axis (number_at l.state.numbers from) ∷ []) [] }) in ap P masked) ∙ same_given l.state l.given

  pub gift_given : (under slot : ℕ) (axis : Axis) (from : ℕ) (l : Running) → mask_at l.state.masks under ≡ true → step_on i j (instr under 0 (lanes.Give slot axis from)) l ≡ Some (with_given (gift_to slot axis (number_at l.state.numbers from)) l)
  gift_given under slot axis from l masked =
      (let P : Bool → Option Running = λ m. Some (record { state = l.state; given = l.given ++ cond m (gift_to slot axis (number_at l.state.numbers from) ∷ []) [] }) in ap P masked)

  -- ---- what a step leaves as it was

  pub record NumberStep (out : ℕ) (l k : Running) : Type 0 where
    pub masks : k.state.masks ≡ l.state.masks
    pub others : (r : ℕ) → r ≢ out → number_at k.state.numbers r ≡ number_at l.state.numbers r
    pub given : k.given ≡ l.given

  no_change : (out : ℕ) (l k : Running) → l ≡ k → NumberStep out l k
  no_change out l k e = record { masks = ap (λ (x : Running). x.state.masks) (sym e); others = λ r _. ap (λ (x : Running). number_at x.state.numbers r) (sym e); given = ap (λ (x : Running). x.given) (sym e) }

  pub number_step : (under out : ℕ) (act : Lane) (l k : Running) → makes_number act ≡ true → step_on i j (instr under out act) l ≡ Some k → NumberStep out l k
  number_step under out act l k makes e = by_mask (mask_at l.state.masks under) refl where
    by_answer : (answer : Result ℤ NumFault) → mask_at l.state.masks under ≡ true → number_of i j l.state.numbers act ≡ Some answer → NumberStep out l k
    by_answer (Ok v) masked is =
        let f = sym (number_written under out act l v makes masked is) ∙ e in
        let same : with_value out v l ≡ k = cc in
        record {
          masks = ap (λ (x : Running). x.state.masks) (sym same);
          others = λ r apart. ap (λ (x : Running). number_at x.state.numbers r) (sym same) ∙ get_or-set_other l.state.numbers out r v (pos 0) apart;
          given = ap (λ (x : Running). x.given) (sym same);
        }
    by_answer (Err fault) masked is = let f = sym (number_faults under out act l fault makes masked is) ∙ e in absurd (let no : ⊥ = cc in no)

    by_mask : (b : Bool) → mask_at l.state.masks under ≡ b → NumberStep out l k
    by_mask true masked = let h = has_number i j l.state.numbers act makes in by_answer h.answer masked h.is
    by_mask false masked = let f = sym (number_idle under out act l makes masked) ∙ e in let same : l ≡ k = cc in no_change out l k same

  pub record MaskStep (out : ℕ) (l k : Running) : Type 0 where
    pub numbers : k.state.numbers ≡ l.state.numbers
    pub others : (m : ℕ) → m ≢ out → mask_at k.state.masks m ≡ mask_at l.state.masks m
    pub given : k.given ≡ l.given

  pub mask_step : (under out : ℕ) (act : Lane) (b : Bool) (l k : Running) → number_of i j l.state.numbers act ≡ None → truth_of_act (mask_at l.state.masks under) l.state act ≡ Some b → given_of l.state.numbers act ≡ [] → step_on i j (instr under out act) l ≡ Some k → MaskStep out l k
  mask_step under out act b l k no_number is none e =
      let f = sym (mask_written under out act b l no_number is none) ∙ e in
      let same : with_truth out b l ≡ k = cc in
      record {
        numbers = ap (λ (x : Running). x.state.numbers) (sym same);
        others = λ m apart. ap (λ (x : Running). mask_at x.state.masks m) (sym same) ∙ get_or-set_other l.state.masks out m b false apart;
        given = ap (λ (x : Running). x.given) (sym same);
      }

  -- a contribution leaves the registers
  pub gift_step : (under slot : ℕ) (axis : Axis) (from : ℕ) (l k : Running) → step_on i j (instr under 0 (lanes.Give slot axis from)) l ≡ Some k → k.state ≡ l.state
  gift_step under slot axis from l k e = let got : Running = record { state = l.state; given = l.given ++ cond (mask_at l.state.masks under) (gift_to slot axis (number_at l.state.numbers from) ∷ []) [] } in let same : got ≡ k = cc in ap (λ (x : Running). x.state) (sym same)
