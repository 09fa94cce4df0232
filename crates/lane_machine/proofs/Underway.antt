-- A block on its way through instructions: what is left comes to what all come to.
use Rattle.std.proofs.Common.{◌≡◌, ℕ, ◌+◌, ◌*◌, ◌^◌, ◌<◌, ◌≤◌, true, false, List, [], ◌∷◌, ◌++◌, Option, Some, None, length, get_or, drop, refl, sym, ap, subst, ◌∙◌, arith, fold}
use Rattle.std.specs.List.{All}
use Rattle.std.specs.Option.{is_some}
use Rattle.std.proofs.lemmas.List.{drop_more, drop_all}
use Rattle.pf_geom.specs.declared.axis.Axis.{Axis}
use Rattle.pf_model.specs.Particle.{Particle}
use Rattle.pf_model.specs.Totals.{Source}
use Rattle.lane_code.specs.declared.instruction.Instr.{Instr}
use Rattle.lane_code.specs.Outcome.{Given, given_by, outcome, and_then, before}
use Rattle.lane_code.specs.Steps.{LaneState, step}
use Rattle.lane_machine.specs.declared.registers.Registers.{Registers}
use Rattle.lane_machine.specs.Block.{SomeLaneFaults, item_at, lane_in, step_in}
use Rattle.lane_machine.specs.Contributions.{contributions, contributions_in, onward, outcome_in}
use Rattle.lane_machine.specs.Gathered.{AddsLanes, gathered, numbers_to, total_at}
use Rattle.lane_machine.specs.Total.{Summed, AreFew, along, joined}
use Rattle.lane_machine.proofs.GatherLemmas.{gathered_same, gathered_none, numbers_to-append, regrouped}
use Rattle.lane_machine.proofs.TotalLemmas.{all_at_least}

still_some : (given : List Given) (rest : Option (List Given)) → is_some (before given rest) ≡ is_some rest
still_some given None = refl
still_some given (Some others) = refl

not_some : {X : Type 0} (o : Option X) → is_some o ≡ false → o ≡ None
not_some None e = refl
not_some (Some x) e = absurd (let no : ⊥ = cc in no)

module _ (i : Particle) (j : Source) (x : Instr) (xs : List Instr) (s next : LaneState) (is : step i j x s ≡ Some next) where
  some_onward : is_some (outcome i j (x ∷ xs) s) ≡ is_some (outcome i j xs next)
  some_onward = ap (λ o. is_some (before (given_by x s) (and_then o (outcome i j xs)))) is ∙ still_some (given_by x s) (outcome i j xs next)

  given_onward : contributions i j (x ∷ xs) s ≡ given_by x s ++ contributions i j xs next
  given_onward = ap (λ o. given_by x s ++ onward o (contributions i j xs)) is

-- an instruction that faults ends the lane
none_onward : (i : Particle) (j : Source) (x : Instr) (xs : List Instr) (s : LaneState) → step i j x s ≡ None → is_some (outcome i j (x ∷ xs) s) ≡ false
none_onward i j x xs s e = ap (λ o. is_some (before (given_by x s) (and_then o (outcome i j xs)))) e

module _ (i : Particle) (items : List Source) (slots : List ℕ) where
  pub record Underway (whole left : List Instr) (begun now : Registers) (old new : List Summed) (done : ℕ) : Type 0 where
    pub same_length : length new ≡ length old
    pub combines : (f : ℕ) → (total_at new f).combine ≡ (total_at old f).combine
    pub fine : (l : ℕ) → l < length items → is_some (outcome_in i items whole begun l) ≡ is_some (outcome_in i items left now l)
    pub totals :
        (f : ℕ) (axis : Axis) → f < length old
        → fold (joined (total_at old f).combine) (along axis (total_at old f)) (gathered (λ l. numbers_to slots f axis (contributions_in i items whole begun l)) (length items))
        ≡ fold (joined (total_at old f).combine) (along axis (total_at new f)) (gathered (λ l. numbers_to slots f axis (contributions_in i items left now l)) (length items))
    pub few : (n : ℕ) → All (AreFew n) old → All (AreFew (n + done * 64)) new

  pub begins : (steps : List Instr) (now : Registers) (old : List Summed) → Underway steps steps now now old old 0
  begins steps now old = record {
    same_length = refl;
    combines = λ f. refl;
    fine = λ l h. refl;
    totals = λ f axis h. refl;
    few = λ n all. all_at_least n (n + 0 * 64) old (omega arith) all;
  }

  module _ (whole : List Instr) (x : Instr) (xs : List Instr) (begun now : Registers) (old new : List Summed) (done : ℕ) (so_far : Underway whole (x ∷ xs) begun now old new done) where
    pub goes_on : (next : Registers) (later : List Summed) → ((l : ℕ) → l < length items → step_in i items x now l ≡ Some (lane_in next l))
        → AddsLanes slots (λ l. given_by x (lane_in now l)) (length items) 64 new later → Underway whole xs begun next old later (done + 1)
    goes_on next later steps adds = record {
      same_length = adds.same_length ∙ so_far.same_length;
      combines = λ f. adds.combines f ∙ so_far.combines f;
      fine = λ l h. so_far.fine l h ∙ some_onward i (item_at items l) x xs (lane_in now l) (lane_in next l) (steps l h);
      totals = λ f axis h.
          let c = (total_at old f).combine in
          let count = length items in
          let first = λ (l : ℕ). numbers_to slots f axis (given_by x (lane_in now l)) in
          let rest = λ (l : ℕ). numbers_to slots f axis (contributions_in i items xs next l) in
          let both = λ (l : ℕ). numbers_to slots f axis (contributions_in i items (x ∷ xs) now l) in
          let here : f < length new = omega (arith, so_far.same_length, h) in
          so_far.totals f axis h
          ∙ ap (fold (joined c) (along axis (total_at new f)))
          (gathered_same both (λ l. first l ++ rest l) count (λ l less.
          ap (numbers_to slots f axis) (given_onward i (item_at items l) x xs (lane_in now l) (lane_in next l) (steps l less))
          ∙ numbers_to-append slots f axis (given_by x (lane_in now l)) (contributions_in i items xs next l)))
          ∙ regrouped c (along axis (total_at new f)) first rest count
          ∙ ap (λ a. fold (joined c) a (gathered rest count))
          (ap (λ d. fold (joined d) (along axis (total_at new f)) (gathered first count)) (sym (so_far.combines f)) ∙ sym (adds.totals f axis here));
      few = λ n all. all_at_least (n + done * 64 + 64) (n + (done + 1) * 64) later (omega arith) (adds.few (n + done * 64) (so_far.few n all));
    }

    pub stops : SomeLaneFaults (length items) (step_in i items x now) → SomeLaneFaults (length items) (outcome_in i items whole begun)
    stops faults =
        let l = faults.lane in
        record {
          lane = l;
          within = faults.within;
          none = not_some (outcome_in i items whole begun l)
              (so_far.fine l faults.within ∙ none_onward i (item_at items l) x xs (lane_in now l) faults.none);
        }

  module _ (whole : List Instr) (begun now : Registers) (old new : List Summed) (done : ℕ) (so_far : Underway whole [] begun now old new done) where
    pub ends_fine : (l : ℕ) → l < length items → is_some (outcome_in i items whole begun l) ≡ true
    ends_fine l h = so_far.fine l h

    pub ends_added : done * 64 ≤ 2 ^ 38 → AddsLanes slots (contributions_in i items whole begun) (length items) (2 ^ 38) old new
    ends_added small = record {
      same_length = so_far.same_length;
      combines = so_far.combines;
      totals = λ f axis h.
          sym (so_far.totals f axis h
          ∙ ap (fold (joined (total_at old f).combine) (along axis (total_at new f)))
          (gathered_none (λ l. numbers_to slots f axis (contributions_in i items [] now l)) (length items) (λ l less. refl)));
      few = λ n all. all_at_least (n + done * 64) (n + 2 ^ 38) new (omega (arith, small)) (so_far.few n all);
    }

  -- the same for the instruction of a place
  module _ (whole : List Instr) (k : ℕ) (d : Instr) (within : k < length whole) (begun now : Registers) (old new : List Summed)
      (so_far : Underway whole (drop k whole) begun now old new k) where
    at_place : Underway whole (get_or whole k d ∷ drop (k + 1) whole) begun now old new k
    at_place = subst (λ left. Underway whole left begun now old new k) (drop_more whole k d within) so_far

    pub goes_on_at : (next : Registers) (later : List Summed) → ((l : ℕ) → l < length items → step_in i items (get_or whole k d) now l ≡ Some (lane_in next l))
        → AddsLanes slots (λ l. given_by (get_or whole k d) (lane_in now l)) (length items) 64 new later → Underway whole (drop (k + 1) whole) begun next old later (k + 1)
    goes_on_at next later steps adds = goes_on whole (get_or whole k d) (drop (k + 1) whole) begun now old new k at_place next later steps adds

    pub stops_at : SomeLaneFaults (length items) (step_in i items (get_or whole k d) now) → SomeLaneFaults (length items) (outcome_in i items whole begun)
    stops_at faults = stops whole (get_or whole k d) (drop (k + 1) whole) begun now old new k at_place faults

  module _ (whole : List Instr) (k : ℕ) (begun now : Registers) (old new : List Summed) (over : length whole ≤ k)
      (so_far : Underway whole (drop k whole) begun now old new k) where
    pub added_at_end : k * 64 ≤ 2 ^ 38 → AddsLanes slots (contributions_in i items whole begun) (length items) (2 ^ 38) old new
    added_at_end small = ends_added whole begun now old new k (subst (λ left. Underway whole left begun now old new k) (drop_all k whole over) so_far) small

    pub fine_at_end : (l : ℕ) → l < length items → is_some (outcome_in i items whole begun l) ≡ true
    fine_at_end = ends_fine whole begun now old new k (subst (λ left. Underway whole left begun now old new k) (drop_all k whole over) so_far)
