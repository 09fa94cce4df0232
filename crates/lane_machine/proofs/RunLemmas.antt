-- What a code gives for a list of items.
use Rattle.std.proofs.Common.{◌≡◌, ℕ, zero, suc, ◌+◌, ◌<◌, ◌≤◌, ℤ, true, List, [], ◌∷◌, ◌++◌, Option, Some, None, unwrap_or, take, length, get_or, refl, sym, ap, ◌∙◌, arith, fold}
use Rattle.std.specs.List.{All, flat_map}
use Rattle.std.specs.Option.{is_some}
use Rattle.std.proofs.lemmas.List.{take_all, append-nil, take_more}
use Rattle.std.proofs.lemmas.List.Concat.{flat_map-append}
use Rattle.pf_model.specs.Particle.{Particle}
use Rattle.pf_model.specs.Totals.{Source}
use Rattle.lane_code.specs.declared.code.RawCode.{RawCode}
use Rattle.lane_code.specs.declared.instruction.Instr.{Instr}
use Rattle.lane_code.specs.Outcome.{Given, given_by, outcome, and_then, before, lane_answer, lane_start}
use Rattle.lane_code.specs.Steps.{LaneState, step}
use Rattle.lane_machine.specs.Block.{SomeLaneFaults, item_at, no_item}
use Rattle.lane_machine.specs.Contributions.{contributions, contributions_at, onward, outcome_at}
use Rattle.lane_machine.specs.Gathered.{AddsLanes, gathered, numbers_to, total_at}
use Rattle.lane_machine.specs.Machine.{SomeItemFaults}
use Rattle.lane_machine.specs.Sums.{AddsItems, Collected, given_for}
use Rattle.lane_machine.specs.Total.{along, joined}
use Rattle.lane_machine.proofs.GatherLemmas.{gathered_same}

some_is : {X : Type 0} (x y : X) → Some x ≡ Some y → x ≡ y
some_is x y e = cc

after_given : (gs : List Given) (rest : Option (List Given)) (found : List Given) → ((g : List Given) → rest ≡ Some g → found ≡ g)
    → (g : List Given) → before gs rest ≡ Some g → gs ++ found ≡ g
after_given gs None found same g e = absurd (let no : ⊥ = cc in no)
after_given gs (Some others) found same g e = ap (λ x. gs ++ x) (same others refl) ∙ some_is (gs ++ others) g e

after_step : (gs : List Given) (o : Option LaneState) (next : LaneState → Option (List Given)) (found : LaneState → List Given)
    → ((s : LaneState) (g : List Given) → next s ≡ Some g → found s ≡ g) → (g : List Given) → before gs (and_then o next) ≡ Some g → gs ++ onward o found ≡ g
after_step gs None next found same g e = absurd (let no : ⊥ = cc in no)
after_step gs (Some s) next found same g e = after_given gs (next s) (found s) (same s) g e

-- a lane that doesn't fault gives all contributions
all_given : (i : Particle) (j : Source) (steps : List Instr) (s : LaneState) (g : List Given) → outcome i j steps s ≡ Some g → contributions i j steps s ≡ g
all_given i j [] s g e = some_is [] g e
all_given i j (x ∷ xs) s g e = after_step (given_by x s) (step i j x s) (outcome i j xs) (contributions i j xs) (all_given i j xs) g e

unwrapped : (o : Option (List Given)) (found : List Given) → ((g : List Given) → o ≡ Some g → found ≡ g) → is_some o ≡ true → found ≡ unwrap_or o []
unwrapped None found same e = absurd (let no : ⊥ = cc in no)
unwrapped (Some g) found same e = same g refl

any_default : {X : Type 0} (xs : List X) (k : ℕ) (d e : X) → k < length xs → get_or xs k d ≡ get_or xs k e
any_default [] k d e h = absurd (omega (arith, h))
any_default (x ∷ xs) zero d e h = refl
any_default (x ∷ xs) (suc k) d e h = any_default xs k d e (omega (arith, h))

-- what items give one after another
flat_gathered : (g : Source → List ℤ) (items : List Source) (n : ℕ) → n ≤ length items → gathered (λ k. g (item_at items k)) n ≡ flat_map g (take n items)
flat_gathered g items zero h = refl
flat_gathered g items (suc n) h =
    let within : n < length items = omega (arith, h) in
    let next : n + 1 ≡ suc n = omega arith in
    ap (λ xs. xs ++ g (item_at items n)) (flat_gathered g items n (omega (arith, h)))
    ∙ ap (λ xs. flat_map g (take n items) ++ xs) (sym (append-nil (g (item_at items n))))
    ∙ sym (flat_map-append g (take n items) (item_at items n ∷ []))
    ∙ ap (flat_map g) (sym (take_more items n no_item within) ∙ ap (λ m. take m items) next)

module _ (raw : RawCode) (i : Particle) (items : List Source) where
  pub all_fine : ((n : ℕ) → n < length items → is_some (outcome_at i items raw.steps (lane_start raw) n) ≡ true) → All (λ j. is_some (lane_answer raw i j) ≡ true) items
  all_fine fine = λ k d within. ap (λ j. is_some (lane_answer raw i j)) (any_default items k d no_item within) ∙ fine k within

  pub some_faults : SomeLaneFaults (length items) (outcome_at i items raw.steps (lane_start raw)) → SomeItemFaults raw i items
  some_faults faults = record { place = faults.lane; within = faults.within; none = faults.none }

  pub items_added : (old new : Collected) (most : ℕ) → ((n : ℕ) → n < length items → is_some (outcome_at i items raw.steps (lane_start raw) n) ≡ true)
      → new.slots ≡ old.slots → new.items ≡ old.items + length items
      → AddsLanes old.slots (contributions_at i items raw.steps (lane_start raw)) (length items) most old.totals new.totals
      → AddsItems raw i items old new
  items_added old new most fine slots count adds = record {
    slots = slots;
    items = count;
    same_length = adds.same_length;
    combines = adds.combines;
    totals = λ f axis h.
        let g = λ (j : Source). numbers_to old.slots f axis (given_for raw i j) in
        let whole : length items ≤ length items = omega arith in
        adds.totals f axis h
        ∙ ap (fold (joined (total_at old.totals f).combine) (along axis (total_at old.totals f)))
        (gathered_same (λ l. numbers_to old.slots f axis (contributions_at i items raw.steps (lane_start raw) l)) (λ l. g (item_at items l)) (length items)
        (λ l less. ap (numbers_to old.slots f axis)
        (unwrapped (outcome_at i items raw.steps (lane_start raw) l) (contributions_at i items raw.steps (lane_start raw) l)
        (all_given i (item_at items l) raw.steps (lane_start raw)) (fine l less)))
        ∙ flat_gathered g items (length items) whole ∙ ap (flat_map g) (take_all (length items) items whole));
  }
