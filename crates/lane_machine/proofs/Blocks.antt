-- Items, one block after another.
use Rattle.std.proofs.Common.{◌≡◌, ℕ, zero, suc, ◌+◌, ◌-◌, ◌*◌, ◌^◌, ◌<◌, ◌≤◌, ℤ, true, List, ◌++◌, drop, length, refl, sym, ap, ap₂, subst, ◌∙◌, ⊎_elim, append_assoc, arith, fold}
use Rattle.std.specs.Option.{is_some}
use Rattle.std.specs.Prelude.{slice_range}
use Rattle.std.proofs.lemmas.List.{get_or-take, get_or-drop, append-nil}
use Rattle.std.proofs.lemmas.List.Sums.{fold-append}
use Rattle.std.proofs.lemmas.Bool.{cases_lt}
use Rattle.pf_model.specs.Particle.{Particle}
use Rattle.pf_model.specs.Totals.{Source}
use Rattle.lane_code.specs.declared.instruction.Instr.{Instr}
use Rattle.lane_code.specs.Outcome.{Given, outcome}
use Rattle.lane_code.specs.Steps.{LaneState}
use Rattle.lane_machine.specs.declared.registers.Registers.{Registers}
use Rattle.lane_machine.specs.Block.{SomeLaneFaults, item_at, no_item, lane_in}
use Rattle.lane_machine.specs.Contributions.{contributions, contributions_at, contributions_in, outcome_at, outcome_in}
use Rattle.lane_machine.specs.Gathered.{AddsLanes, gathered, numbers_to, total_at}
use Rattle.lane_machine.specs.Total.{Summed, along, joined}
use Rattle.lane_machine.proofs.GatherLemmas.{gathered_same}
use Rattle.lane_machine.proofs.TotalLemmas.{all_at_least}

gathered_on : (g : ℕ → List ℤ) (m n : ℕ) → gathered g (m + n) ≡ gathered g m ++ gathered (λ l. g (m + l)) n
gathered_on g m zero = let same : m + 0 ≡ m = omega arith in ap (gathered g) same ∙ sym (append-nil (gathered g m))
gathered_on g m (suc n) =
    let next : m + suc n ≡ suc (m + n) = omega arith in
    ap (gathered g) next ∙ ap (λ ns. ns ++ g (m + n)) (gathered_on g m n) ∙ append_assoc (gathered g m) (gathered (λ l. g (m + l)) n) (g (m + n))

-- the items of a block are those from its first on
pub in_block : (items : List Source) (first end l : ℕ) → l < end - first → item_at (slice_range items first end) l ≡ item_at items (first + l)
in_block items first end l h = get_or-take (end - first) (drop first items) l no_item h ∙ get_or-drop first items l no_item

module _ (slots : List ℕ) where
  -- what some lanes give is added before what the next ones give
  adds_more : (g : ℕ → List Given) (h : ℕ → List Given) (m n most more : ℕ) (old now new : List Summed)
      → ((l : ℕ) → l < n → h l ≡ g (m + l)) → AddsLanes slots g m most old now → AddsLanes slots h n more now new → AddsLanes slots g (m + n) (most + more) old new
  adds_more g h m n most more old now new same so_far next = record {
    same_length = next.same_length ∙ so_far.same_length;
    combines = λ f. next.combines f ∙ so_far.combines f;
    totals = λ f axis less.
        let c = (total_at old f).combine in
        let gs = λ (l : ℕ). numbers_to slots f axis (g l) in
        let hs = λ (l : ℕ). numbers_to slots f axis (h l) in
        let here : f < length now = omega (arith, so_far.same_length, less) in
        next.totals f axis here
        ∙ ap (λ d. fold (joined d) (along axis (total_at now f)) (gathered hs n)) (so_far.combines f)
        ∙ ap₂ (λ a ns. fold (joined c) a ns) (so_far.totals f axis less)
        (gathered_same hs (λ l. gs (m + l)) n (λ l within. ap (numbers_to slots f axis) (same l within)))
        ∙ sym (fold-append (joined c) (along axis (total_at old f)) (gathered gs m) (gathered (λ l. gs (m + l)) n))
        ∙ ap (fold (joined c) (along axis (total_at old f))) (sym (gathered_on gs m n));
    few = λ n' all. all_at_least (n' + most + more) (n' + (most + more)) new (omega arith) (next.few (n' + most) (so_far.few n' all));
  }

  -- the items before a place are through
  pub record Through (i : Particle) (items : List Source) (steps : List Instr) (start : LaneState) (first : ℕ) (old new : List Summed) : Type 0 where
    pub fine : (n : ℕ) → n < first → is_some (outcome_at i items steps start n) ≡ true
    pub added : AddsLanes slots (contributions_at i items steps start) first (first * 2 ^ 38) old new

  module _ (i : Particle) (items : List Source) (steps : List Instr) (start : LaneState) where
    pub none_through : (old : List Summed) → Through i items steps start 0 old old
    none_through old = record {
      fine = λ n h. absurd (omega (arith, h));
      added = record {
        same_length = refl;
        combines = λ f. refl;
        totals = λ f axis h. refl;
        few = λ n all. all_at_least n (n + 0 * 2 ^ 38) old (omega arith) all;
      };
    }

    module _ (first end : ℕ) (begun : Registers) (starts : (l : ℕ) → l < 64 → lane_in begun l ≡ start) (low : first < end) (few : end ≤ first + 64) where
      same_outcome : (l : ℕ) → l < end - first → outcome_in i (slice_range items first end) steps begun l ≡ outcome_at i items steps start (first + l)
      same_outcome l h =
          ap₂ (λ j s. outcome i j steps s) (in_block items first end l h) (starts l (omega (arith, h, few)))

      same_given : (l : ℕ) → l < end - first → contributions_in i (slice_range items first end) steps begun l ≡ contributions_at i items steps start (first + l)
      same_given l h =
          ap₂ (λ j s. contributions i j steps s) (in_block items first end l h) (starts l (omega (arith, h, few)))

      pub block_through : (count : ℕ) (old now new : List Summed) → count ≡ end - first → Through i items steps start first old now
          → ((l : ℕ) → l < count → is_some (outcome_in i (slice_range items first end) steps begun l) ≡ true)
          → AddsLanes slots (contributions_in i (slice_range items first end) steps begun) count (2 ^ 38) now new
          → Through i items steps start end old new
      block_through count old now new counted so_far fine adds =
          let joined_up : first + count ≡ end = omega (arith, counted, low) in
          let whole = adds_more (contributions_at i items steps start) (contributions_in i (slice_range items first end) steps begun) first count (first * 2 ^ 38) (2 ^ 38) old now new
          (λ l h. same_given l (omega (arith, h, counted))) so_far.added adds in
          record {
            fine = λ n h. ⊎_elim (λ less. so_far.fine n less)
                (λ e.
                let place : first + (n - first) ≡ n = omega (arith, e) in
                let inside : n - first < end - first = omega (arith, e, h) in
                ap (λ m. is_some (outcome_at i items steps start m)) (sym place) ∙ ap is_some (sym (same_outcome (n - first) inside)) ∙ fine (n - first) (omega (arith, inside, counted)))
                (cases_lt n first);
            added = record {
              same_length = whole.same_length;
              combines = whole.combines;
              totals = λ f axis h. subst (λ m. along axis (total_at new f)
                  ≡ fold (joined (total_at old f).combine) (along axis (total_at old f)) (gathered (λ l. numbers_to slots f axis (contributions_at i items steps start l)) m)) joined_up (whole.totals f axis h);
              few = λ n all. all_at_least (n + (first * 2 ^ 38 + 2 ^ 38)) (n + end * 2 ^ 38) new (omega (arith, low)) (whole.few n all);
            };
          }

      pub block_faults : (count : ℕ) → count ≡ end - first → end ≤ length items → SomeLaneFaults count (outcome_in i (slice_range items first end) steps begun)
          → SomeLaneFaults (length items) (outcome_at i items steps start)
      block_faults count counted within faults =
          let inside : faults.lane < end - first = omega (arith, faults.within, counted) in
          record {
            lane = first + faults.lane;
            within = omega (arith, inside, within);
            none = sym (same_outcome faults.lane inside) ∙ faults.none;
          }
