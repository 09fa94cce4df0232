-- The code of a typed kernel is valid, and means the kernel.
use Rattle.std.proofs.Common.{◌≡◌, ℕ, zero, suc, ◌<◌, ◌≤◌, List, [], get_or, replicate, Bool, true, false, ◌||◌, Option, Some, None, Ok, Err, pos, refl, sym, ap, ◌∙◌, arith}
use Rattle.std.specs.Prelude.{◌==◌}
use Rattle.std.specs.Option.{option_map}
use Rattle.std.proofs.lemmas.List.{get_or-set_same, get_or-set_other, length-replicate, length-set}
use Rattle.std.proofs.lemmas.Bool.Decides.{nat_tests}
use Rattle.kern_tree.specs.declared.kernel.Kernel.{Kernel}
use Rattle.kern_tree.specs.Limits.{IsLimitedBlock, ParsedKernelsKeepLimits}
use Rattle.kern_tree.specs.Parsed.{IsParsed}
use Rattle.kern_types.proofs.Checks.{passed_then}
use Rattle.kern_types.specs.Declarations.{all_decls_check}
use Rattle.kern_types.specs.Statements.{stmts_after}
use Rattle.kern_types.specs.TypingLaws.{AssignmentsFit}
use Rattle.kern_types.specs.WellTyped.{WellTyped, at_start}
use Rattle.kern_meaning.proofs.Runs.{never_without}
use Rattle.kern_meaning.specs.declared.stop.PairStop.TheVariants as pair_stops
use Rattle.kern_meaning.specs.declared.value.Value.{Value}
use Rattle.kern_meaning.specs.Names.{known_at_start, value_if_declared}
use Rattle.kern_meaning.specs.Pair.{OrPairStop, PairState, block_meaning, is_same_place, pair_of}
use Rattle.kern_meaning.specs.Stops.{◌>>=◌}
use Rattle.kern_meaning.specs.Typing.{Typing}
use Rattle.lane_code.specs.declared.code.RawCode.{RawCode}
use Rattle.lane_code.specs.Outcome.{Given, before, lane_answer, lane_start, outcome}
use Rattle.lane_code.specs.Steps.{mask_at}
use Rattle.lane_code.specs.Validity.{first_breach}
use Rattle.lane_codegen.specs.Meaning.{Means, as_lane}
use Rattle.lane_codegen.specs.Statements.{Written, block_code, kernel_code}
use Rattle.lane_codegen.specs.Writing.{nothing_written}
use Rattle.pf_model.specs.Particle.{Particle}
use Rattle.pf_model.specs.Totals.{Source}
use Rattle.lane_codegen.proofs.Gifts.{nothing_from}
use Rattle.lane_codegen.proofs.Idle.{lane}
use Rattle.lane_codegen.proofs.KernelMeans.{block_run}
use Rattle.lane_codegen.proofs.Operators.{Fits}
use Rattle.lane_codegen.proofs.Runs.{Running, outcome_is}
use Rattle.lane_codegen.proofs.StmtRuns.{Ends, Stands}
use Rattle.lane_codegen.proofs.StmtSound.{StmtSound, block_sound}
use Rattle.lane_codegen.proofs.Tidy.{grows}
use Rattle.lane_codegen.proofs.Validity.{stays_valid}

before_nothing : (o : Option (List Given)) → before [] o ≡ o
before_nothing None = refl
before_nothing (Some g) = refl

falses : (n m : ℕ) → get_or (replicate n false) m false ≡ false
falses zero m = refl
falses (suc n) zero = refl
falses (suc n) (suc m) = falses n m

module _ {A : Type 0} where
  abbrev empty_slot : Option A
  empty_slot = None

  nones : (n m : ℕ) → get_or (replicate n empty_slot) m None ≡ None
  nones zero m = refl
  nones (suc n) zero = refl
  nones (suc n) (suc m) = nones n m

first_mask : (m : ℕ) (b : Bool) → m < 1 → (m == 0 || b) ≡ true
first_mask m b less = ap (λ x. x || b) (let e : (m == 0) ≡ true = is_zero m less in e) where
  is_zero : (m : ℕ) → m < 1 → (m == 0) ≡ true
  is_zero m less = grind (arith, nat_tests)

module _ (kernel : Kernel) (parsed : IsParsed kernel) (typed : WellTyped kernel) (limits_kept : ParsedKernelsKeepLimits) where
  body : IsLimitedBlock kernel.body
  body = (limits_kept kernel parsed).body

  abbrev raw : RawCode
  raw = kernel_code kernel

  abbrev nothing : Written
  nothing = record { table = []; code = nothing_written }

  sound : StmtSound 0 nothing (block_code kernel.decls kernel.body 0 nothing)
  sound = block_sound kernel.decls body 0 nothing (omega arith) (omega arith)

  pub kernel_valid : first_breach raw ≡ None
  kernel_valid = (stays_valid raw sound.tidy (record { numbers = omega arith; masks = omega arith; slots = omega arith })
      (record { one = omega arith; fine = refl; numbers = λ r less. absurd (omega (arith, less)); masks = λ m less. first_mask m _ less; slots = λ slot axis above. refl })).fine

  module _ (assignments_fit : AssignmentsFit) (typing : Typing) (i : Particle) (j : Source) where
    abbrev coincident : Bool
    coincident = is_same_place i.at j.at

    abbrev meaning_slots : ℕ
    meaning_slots = (block_meaning kernel.decls coincident kernel.body).slots

    abbrev begun : PairState
    begun = record { known = known_at_start kernel.decls i j; given = replicate meaning_slots None }

    abbrev start : Running
    start = record { state = lane_start raw; given = [] }

    some_masks : 1 ≤ raw.masks
    some_masks = (grows sound.tidy).masks

    fits : Fits start raw
    fits =
        let a = length-replicate raw.numbers (pos 0) in
        let b = length-set (replicate raw.masks false) 0 true in
        let c = length-replicate raw.masks false in
        record { numbers = omega (arith, a); masks = omega (arith, b, c) }

    first_holds : mask_at (lane_start raw).masks 0 ≡ true
    first_holds = let a = length-replicate raw.masks false in let b = some_masks in get_or-set_same (replicate raw.masks false) 0 true false (omega (arith, a, b))

    others_off : (m : ℕ) → 1 ≤ m → mask_at (lane_start raw).masks m ≡ false
    others_off m above = get_or-set_other (replicate raw.masks false) 0 m true false (λ e. omega (arith, above, e)) ∙ falses raw.masks m

    stands : Stands i j kernel.decls start 0 nothing begun start
    stands = record {
      is = refl;
      masked = first_holds;
      unmade = others_off;
      agrees = record {
        declared = λ name decl is. ap (value_if_declared i j) is;
        assigned = λ name none v is. let e : known_at_start kernel.decls i j name ≡ None = ap (value_if_declared i j) none in absurd (let no : ⊥ = cc in no);
      };
      given = sym (nothing_from 0 (replicate meaning_slots None) (λ m. nones meaning_slots m));
      empty = λ m above. nones meaning_slots m;
    }

    ran : Ends i j kernel.decls start 0 (block_code kernel.decls kernel.body 0 nothing) begun ((block_meaning kernel.decls coincident kernel.body).run 1 0 begun)
    ran =
        let after = passed_then (all_decls_check kernel.decls) (stmts_after kernel.decls kernel.body at_start) typed.0 typed.1 in
        let r = block_run i j kernel.decls start coincident assignments_fit body at_start typed.0 after 0 nothing (omega arith) (omega arith) (λ name. refl) in
        let l = length-replicate meaning_slots (none_value) in
        r.runs fits 1 begun start stands (omega (arith, l)) where
          none_value : Option Value
          none_value = None

    answered : lane_answer raw i j ≡ option_map (λ k. k.given) (lane i j start raw)
    answered = sym (before_nothing (outcome i j raw.steps (lane_start raw))) ∙ outcome_is i j raw.steps start

    by_end : (r : OrPairStop PairState) → (block_meaning kernel.decls coincident kernel.body).run 1 0 begun ≡ r → Ends i j kernel.decls start 0 (block_code kernel.decls kernel.body 0 nothing) begun r → lane_answer raw i j ≡ as_lane (pair_of kernel i j)
    by_end (Ok end) e h = answered ∙ ap (option_map (λ k. k.given)) h.stands.is ∙ ap Some h.stands.given ∙ sym (ap (λ r. as_lane (r >>= (λ end. Ok end.given))) e)
    by_end (Err (pair_stops.Fault fault)) e h = answered ∙ ap (option_map (λ k. k.given)) h ∙ sym (ap (λ r. as_lane (r >>= (λ end. Ok end.given))) e)
    by_end (Err pair_stops.NoResult) e h = absurd (never_without kernel i j (typing kernel i j parsed typed) (ap (λ r. r >>= (λ end. Ok end.given)) e))

    answers : lane_answer raw i j ≡ as_lane (pair_of kernel i j)
    answers = by_end ((block_meaning kernel.decls coincident kernel.body).run 1 0 begun) refl ran

  pub kernel_means : AssignmentsFit → Typing → Means kernel raw
  kernel_means assignments_fit typing i j = answers assignments_fit typing i j
