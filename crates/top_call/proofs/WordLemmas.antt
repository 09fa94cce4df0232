-- What the words ask for, carried out.
use Rattle.std.proofs.Common.{ℕ, ◌≡◌, ◌≤◌, ◌-◌, ◌^◌, ◌⊎◌, inl, inr, Bool, true, false, ◌&&◌, nat_le, if◌then◌else◌, List, [], ◌∷◌, codes, Option, Some, None, option_and_then, refl, sym, subst, arith}
use Rattle.std.specs.Option.{option_map_or}
use Rattle.std.specs.Str.{bytes_eq}
use Rattle.std.proofs.lemmas.Bool.{leb-true}
use Rattle.clap.specs.Words.{Row, first_of}
use Rattle.command_line.specs.declared.command.Command.{Command}
use Rattle.command_line.specs.declared.command.Command.TheVariants as commands
use Rattle.command_line.specs.Form.{given}
use Rattle.command_line.specs.Number.{numeral_value, number_within, within}
use Rattle.command_line.specs.Options.{with_three, with_two}
use Rattle.command_line.specs.Words.{bench_form, bench_in, command_of, given_by, number_in, run_form, run_in, workers_in}
use Rattle.command_frame.specs.Effects.{CarriesOut}
use Rattle.command_frame.specs.Standing.{Standing}
use Rattle.command_frame.specs.declared.status.Status.TheVariants.{Usage, Memory}
use Rattle.command_frame.proofs.StepLaws.{carried_at_once}
use Rattle.pf_model.specs.declared.limits.TheConstants.{MOST_PARTICLES}
use Rattle.top_call.specs.Bench.{BenchMeans, EndsBench}
use Rattle.top_call.specs.Run.{AreWorkers, Ending, EndsRun, RunMeans}
use Rattle.top_call.specs.Words.{EndsCommand, EndsWords, CommandMeans, WordsMean}

-- a command of these words
as_words : (words : List (List ℕ)) (command : Option (Command (List ℕ))) (status : Ending) (old new : Standing) → command ≡ command_of words
    → CarriesOut (EndsCommand command) (CommandMeans command) status old new → CarriesOut (EndsWords words) (WordsMean words) status old new
as_words words command status old new e h =
    let P : Option (Command (List ℕ)) → Type 0 = λ c. CarriesOut (EndsCommand c) (CommandMeans c) status old new in subst P e h

pub run_of_words : (words : List (List ℕ)) (name : List ℕ) (workers : ℕ) (status : Ending) (old new : Standing) → Some (commands.Run name workers) ≡ command_of words
    → CarriesOut EndsRun (RunMeans name) status old new → CarriesOut (EndsWords words) (WordsMean words) status old new
run_of_words words name workers status old new e h = as_words words (Some (commands.Run name workers)) status old new e h

pub bench_of_words : (words : List (List ℕ)) (count seed workers : ℕ) (status : Ending) (old new : Standing) → Some (commands.Bench count seed workers) ≡ command_of words
    → CarriesOut EndsBench (BenchMeans count seed) status old new → CarriesOut (EndsWords words) (WordsMean words) status old new
bench_of_words words count seed workers status old new e h = as_words words (Some (commands.Bench count seed workers)) status old new e h

pub no_words : (words : List (List ℕ)) (old : Standing) → None ≡ command_of words → CarriesOut (EndsWords words) (WordsMean words) Usage old old
no_words words old e =
    as_words words None Usage old old e
    (carried_at_once (EndsCommand None) (CommandMeans None) Usage old (inl refl) (λ files. record { meant = refl; kept = refl }) (λ files said. refl) refl)

memory_ends : (command : Option (Command (List ℕ))) → EndsCommand command Memory
memory_ends None = inr refl
memory_ends (Some (commands.Run name workers)) = tt
memory_ends (Some (commands.Bench count seed workers)) = tt

pub no_memory_for_words : (words : List (List ℕ)) (old : Standing) → CarriesOut (EndsWords words) (WordsMean words) Memory old old
no_memory_for_words words old =
    carried_at_once (EndsWords words) (WordsMean words) Memory old (memory_ends (command_of words)) (λ files. inl refl) (λ files said. refl) refl

usage_of : (command : Option (Command (List ℕ))) (result : Ending) → (result ≡ Memory) ⊎ EndsCommand command result → command ≡ None → (result ≡ Usage) ⊎ (result ≡ Memory)
usage_of command result h none = elim h [
  | inl m ↦ inr m
  | inr ends ↦ let P : Option (Command (List ℕ)) → Type 0 = λ c. EndsCommand c result in subst P none ends
]

pub usage : (words : List (List ℕ)) (result : Ending) → (result ≡ Memory) ⊎ EndsWords words result → command_of words ≡ None → (result ≡ Usage) ⊎ (result ≡ Memory)
usage words result h none = usage_of (command_of words) result h none

only_none : (command : Option (Command (List ℕ))) (result : Ending) → (result ≡ Memory) ⊎ EndsCommand command result → result ≡ Usage → command ≡ None
only_none None result h is = refl
only_none (Some (commands.Run name workers)) result h is = elim h [ inl m ↦ cc | inr ends ↦ absurd (subst EndsRun is ends) ]
only_none (Some (commands.Bench count seed workers)) result h is = elim h [ inl m ↦ cc | inr ends ↦ absurd (subst EndsBench is ends) ]

pub usage_only : (words : List (List ℕ)) (result : Ending) → (result ≡ Memory) ⊎ EndsWords words result → result ≡ Usage → command_of words ≡ None
usage_only words result h is = only_none (command_of words) result h is

-- the number of workers is one of those that the words may give

both : (a b : Bool) → (a && b) ≡ true → (a ≡ true) × (b ≡ true)
both true true h = (refl, refl)
both true false h = cc
both false b h = cc

picked : (b : Bool) (n count : ℕ) → (if b then Some n else None) ≡ Some count → (b ≡ true) × (n ≡ count)
picked true n count h = (refl, cc)
picked false n count h = cc

within_range : (least most n count : ℕ) → within least most n ≡ Some count → (least ≤ count) × (count ≤ most)
within_range least most n count h =
    let is = picked (nat_le least n && nat_le n most) n count h in
    let ranges = both (nat_le least n) (nat_le n most) is.0 in
    let some = leb-true least n ranges.0 in
    let above = leb-true n most ranges.1 in
    let same = is.1 in
    (omega arith, omega arith)

of_number : (least most : ℕ) (o : Option ℕ) (count : ℕ) → option_and_then (within least most) o ≡ Some count → (least ≤ count) × (count ≤ most)
of_number least most None count h = cc
of_number least most (Some n) count h = within_range least most n count h

some_workers : (count : ℕ) → (1 ≤ count) × (count ≤ 64) → AreWorkers count
some_workers count h = record { some = h.0; most = h.1 }

of_value : (o : Option (List ℕ)) (count : ℕ) → option_map_or (number_within 1 64) o (Some 1) ≡ Some count → AreWorkers count
of_value None count h = let one : 1 ≡ count = cc in record { some = omega arith; most = omega arith }
of_value (Some word) count h = some_workers count (of_number 1 64 (numeral_value word) count h)

of_word : (least most : ℕ) (o : Option (List ℕ)) (count : ℕ) → option_and_then (number_within least most) o ≡ Some count → (least ≤ count) × (count ≤ most)
of_word least most None count h = cc
of_word least most (Some word) count h = of_number least most (numeral_value word) count h

second_of : (a : Option (List ℕ)) (b : Option ℕ) (name : List ℕ) (count : ℕ) → with_two commands.Run a b ≡ Some (commands.Run name count) → b ≡ Some count
second_of None b name count h = cc
second_of (Some a) None name count h = cc
second_of (Some a) (Some b) name count h = cc

no_run : (a b c : Option ℕ) (name : List ℕ) (count : ℕ) → with_three commands.Bench a b c ≡ Some (commands.Run name count) → ⊥
no_run None b c name count h = cc
no_run (Some a) None c name count h = cc
no_run (Some a) (Some b) None name count h = cc
no_run (Some a) (Some b) (Some c) name count h = cc

run_given : (rows : Option (List Row)) (name : List ℕ) (count : ℕ) → option_and_then run_in rows ≡ Some (commands.Run name count) → AreWorkers count
run_given None name count h = cc
run_given (Some rows) name count h =
    of_value (first_of (codes "workers") rows) count (second_of (first_of (codes "deck") rows) (workers_in rows) name count h)

bench_given : (rows : Option (List Row)) (name : List ℕ) (count : ℕ) → option_and_then bench_in rows ≡ Some (commands.Run name count) → ⊥
bench_given None name count h = cc
bench_given (Some rows) name count h = no_run _ _ _ name count h

named : (a b : Bool) (run bench : Option (Command (List ℕ))) (command : Command (List ℕ)) → (if a then run else (if b then bench else None)) ≡ Some command
    → (run ≡ Some command) ⊎ (bench ≡ Some command)
named true b run bench command h = inl h
named false true run bench command h = inr h
named false false run bench command h = cc

pub workers_of_words : (words : List (List ℕ)) (name : List ℕ) (count : ℕ) → Some (commands.Run name count) ≡ command_of words → AreWorkers count
unfolding command_of
workers_of_words [] name count e = cc
workers_of_words (first ∷ words) name count e =
    elim (named (bytes_eq first (codes "run")) (bytes_eq first (codes "bench")) (given_by run_form run_in words) (given_by bench_form bench_in words) (commands.Run name count) (sym e)) [
      | inl run ↦ run_given (given run_form words) name count run
      | inr bench ↦ absurd (bench_given (given bench_form words) name count bench)
    ]

-- and so are the numbers of a benchmark

three_of : (a b c : Option ℕ) (count seed workers : ℕ) → with_three {D = Command (List ℕ)} commands.Bench a b c ≡ Some (commands.Bench count seed workers) → (a ≡ Some count) × (c ≡ Some workers)
three_of None b c count seed workers h = cc
three_of (Some a) None c count seed workers h = cc
three_of (Some a) (Some b) None count seed workers h = cc
three_of (Some a) (Some b) (Some c) count seed workers h = (cc, cc)

no_bench : (a : Option (List ℕ)) (b : Option ℕ) (count seed workers : ℕ) → with_two commands.Run a b ≡ Some (commands.Bench count seed workers) → ⊥
no_bench None b count seed workers h = cc
no_bench (Some a) None count seed workers h = cc
no_bench (Some a) (Some b) count seed workers h = cc

no_bench_given : (rows : Option (List Row)) (count seed workers : ℕ) → option_and_then run_in rows ≡ Some (commands.Bench count seed workers) → ⊥
no_bench_given None count seed workers h = cc
no_bench_given (Some rows) count seed workers h = no_bench (first_of (codes "deck") rows) (workers_in rows) count seed workers h

numbers_given : (rows : Option (List Row)) (count seed workers : ℕ) → option_and_then bench_in rows ≡ Some (commands.Bench count seed workers) → (count ≤ MOST_PARTICLES) × AreWorkers workers
numbers_given None count seed workers h = cc
numbers_given (Some rows) count seed workers h =
    let numbers = three_of (number_in (codes "particles") 0 65536 rows) (number_in (codes "seed") 0 (2 ^ 64 - 1) rows) (workers_in rows) count seed workers h in
    let few = of_word 0 65536 (first_of (codes "particles") rows) count numbers.0 in
    (few.1, of_value (first_of (codes "workers") rows) workers numbers.1)

pub numbers_of_words : (words : List (List ℕ)) (count seed workers : ℕ) → Some (commands.Bench count seed workers) ≡ command_of words → (count ≤ MOST_PARTICLES) × AreWorkers workers
unfolding command_of
numbers_of_words [] count seed workers e = cc
numbers_of_words (first ∷ words) count seed workers e =
    elim (named (bytes_eq first (codes "run")) (bytes_eq first (codes "bench")) (given_by run_form run_in words) (given_by bench_form bench_in words) (commands.Bench count seed workers) (sym e)) [
      | inl run ↦ absurd (no_bench_given (given run_form words) count seed workers run)
      | inr bench ↦ numbers_given (given bench_form words) count seed workers bench
    ]
