-- The command that the words after the program's name give. Another command is one more definition, and its line in
-- `command_named`.
use Rattle.std.specs.Prelude.{ℕ, ◌-◌, ◌^◌, if◌then◌else◌, List, [], ◌∷◌, codes}
use Rattle.std.specs.Prelude.{Option, Some, None, option_and_then, option_map}
use Rattle.std.specs.Borrow.{Bor}
use Rattle.std.specs.Option.{option_map_or}
use Rattle.std.specs.Str.{bytes_eq}
use Rattle.clap.specs.Words.{App, Row, Text, first_of}
use Rattle.command_line.specs.declared.command.Command.{Command}
use Rattle.command_line.specs.declared.command.Command.TheVariants.{Run, Bench}
use Rattle.command_line.specs.Form.{blank, given, with_word, with_workers}
use Rattle.command_line.specs.Number.{number_within}
use Rattle.command_line.specs.Options.{with_three, with_two}

-- the number of the word with this id
abbrev pub number_in : Text → ℕ → ℕ → List Row → Option ℕ
number_in id least most rows = option_and_then (number_within least most) (first_of id rows)

-- one worker, unless the words say how many
abbrev pub workers_in : List Row → Option ℕ
workers_in rows = option_map_or (number_within 1 64) (first_of (codes "workers") rows) (Some 1)

abbrev pub run_form : App
run_form = with_workers (with_word (codes "deck") blank)

abbrev pub run_in : List Row → Option (Command Text)
run_in rows = with_two Run (first_of (codes "deck") rows) (workers_in rows)

abbrev pub bench_form : App
bench_form = with_workers (with_word (codes "seed") (with_word (codes "particles") blank))

abbrev pub bench_in : List Row → Option (Command Text)
bench_in rows =
    with_three Bench (number_in (codes "particles") 0 65536 rows) (number_in (codes "seed") 0 (2 ^ 64 - 1) rows)
    (workers_in rows)

-- the command that words of this form give
abbrev pub given_by : App → (List Row → Option (Command Text)) → List Text → Option (Command Text)
given_by form command_in words = option_and_then command_in (given form words)

-- the command that the first word names, with what the others give
abbrev pub command_named : Text → List Text → Option (Command Text)
command_named first words =
    if bytes_eq first (codes "run") then given_by run_form run_in words
    else (if bytes_eq first (codes "bench") then given_by bench_form bench_in words
    else None)

unfoldable pub command_of : List Text → Option (Command Text)
command_of [] = None
command_of (first ∷ words) = command_named first words

-- the same command, with its names changed by f
abbrev pub command_map : {M N : Type 0} → (M → N) → Command M → Command N
command_map f (Run deck workers) = Run (f deck) workers
command_map f (Bench particles seed workers) = Bench particles seed workers

-- a command that may be there, with its names seen as their texts
abbrev pub with_texts : Option (Command (Bor Text)) → Option (Command Text)
with_texts = option_map (command_map (λ name. name.now))
