use Rattle.std.proofs.Common.{ap, sym, ◌∙◌, List, Option, option_map}
use Rattle.clap.specs.Words.{Row, Text, found_of, rows_of}
use Rattle.command_line.specs.declared.command.Command.{Command}
use Rattle.command_line.specs.declared.command.Command.TheVariants.{Run}
use Rattle.command_line.specs.Options.{with_two}
use Rattle.command_line.specs.Words.{command_map, workers_in}
use Rattle.command_line.proofs.words.run_in.Goals as goal

abbrev run_with : List Row → Option Text → Option (Command Text)
run_with rows deck = with_two Run deck (workers_in rows)

pub returns-in_err-value : goal.returns-in_err-value
returns-in_err-value c =
    ap (option_map (command_map (λ name. name.now))) c.from_residual.ensures
    ∙ ap (run_with (rows_of (found_of c.args.given.now))) c.in_err-value.ensures

pub returns : goal.returns
returns c =
    ap (option_map (Run c.in_ok-value.field-0.now)) (sym c.in_ok-workers.was ∙ c.workers.ensures)
    ∙ ap (run_with (rows_of (found_of c.args.given.now))) c.in_ok-value.ensures
