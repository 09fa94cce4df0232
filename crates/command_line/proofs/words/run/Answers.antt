use Rattle.std.proofs.Common.{◌∙◌, None, Some, ap, sym, map, option_map}
use Rattle.clap.specs.Words.{found_of, rows_of}
use Rattle.command_line.specs.Words.{run_form, run_in}
use Rattle.command_line.proofs.WordLemmas.{given_by-is}
use Rattle.command_line.proofs.words.run.Goals as goal

pub returns-in-Some : goal.returns-in-Some
returns-in-Some g c =
    c.run_in.ensures ∙ given_by-is run_form _ (map g.W.AsStr.text c.args.words.now) run_in (Some (rows_of (found_of c.in-Some.given)))
    c.in_ok-run_form.ensures (ap (option_map (λ m. rows_of (found_of m))) (sym c.in-Some.is) ∙ c.in_ok-given.ensures)

pub returns-in-None : goal.returns-in-None
returns-in-None g c =
    given_by-is run_form _ (map g.W.AsStr.text c.args.words.now) run_in None
    c.in_ok-run_form.ensures (ap (option_map (λ m. rows_of (found_of m))) (sym c.in-None.is) ∙ c.in_ok-given.ensures)
