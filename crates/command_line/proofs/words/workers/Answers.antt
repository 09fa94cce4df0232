use Rattle.std.proofs.Common.{ap, ◌∙◌, sym, ℕ, List, Option, Some}
use Rattle.std.specs.Option.{option_map_or}
use Rattle.command_line.specs.Number.{number_within}
use Rattle.command_line.proofs.words.workers.Goals as goal

abbrev workers_by : Option (List ℕ) → Option ℕ
workers_by word = option_map_or (number_within 1 64) word (Some 1)

pub returns-in_err-number_within-in-Some : goal.returns-in_err-number_within-in-Some
returns-in_err-number_within-in-Some c =
    c.from_residual.ensures ∙ sym c.in_err-number_within-in-Some.was ∙ c.number_within.ensures ∙ ap workers_by c.in-Some.ensures

pub returns-in_ok-number_within-in-Some : goal.returns-in_ok-number_within-in-Some
returns-in_ok-number_within-in-Some c =
    sym c.in_ok-number_within-in-Some.was ∙ c.number_within.ensures ∙ ap workers_by c.in-Some.ensures

pub returns-in-None : goal.returns-in-None
returns-in-None c = ap workers_by c.in-None.ensures
