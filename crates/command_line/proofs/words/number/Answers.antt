use Rattle.std.proofs.Common.{ap, ◌∙◌}
use Rattle.std.specs.Prelude.{option_and_then}
use Rattle.command_line.specs.Number.{number_within}
use Rattle.command_line.proofs.words.number.Goals as goal

pub returns-in_err-value : goal.returns-in_err-value
returns-in_err-value c =
    c.from_residual.ensures ∙ ap (option_and_then (number_within c.args.least c.args.most)) c.in_err-value.ensures

pub returns : goal.returns
returns c = c.number_within.ensures ∙ ap (option_and_then (number_within c.args.least c.args.most)) c.in_ok-value.ensures
