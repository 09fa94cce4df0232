-- What the words of a form give.
use Rattle.std.proofs.Common.{◌≡◌, ◌∙◌, ap, List, Option}
use Rattle.std.specs.Prelude.{option_and_then}
use Rattle.clap.specs.Words.{App, Row, Text}
use Rattle.command_line.specs.declared.command.Command.{Command}
use Rattle.command_line.specs.Form.{given}
use Rattle.command_line.specs.Words.{given_by}

pub given_by-is : (form app : App) (words : List Text) (command_in : List Row → Option (Command Text)) (rows : Option (List Row)) → app ≡ form
    → rows ≡ given app words → option_and_then command_in rows ≡ given_by form command_in words
given_by-is form app words command_in rows form_is rows_are = ap (option_and_then command_in) (rows_are ∙ ap (λ a. given a words) form_is)
