use Rattle.std.proofs.Common.{◌∙◌, ap, sym}
use Rattle.std.specs.Char.{is_ascii_digit}
use Rattle.std.specs.List.{list_all}
use Rattle.command_line.proofs.NumberLemmas.{parsed_digits, other_words}
use Rattle.command_line.proofs.number.number.Goals as goal

pub returns-then-has_digits_alone : goal.returns-then-has_digits_alone
returns-then-has_digits_alone c =
    c.ok.ensures.value ∙ parsed_digits c.args.word.now _ c.parse.ensures.value.0 (ap (list_all is_ascii_digit) (sym c.as_bytes.ensures.value) ∙ sym c.has_digits_alone.ensures ∙ c.if-has_digits_alone.true)

pub returns-else-has_digits_alone : goal.returns-else-has_digits_alone
returns-else-has_digits_alone c = other_words c.args.word.now (ap (list_all is_ascii_digit) (sym c.as_bytes.ensures.value) ∙ sym c.has_digits_alone.ensures ∙ c.if-has_digits_alone.false)
