use Rattle.std.proofs.Common.{take, drop, ap, ◌∙◌, not}
use Rattle.std.proofs.lemmas.List.Folds.{length-prefix_len}
use Rattle.text_lines.specs.Lines.{is_blank}
use Rattle.text_lines.proofs.FieldLemmas.{IsFirstField, no_field, some_field}
use Rattle.text_lines.proofs.fields.split_field.Goals as goal

found : (c : goal.After-split_at-2) → IsFirstField c.args.line.now c.split_at-2.result.0.now c.split_at-2.result.1.now
found c = record {
  after_blanks = c.split_at.result.1.now;
  blanks = c.split_at.ensures.back ∙ ap (λ n. drop n c.args.line.now) (c.blanks_len.ensures ∙ length-prefix_len is_blank c.args.line.now);
  field_is = c.split_at-2.ensures.front ∙ ap (λ n. take n c.split_at.result.1.now) (c.field_len.ensures ∙ length-prefix_len (λ b. not (is_blank b)) c.split_at.result.1.now);
  rest_is = c.split_at-2.ensures.back ∙ ap (λ n. drop n c.split_at.result.1.now) (c.field_len.ensures ∙ length-prefix_len (λ b. not (is_blank b)) c.split_at.result.1.now);
}

pub returns-clause-none : goal.returns-clause-none
returns-clause-none c = no_field _ _ _ (found c)

pub returns-clause-some : goal.returns-clause-some
returns-clause-some c = some_field _ _ _ (found c)
