use Rattle.std.proofs.Common.{◌≡◌, ◌∷◌, take, drop, sym, ap, ap₂, ◌∙◌, not}
use Rattle.std.specs.Str.Lines.{strip_carriage_return}
use Rattle.std.proofs.lemmas.List.Folds.{length-prefix_len}
use Rattle.text_lines.specs.Lines.{is_line_feed, lines}
use Rattle.text_lines.proofs.LineLemmas.{line_len, lines-first}
use Rattle.text_lines.proofs.lines.split_line.Goals as goal

pub returns-clause-lines : goal.returns-clause-lines
returns-clause-lines c =
    let len : c.line_len.result ≡ line_len c.args.text.now = c.line_len.ensures ∙ length-prefix_len (λ b. not (is_line_feed b)) c.args.text.now in
    lines-first c.args.text.now c.requires
    ∙ ap₂ (λ line rest. line ∷ lines rest)
    (ap strip_carriage_return (ap (λ n. take n c.args.text.now) (sym len) ∙ sym c.split_at.ensures.front) ∙ sym c.without_return.ensures)
    (ap (drop 1) (ap (λ n. drop n c.args.text.now) (sym len) ∙ sym c.split_at.ensures.back) ∙ sym c.without_first.ensures)
