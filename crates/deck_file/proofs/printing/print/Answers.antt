use Rattle.std.proofs.Common.{◌∙◌, ap, refl, decimal, ℕ, List, ◌++◌}
use Rattle.text_lines.specs.Written.{written_line}
use Rattle.deck_file.specs.declared.keyword.Keyword.{Keyword}
use Rattle.deck_file.specs.declared.keyword.Keyword.TheVariants as keys
use Rattle.deck_file.specs.declared.deck.Deck.{Deck}
use Rattle.deck_file.specs.Printed.{deck_text, edge_text, settings_of, with_value}
use Rattle.deck_file.specs.Settings.{setting_fields}
use Rattle.deck_file.proofs.PrintLemmas.{Pushed, pushed_text}
use Rattle.deck_file.proofs.printing.print.Goals as goal

-- the text and a line of this key
abbrev with_line : List ℕ → Keyword → List ℕ → List ℕ
with_line text key value = text ++ written_line (setting_fields (with_value key value))

pub returns : goal.returns
returns c =
    let pushed : Pushed c.new-out.result.items (settings_of c.args.deck.now) c.push_line-6.new.out.items = (
      c.push_line.new.out.items,
      c.in_ok-push_line.ensures ∙ ap (with_line c.new-out.result.items keys.Kernel) c.as_bytes.ensures,
      (
        c.push_line-2.new.out.items,
        c.in_ok-push_line-2.ensures ∙ ap (with_line c.push_line.new.out.items keys.Particles) c.as_bytes-2.ensures,
        (
          c.push_line-3.new.out.items,
          c.in_ok-push_line-3.ensures ∙ ap (with_line c.push_line-2.new.out.items keys.Out) c.as_bytes-3.ensures,
          (
            c.push_line-4.new.out.items,
            c.in_ok-push_line-4.ensures ∙ ap (with_line c.push_line-3.new.out.items keys.Grid) (c.deref.ensures.value ∙ c.in_ok-grid_text.ensures),
            (
              c.push_line-5.new.out.items,
              c.in_ok-push_line-5.ensures ∙ ap (with_line c.push_line-4.new.out.items keys.Theta) (c.deref-2.ensures.value ∙ c.in_ok-angle_text.ensures),
              (
                c.push_number.new.out.items,
                c.in_ok-push_number.ensures ∙ ap (λ (d : Deck). with_line c.push_line-5.new.out.items keys.Group (decimal d.group)) c.deck.view_is,
                (
                  c.push_number-2.new.out.items,
                  c.in_ok-push_number-2.ensures ∙ ap (λ (d : Deck). with_line c.push_number.new.out.items keys.Steps (decimal d.steps)) c.deck.view_is,
                  (
                    c.push_number-3.new.out.items,
                    c.in_ok-push_number-3.ensures ∙ ap (λ (d : Deck). with_line c.push_number-2.new.out.items keys.Dt (decimal d.dt)) c.deck.view_is,
                    (
                      c.push_number-4.new.out.items,
                      c.in_ok-push_number-4.ensures ∙ ap (λ (d : Deck). with_line c.push_number-3.new.out.items keys.Reuse (decimal d.reuse)) c.deck.view_is,
                      (c.push_line-6.new.out.items, c.in_ok-push_line-6.ensures ∙ ap (with_line c.push_number-4.new.out.items keys.Box) (c.as_bytes-4.ensures.value ∙ c.edge_text.ensures ∙ ap (λ (d : Deck). edge_text d.theta.edge) c.deck.view_is), refl),
                    ),
                  ),
                ),
              ),
            ),
          ),
        ),
      ),
    ) in
    pushed_text c.new-out.result.items (settings_of c.args.deck.now) c.push_line-6.new.out.items pushed
    ∙ ap (λ (text : List ℕ). text ++ deck_text c.args.deck.now) c.new-out.ensures.items
