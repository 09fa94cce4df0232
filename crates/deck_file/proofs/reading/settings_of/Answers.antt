use Rattle.std.proofs.Common.{◌∙◌, sym, ap, subst, [], ◌∷◌, ◌++◌}
use Rattle.deck_file.specs.Settings.{GiveSettings, IsNext}
use Rattle.deck_file.proofs.ReadingLemmas.{Gives-more, lines_more}
use Rattle.deck_file.proofs.reading.settings_of.Goals as goal

pub loop-line-preserved : goal.loop-line-preserved
loop-line-preserved c =
    let line = c.in-Some.line in
    let before = c.loop-line.invariant.0 in
    let setting = c.in_ok-setting.setting in
    let next : IsNext c.loop-line.settings.items line setting =
    subst (λ settings. IsNext settings line setting) c.deref.ensures.value c.in_ok-setting.ensures.ok in (
      before ++ line ∷ [],
      lines_more _ before line c.next_line.new.self.ahead (c.loop-line.invariant.1 ∙ ap (λ ahead. before ++ ahead) c.in-Some.ensures.line),
      subst (GiveSettings [] (before ++ line ∷ [])) (sym c.in_ok-push.ensures.items) (Gives-more [] before _ line setting c.loop-line.invariant.2 next),
    )
