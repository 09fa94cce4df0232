use Rattle.std.proofs.Common.{◌∙◌, sym, ap, [], ◌∷◌}
use Rattle.text_lines.specs.Lines.{FieldLine}
use Rattle.deck_file.proofs.OptionLemmas.{seen_None, seen_Some}
use Rattle.deck_file.proofs.ReadingLemmas.{same_rest}
use Rattle.deck_file.proofs.reading.setting_after.Goals as goal

pub returns-then-is_some-clause-err : goal.returns-then-is_some-clause-err
returns-then-is_some-clause-err c =
    let has = sym (ap (λ (l : FieldLine). l.fields) c.line.view_is) ∙ c.in-Some.ensures in (
      ap (λ (l : FieldLine). l.number) c.line.view_is,
      (c.in-Some.key, (c.next_key.new.fields, has), seen_Some (λ v. v.now) c.value_in.result _ c.value_in.ensures c.if-is_some.ensures),
    )

pub returns-in-None-clause-err : goal.returns-in-None-clause-err
returns-in-None-clause-err c =
    let has = sym (ap (λ (l : FieldLine). l.fields) c.line.view_is) ∙ c.in-Some.ensures in (
      ap (λ (l : FieldLine). l.number) c.line.view_is,
      (
        c.in-Some.key,
        (c.next_key.new.fields, has),
        seen_None (λ v. v.now) c.value_in.result _ c.value_in.ensures c.if-is_some.ensures,
        λ value only. c.in-None.ensures value (same_rest _ c.next_key.new.fields (value ∷ []) (sym has ∙ only)),
      ),
    )
