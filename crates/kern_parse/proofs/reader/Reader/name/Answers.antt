use Rattle.std.proofs.Common.{Some, refl, sym, ap, ◌∙◌, inr}
use Rattle.kern_token.specs.declared.token.TokenKind.TheVariants as kinds
use Rattle.kern_parse.specs.Required.{Part}
use Rattle.kern_parse.proofs.Steps.{refuses}
use Rattle.kern_parse.proofs.Taking.{reads_token}
use Rattle.kern_parse.proofs.reader.Reader.name.Goals as goal

pub returns-clause-ok : goal.returns-clause-ok
returns-clause-ok c = reads_token Part.Name (kinds.Name c.in_ok-name.name) _ _ _ c.take.ensures
    (sym c.next.ensures ∙ c.in-Some.ensures ∙ ap (λ n. Some (kinds.Name n)) (sym c.in_ok-name.ensures.cases)) refl (λ depth. refl)

pub returns-in_default-clause-err : goal.returns-in_default-clause-err
returns-in_default-clause-err c = inr (rw c.unexpected.ensures (refuses Part.Name c.args.self.now refl (rw (← c.next.ensures) c.in_default.ensures)))
