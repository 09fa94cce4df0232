use Rattle.std.proofs.Common.{refl, ◌∙◌, sym}
use Rattle.kern_token.specs.declared.token.TokenKind.TheVariants as kinds
use Rattle.kern_parse.specs.Required.{Part}
use Rattle.kern_parse.proofs.Steps.{refuses}
use Rattle.kern_parse.proofs.Taking.{reads_token}
use Rattle.kern_parse.proofs.reader.Reader.scale.Goals as goal

pub returns-clause-ok : goal.returns-clause-ok
returns-clause-ok c = reads_token Part.Scale (kinds.Scale c.in-Some.scale) _ _ _ c.take.ensures (sym c.next.ensures ∙ c.in-Some.ensures) refl (λ depth. refl)

pub returns-in_default-clause-err : goal.returns-in_default-clause-err
returns-in_default-clause-err c = rw c.unexpected.ensures (refuses Part.Scale c.args.self.now refl (rw (← c.next.ensures) c.in_default.ensures))
