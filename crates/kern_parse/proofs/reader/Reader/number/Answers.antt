use Rattle.std.proofs.Common.{refl}
use Rattle.kern_token.specs.declared.token.TokenKind.TheVariants as kinds
use Rattle.kern_parse.specs.Required.{Part}
use Rattle.kern_parse.proofs.Steps.{refuses}
use Rattle.kern_parse.proofs.Taking.{reads_token}
use Rattle.kern_parse.proofs.reader.Reader.number.Goals as goal

pub returns-clause-ok : goal.returns-clause-ok
returns-clause-ok c = reads_token Part.Number (kinds.Number c.in-Some.number) _ _ _ c.take.ensures c.in-Some.ensures.0 refl (λ depth. refl)

pub returns-in_default-clause-err : goal.returns-in_default-clause-err
returns-in_default-clause-err c = rw c.unexpected.ensures (refuses Part.Number c.args.self.now refl c.in_default.ensures)
