use Rattle.std.proofs.Common.{◌≡◌, Some, refl, rules}
use Rattle.kern_token.specs.declared.token.TokenKind.TheVariants as kinds
use Rattle.kern_parse.specs.inner.Reading.{next_kind}
use Rattle.kern_parse.specs.Required.{Part}
use Rattle.kern_parse.proofs.Steps.{refuses}
use Rattle.kern_parse.proofs.Taking.{reads_token, exactly_is, exactly_refuses}
use Rattle.kern_parse.proofs.reader.Reader.symbol.Goals as goal

pub returns-clause-ok : goal.returns-clause-ok
returns-clause-ok c =
    let next : next_kind c.args.self.now ≡ Some (kinds.Symbol c.args.symbol) = search rules in
    reads_token (Part.Exactly c.args.symbol) (kinds.Symbol c.args.symbol) _ _ _ c.take.ensures next (exactly_is c.args.symbol) c.requires

pub returns-then-not-sees-clause-err : goal.returns-then-not-sees-clause-err
returns-then-not-sees-clause-err c = rw c.unexpected.ensures (refuses (Part.Exactly c.args.symbol) c.args.self.now refl (exactly_refuses c.args.symbol _ (search rules)))
