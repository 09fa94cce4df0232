use Rattle.std.proofs.Common.{◌≡◌, ◌∷◌, ◌-◌, Some, refl, sym, ap, ◌∙◌, arith, rules}
use Rattle.kern_token.specs.declared.token.TokenKind.TheVariants as kinds
use Rattle.kern_parse.specs.inner.Reading.{next_kind}
use Rattle.kern_parse.specs.Required.{Part}
use Rattle.kern_parse.proofs.Steps.{refuses}
use Rattle.kern_parse.proofs.Taking.{reads_at, exactly_is, exactly_refuses}
use Rattle.kern_parse.proofs.reader.Reader.close_bracket.Goals as goal

pub returns-clause-ok : goal.returns-clause-ok
returns-clause-ok c =
    let next : next_kind c.args.self.now ≡ Some (kinds.Symbol c.args.bracket) = search rules in
    let taken = c.take.ensures in
    let depth_is = ap (λ r. r.depth) c.self.view_is in
    reads_at (Part.Exactly c.args.bracket) (kinds.Symbol c.args.bracket) c.args.self.now taken.token _ (taken.rest ∙ ap (λ r. taken.token ∷ r.rest) (sym c.self.view_is)) next (exactly_is c.args.bracket)
    (ap (λ r. r.end) c.self.view_is ∙ taken.end) (ap (λ r. r.nodes) c.self.view_is ∙ taken.nodes)
    (c.requires.closes c.args.self.now.depth ∙ ap (λ d. d - 1) (sym (depth_is ∙ taken.depth))) (omega (arith, c.self.invariant.1))

pub returns-then-not-sees-clause-err : goal.returns-then-not-sees-clause-err
returns-then-not-sees-clause-err c = rw c.unexpected.ensures (refuses (Part.Exactly c.args.bracket) c.args.self.now refl (exactly_refuses c.args.bracket _ (search rules)))
