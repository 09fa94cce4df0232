use Rattle.std.proofs.Common.{◌≡◌, [], ◌∷◌, ◌≤◌, ◌+◌, Some, refl, sym, ap, ◌∙◌, arith, rules}
use Rattle.kern_token.specs.declared.token.TokenKind.TheVariants as kinds
use Rattle.kern_parse.specs.inner.Reading.{next_kind}
use Rattle.kern_parse.specs.Required.{Part}
use Rattle.kern_parse.proofs.Steps.{refuses}
use Rattle.kern_parse.proofs.Taking.{reads_at, halts_deep, exactly_is, exactly_refuses}
use Rattle.kern_parse.proofs.reader.Reader.open_bracket.Goals as goal

pub returns-clause-ok : goal.returns-clause-ok
returns-clause-ok c =
    let next : next_kind c.args.self.now ≡ Some (kinds.Symbol c.args.bracket) = search rules in
    let taken = c.take-place.ensures in
    let depth_is = ap (λ r. r.depth) c.self.view_is in
    reads_at (Part.Exactly c.args.bracket) (kinds.Symbol c.args.bracket) c.args.self.now taken.token _ (taken.rest ∙ ap (λ r. taken.token ∷ r.rest) (sym c.self.view_is)) next (exactly_is c.args.bracket)
    (ap (λ r. r.end) c.self.view_is ∙ taken.end) (ap (λ r. r.nodes) c.self.view_is ∙ taken.nodes)
    (c.requires c.args.self.now.depth ∙ ap (λ d. d + 1) (sym (depth_is ∙ taken.depth))) (omega (arith, c.self.invariant.1, c.if-self-eq-MOST_OPEN.false))

pub returns-then-not-sees-clause-err : goal.returns-then-not-sees-clause-err
returns-then-not-sees-clause-err c = rw c.unexpected.ensures (refuses (Part.Exactly c.args.bracket) c.args.self.now refl (exactly_refuses c.args.bracket _ (search rules)))

pub returns-then-self-eq-MOST_OPEN-clause-err : goal.returns-then-self-eq-MOST_OPEN-clause-err
returns-then-self-eq-MOST_OPEN-clause-err c =
    let next : next_kind c.args.self.now ≡ Some (kinds.Symbol c.args.bracket) = search rules in
    let taken = c.take-place.ensures in
    let depth_is = ap (λ r. r.depth) c.self.view_is in
    let full : 33 ≤ c.args.self.now.depth + 1 = omega (arith, c.if-self-eq-MOST_OPEN.true, depth_is, taken.depth) in
    rw (← taken.place_is) (halts_deep (Part.Exactly c.args.bracket) [] (kinds.Symbol c.args.bracket) c.args.self.now taken.token c.take-place.new.self.rest taken.rest next (exactly_is c.args.bracket) (rw (c.requires c.args.self.now.depth) full))
