use Rattle.std.proofs.Common.{◌≡◌, Some, true, false, refl, inr, rules}
use Rattle.kern_token.specs.declared.token.Symbol.TheVariants as symbols
use Rattle.kern_token.specs.declared.token.TokenKind.TheVariants as kinds
use Rattle.kern_parse.specs.inner.Reading.{next_kind}
use Rattle.kern_parse.proofs.Statements.{assign_read, assign_refused}
use Rattle.kern_parse.proofs.reader.Reader.assign.Goals as goal

pub returns-then-sees-clause-ok : goal.returns-then-sees-clause-ok
returns-then-sees-clause-ok c =
    let next : next_kind c.args.self.now ≡ Some (kinds.Symbol symbols.Add) = search rules in
    assign_read true (kinds.Symbol symbols.Add) c.args.self.now _ _ next c.take.ensures refl (λ depth. refl) (λ tokens place rest found. found)

pub returns-then-sees-2-clause-ok : goal.returns-then-sees-2-clause-ok
returns-then-sees-2-clause-ok c =
    let next : next_kind c.args.self.now ≡ Some (kinds.Symbol symbols.Assign) = search rules in
    assign_read false (kinds.Symbol symbols.Assign) c.args.self.now _ _ next c.take-then-sees-2.ensures refl (λ depth. refl) (λ tokens place rest found. found)

pub returns-clause-err : goal.returns-clause-err
returns-clause-err c =
    let no_add : next_kind c.args.self.now ≡ Some (kinds.Symbol symbols.Add) → ⊥ = search rules in
    let no_assign : next_kind c.args.self.now ≡ Some (kinds.Symbol symbols.Assign) → ⊥ = search rules in
    rw c.unexpected.ensures (inr (assign_refused c.args.self.now no_add no_assign))
