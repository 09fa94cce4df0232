use Rattle.std.proofs.Common.{◌≡◌, Some, inr, arith, rules}
use Rattle.std.proofs.lemmas.Result.{err_from_is_err_and}
use Rattle.std.proofs.lemmas.Int.{ints}
use Rattle.kern_token.specs.declared.token.Symbol.TheVariants as symbols
use Rattle.kern_token.specs.declared.token.TokenKind.TheVariants as kinds
use Rattle.kern_parse.specs.inner.Reading.{next_kind}
use Rattle.kern_parse.proofs.Declarations.{signed_is_number, plain_signed, minus_leads, minus_signed}
use Rattle.kern_parse.proofs.Following.{fault_then}
use Rattle.kern_parse.proofs.reader.Reader.signed_number.Goals as goal

pub returns-in_err-number-clause-read : goal.returns-in_err-number-clause-read
returns-in_err-number-clause-read c =
    let fault = err_from_is_err_and c.from_residual.result c.from_residual.ensures.1 in
    let next : next_kind c.args.self.now ≡ Some (kinds.Symbol symbols.Minus) = search rules in
    rw (fault.1, fault.2) (fault_then (minus_leads c.args.self.now _ _ next c.take.ensures) (inr c.in_err-number.ensures.err))

pub returns-then-sees-clause-read : goal.returns-then-sees-clause-read
returns-then-sees-clause-read c =
    let next : next_kind c.args.self.now ≡ Some (kinds.Symbol symbols.Minus) = search rules in
    minus_signed c.in_ok-number.number _ _ c.args.self.now _ _ next c.take.ensures (omega (arith, ints, c.in_ok-number.ensures.limit)) c.in_ok-number.ensures.ok

pub returns-in_err-number-2-clause-read : goal.returns-in_err-number-2-clause-read
returns-in_err-number-2-clause-read c =
    let fault = err_from_is_err_and c.from_residual-in_err-number-2.result c.from_residual-in_err-number-2.ensures.1 in
    let other : next_kind c.args.self.now ≡ Some (kinds.Symbol symbols.Minus) → ⊥ = search rules in
    rw (fault.1, fault.2) (fault_then (signed_is_number c.args.self.now other) (inr c.in_err-number-2.ensures.err))

pub returns-clause-read : goal.returns-clause-read
returns-clause-read c =
    let other : next_kind c.args.self.now ≡ Some (kinds.Symbol symbols.Minus) → ⊥ = search rules in
    plain_signed c.in_ok-number-2.number _ c.args.self.now _ other (omega (arith, ints, c.in_ok-number-2.ensures.limit)) c.in_ok-number-2.ensures.ok
