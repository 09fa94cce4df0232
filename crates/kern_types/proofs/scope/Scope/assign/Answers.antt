use Rattle.std.proofs.Common.{rules, ◌≡◌, ap, ◌∙◌, sym, length, ◌++◌, ◌∷◌, []}
use Rattle.std.specs.Prelude.{position, unwrap_or}
use Rattle.kern_types.specs.declared.scope.Variable.{Variable}
use Rattle.kern_types.specs.Scopes.{Scope}
use Rattle.kern_types.proofs.Numbers.{assigned_numbers, assigned_scope, has_name, still_numbers}
use Rattle.kern_types.proofs.scope.Scope.assign.Goals as goal

pub invariant_of-self-in_err-push-2 : goal.invariant_of-self-in_err-push-2
invariant_of-self-in_err-push-2 c =
    rw (c.in_ok-push.ensures.items, c.in_err-push-2.ensures.items) (still_numbers c.self.inside.earlier.items _ c.self.inside.certain.items c.self.invariant)

pub invariant_of-self-2 : goal.invariant_of-self-2
invariant_of-self-2 c =
    let v : Variable = record { name = c.args.name.now; kind = c.args.kind; scale = c.args.scale } in
    let number = c.number_or_next-number.ensures ∙ ap (λ (s : Scope). unwrap_or (position (has_name c.args.name.now) s.earlier) (length s.earlier)) (sym c.self.view_is) in
    let pushed : c.push.new.self.items ≡ c.self.inside.earlier.items ++ v ∷ [] = search rules in
    rw (pushed, c.in_ok-push-2.ensures.items) (assigned_numbers c.self.inside.earlier.items c.self.inside.certain.items v c.self.invariant c.number_or_next-number.result number)

pub returns : goal.returns
returns c =
    let v : Variable = record { name = c.args.name.now; kind = c.args.kind; scale = c.args.scale } in
    let number = c.number_or_next-number.ensures ∙ ap (λ (s : Scope). unwrap_or (position (has_name c.args.name.now) s.earlier) (length s.earlier)) (sym c.self.view_is) in
    let pushed : c.push.new.self.items ≡ c.self.inside.earlier.items ++ v ∷ [] = search rules in
    assigned_scope c.self.inside.earlier.items c.self.inside.certain.items v c.self.invariant c.number_or_next-number.result number
    c.push.new.self.items c.push-2.new.self.items c.args.self.now pushed c.in_ok-push-2.ensures.items c.self.view_is
