use Rattle.std.proofs.Common.{rules, ap, ◌∙◌, sym, subst}
use Rattle.std.specs.Prelude.{◌==◌}
use Rattle.std.specs.List.{list_any}
use Rattle.std.proofs.lemmas.Fn.{filter_same}
use Rattle.kern_types.specs.NameLists.{common}
use Rattle.kern_types.specs.Scopes.{AreNumbers, Scope, names_at}
use Rattle.kern_types.proofs.Numbers.{common_by_number, kept_numbers, scope_of}
use Rattle.kern_types.proofs.scope.Scope.join.Goals as goal

pub invariant_of-self : goal.invariant_of-self
invariant_of-self c =
    let kept = filter_same _ (λ n. list_any (λ other. other == n) c.args.first.now) _ (λ x b f r. search rules) _ _ c.retain.ensures.filtered in
    subst (AreNumbers c.self.inside.earlier.items) (sym kept) (kept_numbers c.self.inside.earlier.items (λ n. list_any (λ other. other == n) c.args.first.now) c.self.inside.certain.items c.self.invariant)

pub returns : goal.returns
returns c =
    let kept = filter_same _ (λ n. list_any (λ other. other == n) c.args.first.now) _ (λ x b f r. search rules) _ _ c.retain.ensures.filtered in
    let first_are = subst (λ (s : Scope). AreNumbers s.earlier c.args.first.now) (sym c.self.view_is) c.requires in
    ap (λ ns. scope_of c.self.inside.earlier.items (names_at c.self.inside.earlier.items ns)) kept
    ∙ ap (scope_of c.self.inside.earlier.items) (common_by_number c.self.inside.earlier.items c.args.first.now c.self.inside.certain.items first_are c.self.invariant)
    ∙ ap (λ (s : Scope). scope_of s.earlier (common (names_at s.earlier c.args.first.now) s.certain)) c.self.view_is
