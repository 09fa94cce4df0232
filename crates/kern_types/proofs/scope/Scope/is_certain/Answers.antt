use Rattle.std.proofs.Common.{ap, ◌∙◌, sym}
use Rattle.std.specs.Prelude.{◌==◌, position}
use Rattle.std.specs.List.{list_any}
use Rattle.kern_types.specs.NameLists.{is_among}
use Rattle.kern_types.specs.Scopes.{Scope, names_at}
use Rattle.kern_types.proofs.Numbers.{among_by_number, among_none, found_name, found_number, has_name}
use Rattle.kern_types.proofs.scope.Scope.is_certain.Goals as goal

pub returns-in-Some : goal.returns-in-Some
returns-in-Some c =
    let found = ap (λ (s : Scope). position (has_name c.args.name.now) s.earlier) c.self.view_is ∙ sym c.in-Some.ensures in
    c.is_one_of.ensures ∙ ap (list_any (λ other. other == c.in-Some.number)) c.as_slice.ensures.value
    ∙ among_by_number c.self.inside.earlier.items c.self.inside.certain.items c.in-Some.number c.self.invariant (found_number c.self.inside.earlier.items c.args.name.now c.in-Some.number found)
    ∙ ap (is_among (names_at c.self.inside.earlier.items c.self.inside.certain.items)) (found_name c.self.inside.earlier.items c.args.name.now c.in-Some.number found)
    ∙ ap (λ (s : Scope). is_among s.certain c.args.name.now) c.self.view_is

pub returns-in-None : goal.returns-in-None
returns-in-None c =
    let none = ap (λ (s : Scope). position (has_name c.args.name.now) s.earlier) c.self.view_is ∙ sym c.in-None.ensures in
    sym (among_none c.self.inside.earlier.items c.self.inside.certain.items c.args.name.now c.self.invariant none)
    ∙ ap (λ (s : Scope). is_among s.certain c.args.name.now) c.self.view_is
