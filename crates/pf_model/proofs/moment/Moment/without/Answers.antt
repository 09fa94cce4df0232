use Rattle.std.proofs.Common.{◌≡◌, ◌∙◌, ap, sym, subst, length, rules}
use Rattle.pf_model.specs.Totals.{Totals, IsMomentOf}
use Rattle.pf_model.specs.Sums.{together}
use Rattle.pf_model.proofs.DifferenceLemmas.{rest_is}
use Rattle.pf_model.proofs.moment.Moment.without.Goals as goal

pub invariant_of-result : goal.invariant_of-result
invariant_of-result c =
    let rest = c.requires.0 in
    let h = c.requires.1 in
    let all : Totals = record { count = c.self.inside.count; mass = c.self.inside.mass; weighted = c.self.inside.weighted; attr = c.self.inside.attr } in
    let some : Totals = record { count = c.some.inside.count; mass = c.some.inside.mass; weighted = c.some.inside.weighted; attr = c.some.inside.attr } in
    let makes : all ≡ together some rest = c.self.view_is ∙ h.makes ∙ ap (λ (t : Totals). together t rest) (sym c.some.view_is) in
    let eight : length c.some.inside.attr ≡ 8 = search rules in
    let is = rest_is all some rest c.attribute_differences.result makes h.limits eight c.attribute_differences.ensures in
    subst (λ (t : Totals). IsMomentOf t.count t.mass t.weighted t.attr) (sym is) h.limits.limits

pub returns : goal.returns
returns c = λ rest h.
    let all : Totals = record { count = c.self.inside.count; mass = c.self.inside.mass; weighted = c.self.inside.weighted; attr = c.self.inside.attr } in
    let some : Totals = record { count = c.some.inside.count; mass = c.some.inside.mass; weighted = c.some.inside.weighted; attr = c.some.inside.attr } in
    let makes : all ≡ together some rest = c.self.view_is ∙ h.makes ∙ ap (λ (t : Totals). together t rest) (sym c.some.view_is) in
    let eight : length c.some.inside.attr ≡ 8 = search rules in
    rest_is all some rest c.attribute_differences.result makes h.limits eight c.attribute_differences.ensures
