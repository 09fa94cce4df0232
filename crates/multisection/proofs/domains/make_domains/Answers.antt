use Rattle.std.proofs.Common.{◌≡◌, List, get_or, Option, None, sym, ◌∙◌, ap, subst}
use Rattle.pf_geom.specs.Bounds.{Bounds}
use Rattle.pf_model.specs.Division.{IsDivision}
use Rattle.pf_model.specs.Domains.{Multisection, cuts_for}
use Rattle.multisection.specs.Regions.{IsTarget, boxes_by}
use Rattle.multisection.proofs.BoxLemmas.{targets_are}
use Rattle.multisection.proofs.domains.make_domains.Goals as goal

pub returns-clause-targets : goal.returns-clause-targets
unfolding cuts_for
returns-clause-targets c = λ rank.
    let g = c.args.grid in
    let js = c.args.bodies.now in
    let cuts : c.in_ok-cuts.cuts ≡ cuts_for g js = c.in_ok-cuts.ensures in
    let division : IsDivision g = subst (λ (s : Multisection). IsDivision s.grid) cuts c.in_ok-boxes.ensures.regions.cuts.division in
    let boxes : c.in_ok-boxes.boxes.items ≡ boxes_by (cuts_for g js) js = c.in_ok-boxes.ensures.value ∙ ap (λ (s : Multisection). boxes_by s js) cuts in
    subst (λ (l : List (Option Bounds)). IsTarget g js rank (get_or l rank None)) (sym boxes) (targets_are c.owners_are_ranks.ensures g js division rank)
