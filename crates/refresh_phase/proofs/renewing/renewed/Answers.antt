use Rattle.std.proofs.Common.{length, sym, ◌∙◌, ap, subst}
use Rattle.std.specs.List.Sorted.{IsPermutation}
use Rattle.all_to_all.specs.Handed.{all_carried}
use Rattle.list_reuse.specs.Keeping.{Motion, AreKept, IsRenewal, at_time}
use Rattle.refresh_phase.proofs.MoveLemmas.{in_renewal, values_came}
use Rattle.refresh_phase.proofs.renewing.renewed.Goals as goal

pub renew-requires : goal.renew-requires
renew-requires g c =
    let here = c.requires.1.1.0 in
    let same = c.requires.1.1.1.0 in
    let inboxes = c.requires.1.1.1.1.0 in
    let can = c.requires.1.1.1.1.1.0 in
    let few = c.requires.1.1.1.1.1.1 in
    let r = c.args.renewer.now.rank in
    let came = values_came g.T.Terms.theta g.T.Terms.grid g.T.Terms.particles c.args.shared.now.bodies.now c.args.rank (length c.args.shared.now.inboxes.now) _ c.parcels.result.now
    few inboxes (ap (λ v. all_carried v.items) c.replace-tokens.ensures.value ∙ can.settles.carried)
    (subst (IsPermutation (all_carried c.replace-tokens.result.items)) (sym c.parcels.ensures) c.settle.ensures.all) in (
      (can.renews.before, subst (λ (m : Motion). AreKept (at_time m can.renews.before) r.lists) (sym here) can.renews.lists),
      (
        sym can.renews.built_is,
        subst (λ (m : Motion). IsRenewal m r.tree c.parcels.result.now) (sym here)
            (in_renewal g.T.Terms.theta g.T.Terms.grid g.T.Terms.particles c.args.shared.now.bodies.now c.args.rank r can.renews same c.parcels.result.now came),
      ),
    )
