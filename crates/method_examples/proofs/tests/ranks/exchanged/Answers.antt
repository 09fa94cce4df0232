use Rattle.std.proofs.Common.{◌≡◌, [], ◌∷◌, sym, ◌∙◌, ap, subst}
use Rattle.pf_model.specs.Particles.{AreBodies}
use Rattle.exchange.specs.States.{left_with, parcels_from, joined}
use Rattle.method_examples.proofs.TwoRanks.{first_settles, second_settles}
use Rattle.method_examples.proofs.tests.ranks.exchanged.Goals as goal

pub settle-requires : goal.settle-requires
settle-requires c =
    let s = c.args.d.now.cuts in
    let left : c.leave.new.s ≡ left_with s (record { rank = 0; bodies = c.args.first ∷ [] }) = c.in_ok-from_first.ensures.left ∙ ap (left_with s) c.in_ok-first.ensures in
    let come : c.in_ok-from_second.from_second.items ≡ parcels_from s (record { rank = 1; bodies = c.args.second ∷ [] }) = c.in_ok-from_second.ensures.parcels ∙ ap (parcels_from s) c.in_ok-second.ensures in
    subst AreBodies (sym (λ i. joined (left i).bodies (come i))) (first_settles c.each_rank_has_its_own.ensures s (c.args.first ∷ []) (c.args.second ∷ []) c.requires.two c.requires.bodies)

pub settle-requires-2 : goal.settle-requires-2
settle-requires-2 c =
    let s = c.args.d.now.cuts in
    let left : c.leave-2.new.s ≡ left_with s (record { rank = 1; bodies = c.args.second ∷ [] }) = c.in_ok-from_second.ensures.left ∙ ap (left_with s) c.in_ok-second.ensures in
    let come : c.in_ok-from_first.from_first.items ≡ parcels_from s (record { rank = 0; bodies = c.args.first ∷ [] }) = c.in_ok-from_first.ensures.parcels ∙ ap (parcels_from s) c.in_ok-first.ensures in
    subst AreBodies (sym (λ i. joined (left i).bodies (come i))) (second_settles c.each_rank_has_its_own.ensures s (c.args.first ∷ []) (c.args.second ∷ []) c.requires.two c.requires.bodies)
