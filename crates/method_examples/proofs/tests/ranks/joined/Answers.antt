use Rattle.std.proofs.Common.{◌≡◌, [], ◌∷◌, ◌++◌, List, sym, ◌∙◌, ap, subst, lit≤}
use Rattle.std.specs.List.{flat_map}
use Rattle.pf_model.specs.Particles.{AreBodies}
use Rattle.exchange.specs.States.{Holding, Package, joined}
use Rattle.method_examples.proofs.Ids.{three_differ}
use Rattle.method_examples.proofs.tests.ranks.joined.Goals as goal

pub settle-requires : goal.settle-requires
settle-requires c =
    let own : c.in_ok-s.s.bodies ≡ c.args.own ∷ [] = ap (λ (h : Holding). h.bodies) c.in_ok-s.ensures in
    let first : c.push.new.self.items ≡ c.in_ok-parcel.field-0 ∷ [] = c.in_ok-push.ensures.items ∙ ap (λ (l : List Package). l ++ c.in_ok-parcel.field-0 ∷ []) c.new-parcels.ensures.items in
    let both : c.push-2.new.self.items ≡ c.in_ok-parcel.field-0 ∷ c.in_ok-parcel-2.field-0 ∷ [] =
    c.in_ok-push-2.ensures.items ∙ ap (λ (l : List Package). l ++ c.in_ok-parcel-2.field-0 ∷ []) first in
    let all : joined c.in_ok-s.s.bodies c.push-2.new.self.items ≡ c.args.own ∷ c.args.from_two ∷ c.args.from_none ∷ [] =
    (λ i. own i ++ flat_map (λ (p : Package). p.bodies) (both i))
    ∙ (λ i. c.args.own ∷ (c.in_ok-parcel.ensures i ++ (c.in_ok-parcel-2.ensures i ++ []))) in
    subst AreBodies (sym all)
    (record { few = lit≤ tt; distinct = three_differ c.args.own.id c.args.from_two.id c.args.from_none.id c.requires.own_and_two c.requires.own_and_none c.requires.two_and_none })
