use Rattle.std.proofs.Common.{◌≡◌, nat_eq, sym, ap, subst}
use Rattle.std.specs.List.Sorted.{IsPermutation}
use Rattle.std.proofs.lemmas.List.Sorted.{IsPermutation-sym}
use Rattle.pf_model.specs.Particle.{Particle}
use Rattle.pf_model.specs.Domains.{owner_by}
use Rattle.multisection.specs.Regions.{Regions}
use Rattle.method_examples.proofs.Owned.{owned_are, some_are_bodies}
use Rattle.method_examples.proofs.tests.sent.octree.Goals as goal

pub build-requires-after_bounds : goal.build-requires-after_bounds
build-requires-after_bounds g c κs within =
    some_are_bodies c.some_have_distinct_ids.ensures (λ (j : Particle). nat_eq (owner_by c.args.d.now.cuts j.at) c.args.rank) c.args.build.now.bodies.now c.in_ok-own.own.items c.in_ok-own.ensures c.args.build.now.are_bodies

pub returns-clause-own : goal.returns-clause-own
returns-clause-own g c =
    let own = owned_are c.args.build.now.grid c.args.build.now.bodies.now c.in_ok-own.own.items c.args.d.now.cuts c.args.rank (ap (λ (d : Regions). d.cuts) c.requires) c.in_ok-own.ensures in
    subst (IsPermutation c.in_ok-tree.tree.built) own (IsPermutation-sym c.in_ok-own.own.items c.in_ok-tree.tree.built c.in_ok-tree.ensures.same_bodies)
