use Rattle.std.proofs.Common.{sym, subst, ◌∙◌}
use Rattle.std.specs.Prelude.{nat_eq}
use Rattle.std.proofs.lemmas.Result.{IfOk-weaker}
use Rattle.pf_model.specs.Particles.{AreBodies}
use Rattle.pf_model.specs.Domains.{owner}
use Rattle.pf_model.specs.Interaction.{list_of}
use Rattle.plain_run.specs.Boxes.{IsDomainBox}
use Rattle.plain_run.proofs.OwnedLemmas.{some_are_bodies}
use Rattle.plain_run.proofs.TreeLemmas.{tree_for_some, tree_for_none}
use Rattle.plain_run.proofs.essential.slow_essential.Goals as goal

pub slow_list-requires : goal.slow_list-requires
slow_list-requires c =
    let js = c.args.bodies.now in
    subst AreBodies (sym (c.deref.ensures.value ∙ c.in_ok-own-in-Some.ensures))
    (some_are_bodies c.some_have_distinct_ids.ensures (λ j. nat_eq (owner c.args.grid js j.at) c.args.src) js c.requires)

pub returns-in_ok-own-in-Some : goal.returns-in_ok-own-in-Some
returns-in_ok-own-in-Some c =
    let g = c.args.grid in
    let js = c.args.bodies.now in
    let is = subst (IsDomainBox g js c.args.dst) c.in-Some.is c.in_ok-target.ensures in
    let own = c.deref.ensures.value ∙ c.in_ok-own-in-Some.ensures in
    IfOk-weaker c.slow_list.result _ _ (λ items e. e ∙ (λ i. list_of c.args.theta (is.0 i) (own i)) ∙ tree_for_some c.args.theta g js c.args.src c.args.dst is.1) c.slow_list.ensures

pub returns-in-None : goal.returns-in-None
returns-in-None c =
    let none = subst (IsDomainBox c.args.grid c.args.bodies.now c.args.dst) c.in-None.is c.in_ok-target.ensures in
    c.new.ensures.items ∙ tree_for_none c.args.theta c.args.grid c.args.bodies.now c.args.src c.args.dst none
