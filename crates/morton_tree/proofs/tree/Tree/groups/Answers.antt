use Rattle.std.proofs.Common.{◌≡◌, ◌<◌, ℕ, List, length, get_or, map, sym, ◌∙◌, ap, subst, arith}
use Rattle.std.proofs.lemmas.List.Elements.{All-weaker}
use Rattle.pf_model.specs.Particle.{Particle}
use Rattle.morton_tree.specs.Spans.{FollowOneAnother}
use Rattle.morton_tree.specs.Groups.{IsGroup}
use Rattle.morton_tree.proofs.GroupLemmas.{IsMade, IsGroupedBelow, none_grouped, group_more, some_in_group}
use Rattle.morton_tree.proofs.CellsInOrder.{groups_are}
use Rattle.morton_tree.proofs.tree.Tree.groups.Goals as goal

pub loop-place-init : goal.loop-place-init
loop-place-init c = subst (IsGroupedBelow c.args.limit c.args.self.now.built 0) (sym c.new-groups.ensures.items) (none_grouped c.args.limit c.args.self.now.built)

-- the bodies are those of the build, and the place is among them
same_bodies : (c : goal.In_ok-push) → c.bodies-bodies.result.now ≡ c.args.self.now.built
same_bodies c = c.bodies-bodies.ensures.value ∙ c.requires.unmoved

inside : (c : goal.In_ok-push) → c.loop-place.place < length c.args.self.now.built
inside c = let long = ap length (same_bodies c) in let test = c.loop-place-test.true in omega arith

here : (c : goal.In_ok-push) → get_or c.args.self.now.built c.loop-place.place c.index-bodies-place.result ≡ c.index-bodies-place.result
here c = ap (λ (js : List Particle). get_or js c.loop-place.place c.index-bodies-place.result) (sym (same_bodies c)) ∙ sym c.index-bodies-place.is

pub loop-place-smaller : goal.loop-place-smaller
loop-place-smaller c =
    let some = some_in_group c.positions_share_their_group.ensures c.args.limit c.args.self.now.built c.loop-place.place c.index-bodies-place.result c.group_at-group.result c.bodies-bodies.ensures.tree.ordered (inside c) (here c) c.group_at-group.ensures in
    let within = c.loop-place-test.true in
    omega arith

pub loop-place-preserved : goal.loop-place-preserved
loop-place-preserved c =
    group_more c.positions_share_their_group.ensures c.args.limit c.args.self.now.built c.loop-place.place c.loop-place.groups.items c.push.new.self.items c.index-bodies-place.result c.group_at-group.result
    c.bodies-bodies.ensures.tree.ordered (inside c) (here c) c.loop-place.invariant c.group_at-group.ensures c.in_ok-push.ensures.items

pub returns : goal.returns
returns c =
    let js = c.args.self.now.built in
    let grouped = c.loop-place.invariant in
    let same : c.bodies-bodies.result.now ≡ js = c.bodies-bodies.ensures.value ∙ c.requires.unmoved in
    let long = ap length same in
    let done = c.loop-place-test.false in
    let within = grouped.within in
    let end : c.loop-place.place ≡ length js = omega arith in
    let in_turn = subst (λ (n : ℕ). FollowOneAnother 0 n (map (λ g. g.span) c.loop-place.groups.items)) end grouped.in_turn in
    record {
      value = groups_are c.args.limit js c.loop-place.groups.items c.bodies-bodies.ensures.tree.ordered grouped.made in_turn;
      in_turn = in_turn;
      few = (let few = grouped.few in omega arith);
      each = All-weaker (IsMade c.args.limit js) (IsGroup c.args.limit js) (λ g h. h.group) c.loop-place.groups.items grouped.made;
    }
