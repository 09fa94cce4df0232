use Rattle.std.proofs.Common.{◌≡◌, ◌+◌, ◌<◌, ℕ, List, length, take, refl, sym, ◌∙◌, ap, subst, arith}
use Rattle.std.proofs.lemmas.List.{take_all, length-take}
use Rattle.morton_tree.specs.declared.group.Group.{Group}
use Rattle.group_lists.specs.declared.listed.Listed.{Listed}
use Rattle.group_lists.proofs.GatherLemmas.{AreListed, listed_none, listed_more}
use Rattle.group_lists.proofs.gather.list_groups.Goals as goal

pub overflow_add-count : goal.overflow_add-count
overflow_add-count g c =
    let few = c.loop-group.invariant.listed.few in
    let long = length-take c.loop-group.group-index c.args.groups.now in
    let within : c.loop-group.group-index < length c.args.groups.now = c.loop-group-test.true in
    let most = c.requires.few in
    let list = ap length c.in_ok-entries.ensures.entries in
    let short = c.lists_are_short.ensures c.args.t c.group-item.result.around c.args.tree.now.built in
    let len = c.len.ensures in
    omega arith

pub loop-group-init : goal.loop-group-init
loop-group-init g c = record {
  listed = listed_none c.args.t c.args.tree.now.built c.in_ok-listed.listed.items c.in_ok-listed.ensures.items;
  tests = omega arith;
  none = λ zero. refl;
}

pub loop-group-preserved : goal.loop-group-preserved
loop-group-preserved g c =
    let js = c.args.tree.now.built in
    let group = c.group-item.result in
    let entries = c.in_ok-entries.entries.items in
    let l : Listed = record { group = group; entries = c.while_few.result } in
    let counted : c.len.result ≡ length entries = (let len = c.len.ensures in let whole = c.in_ok-entries.entries.ok in omega arith) in
    record {
      listed = subst (λ (n : ℕ). AreListed c.args.t js (take (c.loop-group.group-index + 1) c.args.groups.now) c.push.new.self.items (c.loop-group.count + n)) (sym counted)
          (listed_more c.args.t js c.args.groups.now c.loop-group.group-index c.loop-group.listed.items c.push.new.self.items c.loop-group.count group entries l
          c.loop-group-test.true c.group-item.is c.loop-group.invariant.listed
          (record {
            group_is = refl;
            list = c.in_ok-entries.ensures.entries;
            short = (let list = ap length c.in_ok-entries.ensures.entries in let most = c.lists_are_short.ensures c.args.t group.around js in omega arith);
            while_few = λ small. c.while_few.ensures.few (omega (arith, counted));
            past_few = λ past. c.while_few.ensures.many (omega (arith, counted));
          })
          c.in_ok-push.ensures.items);
      tests = (let before = c.loop-group.invariant.tests in let here = c.in_ok-entries.ensures.tests in omega (arith, counted));
      none = λ zero. c.list_over.ensures.none zero ∙ c.loop-group.invariant.none zero;
    }

pub returns : goal.returns
returns g c =
    let all = take_all c.loop-group.group-index c.args.groups.now c.loop-group-test.false in
    let listed = subst (λ (gs : List Group). AreListed c.args.t c.args.tree.now.built gs c.loop-group.listed.items c.loop-group.count) all c.loop-group.invariant.listed in
    record { each = listed.each; count = listed.counted; lists = listed.kept; bounded = listed.bounded; tests = c.loop-group.invariant.tests; none = c.loop-group.invariant.none }
