use Rattle.std.proofs.Common.{◌≡◌, length, sym, ◌∙◌, ap, arith}
use Rattle.std.proofs.lemmas.Bool.{eqb-false}
use Rattle.group_lists.specs.Gathering.{Gathering}
use Rattle.method_examples.proofs.Ranks.{after_two}
use Rattle.method_examples.proofs.tests.absorbing.gather_in.Goals as goal

pub returns-clause-groups : goal.returns-clause-groups
returns-clause-groups g c =
    let is = after_two c.args.rank c.args.one c.args.other c.in_ok-tree.tree.built c.deref.result.now c.in_ok-opened.opened c.in_ok-halfway.halfway c.in_ok-whole.whole c.in_ok-from_one.from_one.src c.in_ok-from_other.from_other.src
    c.in_ok-opened.ensures.value c.in_ok-halfway.ensures.value c.in_ok-whole.ensures.value c.in_ok-from_one.ensures.src c.in_ok-from_other.ensures.src in
    let long = ap (λ (v : Gathering). length v.groups) is in
    let some = eqb-false c.in_ok-groups.groups.len 0 (sym c.is_empty.ensures ∙ c.if-is_empty.false) in
    let same = c.deref.ensures.len in
    omega arith

pub returns-clause-rank : goal.returns-clause-rank
returns-clause-rank g c =
    ap (λ (v : Gathering). v.rank) (after_two c.args.rank c.args.one c.args.other c.in_ok-tree.tree.built c.deref.result.now c.in_ok-opened.opened c.in_ok-halfway.halfway c.in_ok-whole.whole c.in_ok-from_one.from_one.src c.in_ok-from_other.from_other.src
    c.in_ok-opened.ensures.value c.in_ok-halfway.ensures.value c.in_ok-whole.ensures.value c.in_ok-from_one.ensures.src c.in_ok-from_other.ensures.src)

pub returns-clause-absorbed : goal.returns-clause-absorbed
returns-clause-absorbed g c =
    ap (λ (v : Gathering). v.absorbed) (after_two c.args.rank c.args.one c.args.other c.in_ok-tree.tree.built c.deref.result.now c.in_ok-opened.opened c.in_ok-halfway.halfway c.in_ok-whole.whole c.in_ok-from_one.from_one.src c.in_ok-from_other.from_other.src
    c.in_ok-opened.ensures.value c.in_ok-halfway.ensures.value c.in_ok-whole.ensures.value c.in_ok-from_one.ensures.src c.in_ok-from_other.ensures.src)
