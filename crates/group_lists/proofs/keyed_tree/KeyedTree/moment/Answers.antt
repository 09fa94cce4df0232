use Rattle.std.proofs.Common.{◌+◌, ◌≤◌, List, length, take, drop, ◌∙◌, ap, sym, subst, arith}
use Rattle.pf_model.specs.declared.entry.Entry.{Entry}
use Rattle.pf_model.specs.Totals.{IsTotals}
use Rattle.pf_model.specs.EssentialTree.{Essential}
use Rattle.pf_model.specs.Sufficiency.{moment_together}
use Rattle.group_lists.proofs.KeyedLemmas.{sums_long, sum_between}
use Rattle.group_lists.proofs.keyed_tree.KeyedTree.moment.Goals as goal

pub index-before-requires : goal.index-before-requires
index-before-requires g c =
    let items = c.self.inside.items.items in
    let inside : c.args.first + c.args.len ≤ length items = (let h = c.requires.within in let same = ap (λ (v : Essential). length v.items) c.self.view_is in omega arith) in
    let long = sums_long items c.self.inside.sums.items c.self.invariant.summed in
    let whole = c.self.inside.sums.ok in
    omega arith

pub index-through-requires : goal.index-through-requires
index-through-requires g c =
    let items = c.self.inside.items.items in
    let inside : c.args.first + c.args.len ≤ length items = (let h = c.requires.within in let same = ap (λ (v : Essential). length v.items) c.self.view_is in omega arith) in
    let long = sums_long items c.self.inside.sums.items c.self.invariant.summed in
    let whole = c.self.inside.sums.ok in
    omega arith

pub without-requires : goal.without-requires
without-requires g c =
    let items = c.self.inside.items.items in
    let view = ap (λ (v : Essential). v.items) c.self.view_is in
    let inside : c.args.first + c.args.len ≤ length items = (let h = c.requires.within in let same = ap length view in omega arith) in
    let limits : IsTotals (moment_together (take c.args.len (drop c.args.first items))) = subst (λ (es : List Entry). IsTotals (moment_together (take c.args.len (drop c.args.first es)))) (sym view) c.requires.limits in (
      moment_together (take c.args.len (drop c.args.first items)),
      sum_between c.entries_join_their_moments.ensures items c.self.inside.sums.items c.args.first c.args.len _ _ c.self.invariant.summed inside c.index-through.ensures c.index-before.ensures limits,
    )

pub returns : goal.returns
returns g c =
    let items = c.self.inside.items.items in
    let view = ap (λ (v : Essential). v.items) c.self.view_is in
    let inside : c.args.first + c.args.len ≤ length items = (let h = c.requires.within in let same = ap length view in omega arith) in
    let limits : IsTotals (moment_together (take c.args.len (drop c.args.first items))) = subst (λ (es : List Entry). IsTotals (moment_together (take c.args.len (drop c.args.first es)))) (sym view) c.requires.limits in
    let rest = sum_between c.entries_join_their_moments.ensures items c.self.inside.sums.items c.args.first c.args.len c.index-through.result.now c.index-before.result.now c.self.invariant.summed inside c.index-through.ensures c.index-before.ensures limits in
    c.without.ensures _ rest ∙ ap (λ (es : List Entry). moment_together (take c.args.len (drop c.args.first es))) view
