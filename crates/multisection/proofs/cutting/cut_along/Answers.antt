use Rattle.std.proofs.Common.{◌≡◌, ℕ, ◌-◌, map, sym, ◌∙◌, ap, subst, arith}
use Rattle.std.specs.List.{range_with_len}
use Rattle.std.specs.List.Sorted.{IsNonDecreasing}
use Rattle.multisection.proofs.CutLemmas.{cut_in, cuts_read, cuts_more, cuts_rise}
use Rattle.multisection.proofs.cutting.cut_along.Goals as goal

pub loop-slab-preserved : goal.loop-slab-preserved
loop-slab-preserved c =
    cuts_more c.args.axis c.sort_along.new.sites c.args.slabs c.loop-slab.slab c.loop-slab.cuts.items c.push.new.self.items c.cut_before.result
    c.loop-slab.auto.slab c.loop-slab.invariant c.cut_before.ensures c.in_ok-push.ensures.items

all : (c : goal.After-loop-slab) → c.loop-slab.cuts.items ≡ map (cut_in c.args.axis c.sort_along.new.sites c.args.slabs) (range_with_len 1 (c.args.slabs - 1))
all c =
    let start = c.requires.some in
    let end = c.loop-slab.auto.slab-end in
    let last : c.loop-slab.slab ≡ c.args.slabs = omega (arith, c.loop-slab.auto.slab-end start, c.loop-slab-test.false) in
    c.loop-slab.invariant ∙ ap (λ (n : ℕ). map (cut_in c.args.axis c.sort_along.new.sites c.args.slabs) (range_with_len 1 (n - 1))) last

pub returns-clause-ascend : goal.returns-clause-ascend
returns-clause-ascend c = subst IsNonDecreasing (sym (all c)) (cuts_rise c.args.axis c.sort_along.new.sites c.args.slabs c.sort_along.ensures.rise)

pub returns-clause-cuts : goal.returns-clause-cuts
returns-clause-cuts c =
    all c ∙ cuts_read c.orders_along_are_one.ensures c.args.axis c.args.sites.now c.sort_along.new.sites c.args.slabs c.sort_along.ensures.same c.sort_along.ensures.in_order
