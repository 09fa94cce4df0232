use Rattle.std.proofs.Common.{◌≡◌, ℕ, ◌-◌, List, take, drop, sym, ◌∙◌, ap, subst, arith}
use Rattle.std.specs.List.{flat_map, range_with_len}
use Rattle.pf_geom.specs.declared.axis.Axis.TheVariants.{X, Y}
use Rattle.pf_model.specs.Particle.{Particle}
use Rattle.pf_model.specs.Division.{Division, IsDivision}
use Rattle.pf_model.specs.Domains.{IsMultisection, cuts_of, cuts_for}
use Rattle.multisection.specs.Sites.{along, in_slab_along, column_cuts}
use Rattle.multisection.proofs.RunLemmas.{none_cut, one_more_cut, left_run}
use Rattle.multisection.proofs.CutLemmas.{run_of_slab, column_cuts-same, joined_more, cuts_from_pieces}
use Rattle.multisection.proofs.cutting.cut_sites.Goals as goal

pub loop-ix-init : goal.loop-ix-init
loop-ix-init c = record {
  cut = none_cut X c.in_ok-x.x.items c.cut_along.new.sites c.cut_along.ensures.rise;
  y = c.new-y.ensures.items;
  z = c.new-z.ensures.items;
}

pub loop-ix-preserved : goal.loop-ix-preserved
loop-ix-preserved c =
    let js = c.args.sites.now in
    let g = c.args.grid in
    let x = c.in_ok-x.x.items in
    let ix = c.loop-ix.ix in
    let start = c.loop-ix.start in
    let end = c.run_end-end.result in
    let sites = c.loop-ix.sites in
    let sorted = c.cut_along.new.sites in
    let run : List Particle = take (end - start) (drop start sites) in
    let run_is = left_run X x c.deref.result.now sorted (drop start sites) ix (end - start) c.deref.ensures.value c.loop-ix.invariant.cut.left c.run_end-end.ensures.run in
    let r = run_of_slab c.distinct_ids_ignore_order.ensures c.some_have_distinct_ids.ensures c.tests_keep_permutations.ensures X x js sorted run ix c.requires.bodies.distinct c.cut_along.ensures.same run_is in
    let slab : List Particle = in_slab_along X x js ix in
    let rows = c.cuts_along_ignore_order.ensures (along Y) slab run g.ny r.distinct r.same in
    let columns = column_cuts-same c.cuts_along_ignore_order.ensures c.some_have_distinct_ids.ensures c.tests_keep_permutations.ensures g slab run r.distinct r.same in
    record {
      cut = one_more_cut X x c.deref.result.now sorted sites c.cut_slab.new.sites ix start end c.deref.ensures.value c.loop-ix.invariant.cut c.run_end-end.ensures.after c.run_end-end.ensures.bound
          c.run_end-end.ensures.rest c.cut_slab.ensures.same;
      y = joined_more (λ (k : ℕ). cuts_of (along Y) (in_slab_along X x js k) g.ny) ix c.loop-ix.y.items c.cut_slab.new.y.items (cuts_of (along Y) run g.ny) c.loop-ix.invariant.y (sym rows) c.in_ok-cut_slab.ensures.y;
      z = joined_more (λ (k : ℕ). column_cuts g (in_slab_along X x js k)) ix c.loop-ix.z.items c.cut_slab.new.z.items (column_cuts g run) c.loop-ix.invariant.z (sym columns) c.in_ok-cut_slab.ensures.z;
    }

the_cuts : (c : goal.After-loop-ix) → record { grid = c.args.grid; x = c.in_ok-x.x.items; y = c.loop-ix.y.items; z = c.loop-ix.z.items } ≡ cuts_for c.args.grid c.args.sites.now
the_cuts c =
    let js = c.args.sites.now in
    let g = c.args.grid in
    let x = c.in_ok-x.x.items in
    let nx = ap (λ (d : Division). d.nx) c.grid.view_is in
    let last : c.loop-ix.ix ≡ g.nx = omega (arith, c.loop-ix-test.false, c.loop-ix.auto.ix-end, nx) in
    cuts_from_pieces g js x c.loop-ix.y.items c.loop-ix.z.items (c.in_ok-x.ensures.cuts ∙ ap (cuts_of (along X) js) nx)
    (c.loop-ix.invariant.y ∙ ap (λ (n : ℕ). flat_map (λ k. cuts_of (along Y) (in_slab_along X x js k) g.ny) (range_with_len 0 n)) last)
    (c.loop-ix.invariant.z ∙ ap (λ (n : ℕ). flat_map (λ k. column_cuts g (in_slab_along X x js k)) (range_with_len 0 n)) last)

pub invariant_of-result : goal.invariant_of-result
invariant_of-result c =
    let division : IsDivision c.args.grid = subst IsDivision c.grid.view_is c.grid.invariant in
    subst IsMultisection (sym (the_cuts c)) (c.cuts_ascend.ensures c.args.grid c.args.sites.now division c.requires.inside)

pub returns : goal.returns
returns c = the_cuts c
