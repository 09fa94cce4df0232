use Rattle.std.proofs.Common.{◌≡◌, ℕ, ◌-◌, List, ◌++◌, take, drop, refl, sym, ◌∙◌, ap}
use Rattle.std.specs.List.{flat_map, range_with_len}
use Rattle.std.proofs.lemmas.List.{append_assoc, append-nil}
use Rattle.std.proofs.lemmas.List.Sorted.{length_permutation}
use Rattle.pf_geom.specs.declared.axis.Axis.TheVariants.{Y, Z}
use Rattle.pf_model.specs.Particle.{Particle}
use Rattle.pf_model.specs.Division.{Division}
use Rattle.pf_model.specs.Domains.{cuts_of}
use Rattle.multisection.specs.Sites.{along, in_slab_along}
use Rattle.multisection.proofs.RunLemmas.{none_cut, one_more_cut, left_run}
use Rattle.multisection.proofs.CutLemmas.{in_column_of, run_of_slab, joined_more}
use Rattle.multisection.proofs.cutting.cut_slab.Goals as goal

pub loop-iy-init : goal.loop-iy-init
loop-iy-init c = record {
  cut = none_cut Y c.in_ok-own.own.items c.cut_along.new.sites c.cut_along.ensures.rise;
  z = sym (append-nil c.args.z.now.items);
}

pub loop-iy-preserved : goal.loop-iy-preserved
loop-iy-preserved c =
    let js = c.args.sites.now in
    let g = c.args.grid in
    let own = c.in_ok-own.own.items in
    let iy = c.loop-iy.iy in
    let start = c.loop-iy.start in
    let end = c.run_end-end.result in
    let sites = c.loop-iy.sites in
    let sorted = c.cut_along.new.sites in
    let run : List Particle = take (end - start) (drop start sites) in
    let run_is = left_run Y own c.deref.result.now sorted (drop start sites) iy (end - start) c.deref.ensures.value c.loop-iy.invariant.cut.left c.run_end-end.ensures.run in
    let r = run_of_slab c.distinct_ids_ignore_order.ensures c.some_have_distinct_ids.ensures c.tests_keep_permutations.ensures Y own js sorted run iy c.requires.distinct c.cut_along.ensures.same run_is in
    let ny = ap (λ (d : Division). d.ny) c.grid.view_is in
    let nz = ap (λ (d : Division). d.nz) c.grid.view_is in
    let own_is : own ≡ cuts_of (along Y) js g.ny = c.in_ok-own.ensures.cuts ∙ ap (cuts_of (along Y) js) ny in
    let piece : c.in_ok-column.column.items ≡ cuts_of (along Z) (in_column_of g js iy) g.nz =
    c.in_ok-column.ensures.cuts ∙ ap (cuts_of (along Z) run) nz
    ∙ sym (c.cuts_along_ignore_order.ensures (along Z) (in_slab_along Y own js iy) run g.nz r.distinct r.same)
    ∙ ap (λ (cuts : List ℕ). cuts_of (along Z) (in_slab_along Y cuts js iy) g.nz) own_is in
    let f = λ (k : ℕ). cuts_of (along Z) (in_column_of g js k) g.nz in
    let before : List ℕ = flat_map f (range_with_len 0 iy) in
    let column = c.in_ok-column.column.items in
    record {
      cut = one_more_cut Y own c.deref.result.now sorted sites c.cut_along-in-loop-iy.new.sites iy start end c.deref.ensures.value c.loop-iy.invariant.cut c.run_end-end.ensures.after c.run_end-end.ensures.bound c.run_end-end.ensures.rest
          (length_permutation run c.cut_along-in-loop-iy.new.sites c.cut_along-in-loop-iy.ensures.same);
      z =
          c.in_ok-extend_from_slice.ensures.items ∙ (λ i. c.loop-iy.invariant.z i ++ c.deref-in-loop-iy.ensures.value i) ∙ append_assoc c.args.z.now.items before column
          ∙ ap (λ l. c.args.z.now.items ++ l) (joined_more f iy before (before ++ column) column refl piece refl);
    }
