use Rattle.std.proofs.Common.{◌+◌, not, length, sym, ◌∙◌, ap, arith}
use Rattle.std.proofs.lemmas.List.Sums.{count_by-le-length}
use Rattle.pf_model.specs.declared.entry.Entry.{Entry}
use Rattle.pf_model.specs.EssentialTree.{Essential}
use Rattle.group_lists.specs.Gathering.{Gathering, with_source}
use Rattle.run_model.specs.Text.{is_cell_entry, particles_within}
use Rattle.tree_phase.proofs.TotalLemmas.{few_sent, counted_more}
use Rattle.tree_phase.proofs.rank_gather.RankGather.absorb.Goals as goal

pub overflow_cast-cells : goal.overflow_cast-cells
overflow_cast-cells g c =
    let long = ap length (c.deref.ensures.value ∙ c.tree.invariant) in
    let short = few_sent c.lists_are_short.ensures g.T.Terms.theta g.T.Terms.grid g.T.Terms.particles c.tree.inside.src c.tree.inside.dst in
    let few = g.T.Terms.are_bodies.few in
    let fewer = count_by-le-length is_cell_entry c.deref.result.now in
    let counted = c.cells_in.ensures in
    omega arith

pub overflow_add-cells : goal.overflow_add-cells
overflow_add-cells g c =
    let long = ap length (c.deref.ensures.value ∙ c.tree.invariant) in
    let short = few_sent c.lists_are_short.ensures g.T.Terms.theta g.T.Terms.grid g.T.Terms.particles c.tree.inside.src c.tree.inside.dst in
    let few = g.T.Terms.are_bodies.few in
    let fewer = count_by-le-length is_cell_entry c.deref.result.now in
    let counted = c.cells_in.ensures in
    let before = c.self.invariant.short in
    let ranks = c.requires.few in
    let same = ap (λ (v : Gathering). length v.absorbed) c.self.view_is in
    omega arith

pub overflow_cast-parts : goal.overflow_cast-parts
overflow_cast-parts g c =
    let long = ap length (c.deref-2.ensures.value ∙ c.tree.invariant) in
    let short = few_sent c.lists_are_short.ensures g.T.Terms.theta g.T.Terms.grid g.T.Terms.particles c.tree.inside.src c.tree.inside.dst in
    let few = g.T.Terms.are_bodies.few in
    let fewer = count_by-le-length (λ (e : Entry). not (is_cell_entry e)) c.deref-2.result.now in
    let counted = c.particles_within.ensures in
    omega arith

pub overflow_add-parts : goal.overflow_add-parts
overflow_add-parts g c =
    let long = ap length (c.deref-2.ensures.value ∙ c.tree.invariant) in
    let short = few_sent c.lists_are_short.ensures g.T.Terms.theta g.T.Terms.grid g.T.Terms.particles c.tree.inside.src c.tree.inside.dst in
    let few = g.T.Terms.are_bodies.few in
    let fewer = count_by-le-length (λ (e : Entry). not (is_cell_entry e)) c.deref-2.result.now in
    let counted = c.particles_within.ensures in
    let before = c.self.invariant.short in
    let ranks = c.requires.few in
    let same = ap (λ (v : Gathering). length v.absorbed) c.self.view_is in
    omega arith

pub invariant_of-result : goal.invariant_of-result
invariant_of-result g c =
    let sent = c.deref.ensures.value ∙ c.tree.invariant in
    let src = ap (λ (e : Essential). e.src) c.tree.view_is in
    let here = ap (λ (e : Essential). e.dst) c.tree.view_is ∙ c.requires.here ∙ sym (ap (λ (v : Gathering). v.rank) c.self.view_is) in
    let cells = ap (λ n. c.self.inside.cells + n) c.cells_in.ensures in
    let parts = ap (λ n. c.self.inside.parts + n) (c.particles_within.ensures ∙ ap particles_within (c.deref-2.ensures.value ∙ sym c.deref.ensures.value)) in
    let after = c.in_ok-absorb.ensures.value ∙ ap (with_source c.self.inside.gather) (sym src) in
    counted_more g.T.Terms.theta g.T.Terms.grid g.T.Terms.particles c.self.inside.gather c.tree.inside.src _ _ _ _ _ _ c.tree.inside.dst c.deref.result.now
    c.lists_are_short.ensures g.T.Terms.are_bodies.few after sent here cells parts c.self.invariant
