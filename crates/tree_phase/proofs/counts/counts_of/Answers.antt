use Rattle.std.proofs.Common.{◌<◌, length, not, arith}
use Rattle.std.proofs.lemmas.List.Sums.{count_by-le-length}
use Rattle.pf_model.specs.declared.entry.Entry.{Entry}
use Rattle.run_model.specs.Text.{is_cell_entry}
use Rattle.tree_phase.proofs.CountLemmas.{counted_more}
use Rattle.tree_phase.proofs.counts.counts_of.Goals as goal

pub loop-group-preserved : goal.loop-group-preserved
loop-group-preserved c =
    let lists = c.args.lists.now.groups in
    let n = c.loop-group.group in
    let entries = c.entries-entries.result.now in
    let test = c.loop-group-test.true in
    let all = c.groups-groups.ensures.value in
    let within : n < length lists = omega arith in
    let few = c.entries-entries.ensures.few in
    let cells = c.cells_in.ensures in
    let particles = c.particles_within.ensures in
    let fewer = count_by-le-length is_cell_entry entries in
    let fewer_particles = count_by-le-length (λ (e : Entry). not (is_cell_entry e)) entries in
    let before = c.loop-group.invariant in
    record {
      cells = counted_more is_cell_entry lists n entries c.loop-group.listcells c.cells_in.result within c.entries-entries.ensures.value before.cells cells;
      few_cells = omega arith;
      particles = counted_more (λ (e : Entry). not (is_cell_entry e)) lists n entries c.loop-group.listparts c.particles_within.result within c.entries-entries.ensures.value before.particles particles;
      few_particles = omega arith;
    }
