-- What a rank tells of its lists.
use Rattle.std.specs.Prelude.{ℕ, List, length, flat_map}
use Rattle.pf_model.specs.declared.entry.Entry.{Entry}
use Rattle.group_lists.specs.Whole.{GroupList}
use Rattle.run_model.specs.declared.step_text.RankLine.{RankLine}
use Rattle.run_model.specs.Text.{cells_in, particles_within}

-- the entries of all lists, list by list
abbrev pub all_entries : List GroupList → List Entry
all_entries lists = flat_map (λ l. l.entries) lists

-- what a rank that has so many particles, and received so many cells and particles, tells of its lists
abbrev pub counts_of : ℕ → ℕ → ℕ → List GroupList → RankLine
counts_of particles cells parts lists = record {
  particles = particles;
  groups = length lists;
  cells = cells;
  parts = parts;
  listcells = cells_in (all_entries lists);
  listparts = particles_within (all_entries lists);
}
