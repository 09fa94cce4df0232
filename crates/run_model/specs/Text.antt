-- Text: the text of each step of a run.
use Rattle.std.specs.Prelude.{ℕ, Bool, true, false, not, List, [], length, map, flat_map, count_by, nat_eq, if◌then◌else◌}
use Rattle.std.specs.List.{range_with_len}
use Rattle.std.specs.Option.{option_map_or}
use Rattle.pf_model.specs.Reuse.{as_in}
use Rattle.pf_model.specs.declared.entry.Entry.{Entry}
use Rattle.pf_model.specs.declared.entry.Entry.TheVariants.{Cell, One}
use Rattle.pf_model.specs.Particle.{Particle}
use Rattle.pf_model.specs.Division.{rank_count}
use Rattle.pf_model.specs.Domains.{owner, particles_of}
use Rattle.pf_model.specs.Groups.{groups_of_rank, group_list}
use Rattle.pf_model.specs.EssentialTree.{essential_tree}
use Rattle.run_model.specs.declared.step_text.RankLine.{RankLine}
use Rattle.run_model.specs.declared.step_text.BodyLine.{BodyLine}
use Rattle.run_model.specs.declared.step_text.StepText.{StepText}
use Rattle.run_model.specs.StepText.{step_text}
use Rattle.run_model.specs.Setup.{Setup}
use Rattle.run_model.specs.Run.{WithForces, State, state}

abbrev pub is_cell_entry : Entry → Bool
is_cell_entry (Cell c m) = true
is_cell_entry (One p) = false

abbrev pub cells_in : List Entry → ℕ
cells_in entries = count_by is_cell_entry entries

abbrev pub particles_within : List Entry → ℕ
particles_within entries = count_by (λ e. not (is_cell_entry e)) entries

-- the numbers of the ranks
abbrev pub ranks : Setup → List ℕ
ranks u = range_with_len 0 (rank_count u.grid)

-- what a rank received at the build: the essential trees of all other ranks
abbrev pub received_by : Setup → List Particle → ℕ → List Entry
received_by u built rank =
    flat_map (λ src. if nat_eq src rank then [] else essential_tree u.theta u.grid built src rank) (ranks u)

-- the lists of its groups
abbrev pub lists_of : Setup → List Particle → ℕ → List Entry
lists_of u built rank = flat_map (group_list u.theta built) (groups_of_rank u.group u.grid built rank)

-- the counts of a rank at the build
unfoldable pub rank_counts : Setup → List Particle → ℕ → RankLine
rank_counts u built rank = record {
  particles = length (particles_of u.grid built rank);
  groups = length (groups_of_rank u.group u.grid built rank);
  cells = cells_in (received_by u built rank);
  parts = particles_within (received_by u built rank);
  listcells = cells_in (lists_of u built rank);
  listparts = particles_within (lists_of u built rank);
}

-- a particle with its forces, and its owner at the build
unfoldable pub body_row : Setup → List Particle → WithForces → BodyLine
body_row u built b = record {
  id = b.body.id;
  owner = owner u.grid built (as_in built b.body).at;
  at = b.body.at;
  vel = b.body.vel;
  forces = b.forces;
}

-- what the dump of step s tells of its state
abbrev pub told : Setup → ℕ → State → StepText
told u s now = record {
  step = s;
  ranks = map (rank_counts u now.built) (ranks u);
  rows = map (body_row u now.built) now.bodies;
}

-- text(s), for a step that has a state
abbrev pub text : Setup → ℕ → List ℕ
text u s = option_map_or (λ now. step_text (told u s now)) (state u s) []

-- text(0) to text(n - 1) joined
abbrev pub texts : Setup → ℕ → List ℕ
texts u n = flat_map (text u) (range_with_len 0 n)
