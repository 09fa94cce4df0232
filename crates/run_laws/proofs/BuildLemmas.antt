-- The one build of a thin run.
use Rattle.std.proofs.Common.{◌≡◌, ℕ, ◌+◌, ◌≤◌, cond, not, List, [], ◌∷◌, length, map, refl, ap, ◌∙◌, arith}
use Rattle.std.specs.List.{flat_map}
use Rattle.std.proofs.lemmas.List.{append-nil, length-map}
use Rattle.std.proofs.lemmas.List.Sums.{sum_by-cons}
use Rattle.pf_geom.specs.Octant.{Octant}
use Rattle.pf_model.specs.declared.entry.Entry.{Entry}
use Rattle.pf_model.specs.declared.entry.Entry.TheVariants.{One}
use Rattle.pf_model.specs.Particle.{Particle}
use Rattle.pf_model.specs.Interaction.{list_of}
use Rattle.pf_model.specs.Group.{particles_in, group_of, group_cells, box_of}
use Rattle.run_model.specs.Text.{is_cell_entry, cells_in, particles_within}
use Rattle.run_model.specs.RunLaws.{lone_lists, LoneRanksBuildSo}
use Rattle.run_laws.specs.ThinLaws.{cube, ListsWithoutCellsAreParticles, FewParticlesAreOneGroup}
use Rattle.run_laws.specs.ThinBuild.{group_if_some, ThinBuildsAreSo}

no_cells : (js : List Particle) → cells_in (map One js) ≡ 0
no_cells [] = refl
no_cells (j ∷ js) =
    let head : cells_in (map One (j ∷ js)) ≡ 0 + cells_in (map One js) = sum_by-cons (λ (e : Entry). cond (is_cell_entry e) 1 0) (One j) (map One js) in
    let rest = no_cells js in
    omega arith

all_particles : (js : List Particle) → particles_within (map One js) ≡ length js
all_particles [] = refl
all_particles (j ∷ js) =
    let head : particles_within (map One (j ∷ js)) ≡ 1 + particles_within (map One js) = sum_by-cons (λ (e : Entry). cond (not (is_cell_entry e)) 1 0) (One j) (map One js) in
    let rest = all_particles js in
    omega arith

groups_are : FewParticlesAreOneGroup → (limit : ℕ) (js : List Particle) → length js ≤ limit → length (group_cells limit js) ≡ group_if_some js
unfolding group_cells
groups_are law limit [] few = refl
groups_are law limit (j ∷ js) few = ap length (law limit (j ∷ js) (omega arith) few).0

lists_joined : FewParticlesAreOneGroup → (f : Octant → List Entry) (limit : ℕ) (js : List Particle) → length js ≤ limit → ((c : Octant) → f c ≡ map One js) → flat_map f (group_cells limit js) ≡ map One js
unfolding group_cells
lists_joined law f limit [] few each = refl
lists_joined law f limit (j ∷ js) few each = ap (flat_map f) (law limit (j ∷ js) (omega arith) few).0 ∙ append-nil (f cube) ∙ each cube

pub thin_builds : LoneRanksBuildSo → ListsWithoutCellsAreParticles → FewParticlesAreOneGroup → ThinBuildsAreSo
thin_builds lone lists groups u js division one criterion zero_angle distinct sorted few =
    let h = lone u js division one distinct in
    let joined : lone_lists u js ≡ map One js =
    lists_joined groups (λ c. list_of u.theta (box_of (particles_in c js)) js) u.group js few (λ c. lists u.theta (box_of (particles_in c js)) js criterion zero_angle ∙ ap (map One) sorted) in
    let cells = ap cells_in joined ∙ no_cells js in
    let parts = ap particles_within joined ∙ all_particles js in
    let count = groups_are groups u.group js few in
    record {
      lists = λ i inside. h.lists i inside ∙ lists u.theta (box_of (group_of u.group js i)) js criterion zero_angle ∙ ap (map One) sorted;
      entries = h.entries ∙ ap length joined ∙ length-map js One;
      counts = h.counts ∙ (λ n. record { particles = length js; groups = count n; cells = 0; parts = 0; listcells = cells n; listparts = parts n });
    }
