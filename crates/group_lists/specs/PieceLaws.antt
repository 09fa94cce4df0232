-- Laws of pieces, which are the lists of groups over one source more.
use Rattle.std.specs.Prelude.{◌≡◌, ℕ, ◌+◌, ◌≤◌, List, length, map, count_by, All, IfSome}
use Rattle.std.specs.Prelude.{IsPermutation}
use Rattle.std.specs.List.{AllZip}
use Rattle.pf_geom.specs.declared.cell.TheConstants.{DEEPEST}
use Rattle.pf_geom.specs.Bounds.{Bounds}
use Rattle.pf_model.specs.declared.entry.Entry.{Entry}
use Rattle.pf_model.specs.declared.limits.TheConstants.{MOST_PARTICLES}
use Rattle.pf_model.specs.Particle.{Particle, IsParticle}
use Rattle.pf_model.specs.Particles.{AreBodies}
use Rattle.pf_model.specs.Criterion.{Criterion}
use Rattle.pf_model.specs.Division.{Division, IsDivision}
use Rattle.pf_model.specs.Domains.{particles_of}
use Rattle.pf_model.specs.Totals.{IsTotals}
use Rattle.pf_model.specs.Interaction.{IsInListOrder, list_of}
use Rattle.pf_model.specs.Merging.{merged, common_count}
use Rattle.pf_model.specs.EssentialTree.{Essential}
use Rattle.pf_model.specs.Sufficiency.{moment_together}
use Rattle.morton_tree.specs.declared.group.Group.{Group}
use Rattle.group_lists.specs.Gathering.{Gathering, with_source, IsNewSource, IsGroupOf, IsSentTo, CanAbsorb, partial_list}
use Rattle.group_lists.specs.Gathering.{source_list}
use Rattle.group_lists.specs.Keyed.{IsServed, item_position, items_at, IsPieceOfRun}
use Rattle.group_lists.specs.Pieces.{HaveFewMembers, is_occupied}
use Rattle.group_lists.specs.Runs.{HasEntriesOf}
use Rattle.group_lists.specs.Indexed.{FitList}
use Rattle.cell_runs.specs.declared.cell_run.CellRun.{CellRun}
use Rattle.cell_runs.specs.CellRuns.{AreCellRuns}

-- pieces are merged with the list of the group into its list with this source, which is longer by the pieces that
-- have no cell in common with it
abbrev pub PiecesMakeLists : Type 0
PiecesMakeLists =
    (t : Criterion) (g : Division) (js : List Particle) (gather : Gathering) (src : ℕ) (group : Group) →
    AreBodies js → IsNewSource g gather src →
    let pieces = source_list t g js src group in
    let before = partial_list t g js gather group in
    let after = partial_list t g js (with_source gather src) group in
    (merged pieces before ≡ after) × (length after + common_count pieces before ≡ length pieces + length before)

-- both lists are short and in order, and any two of their cells have few members together
abbrev pub PiecesAreInOrder : Type 0
PiecesAreInOrder =
    (t : Criterion) (g : Division) (js : List Particle) (gather : Gathering) (src : ℕ) (group : Group) →
    AreBodies js → IsNewSource g gather src →
    let pieces = source_list t g js src group in
    let before = partial_list t g js gather group in
    IsInListOrder pieces × IsInListOrder before × HaveFewMembers pieces before ×
    (length pieces ≤ MOST_PARTICLES) × (length before ≤ MOST_PARTICLES)

-- the pieces that have a cell in common with the list are those in whose cell something stands that was gathered
abbrev pub CommonPiecesAreOccupied : Type 0
CommonPiecesAreOccupied =
    (t : Criterion) (g : Division) (js : List Particle) (gather : Gathering) (src : ℕ) (group : Group)
    (theta : Criterion) (trees : List Essential) → AreBodies js → IsNewSource g gather src →
    IsPermutation gather.own (particles_of g js gather.rank) → CanAbsorb t g js gather theta trees →
    IsServed g js gather.rank group.around →
    let pieces = source_list t g js src group in
    count_by (is_occupied gather.own trees) pieces ≡ common_count pieces (partial_list t g js gather group)

-- the essential trees that were sent to a rank serve the boxes of its groups
abbrev pub GroupsAreServed : Type 0
GroupsAreServed =
    (g : Division) (js : List Particle) (gather : Gathering) (group : Group) → IsDivision g → All IsParticle js →
    IsPermutation gather.own (particles_of g js gather.rank) → IsGroupOf gather.own group →
    IsServed g js gather.rank group.around

-- each run of items, seen from a box that their tree serves, has limits that its moment keeps; and the pieces that all
-- runs make are the entries that the source's particles lead to, one piece for each entry
abbrev pub ItemsMakePieces : Type 0
ItemsMakePieces =
    (t : Criterion) (g : Division) (js : List Particle) (tree : Essential) (box : Bounds) (runs : List CellRun) →
    AreBodies js → All IsParticle js → IsServed g js tree.dst box → IsSentTo t g js tree.dst tree →
    AreCellRuns t box (map item_position tree.items) runs →
    All (λ r. IfSome r.level (λ level. (level ≤ DEEPEST) × IsTotals (moment_together (items_at r tree.items)))) runs ×
    ((pieces : List Entry) → AllZip (λ r e. IsPieceOfRun tree.items r r.level e) runs pieces →
    HasEntriesOf t box (particles_of g js tree.src) pieces ×
    (length pieces ≤ length (list_of t box (particles_of g js tree.src))))

-- the items that were sent to a rank have their places in those entries of its groups' lists in which they lie
abbrev pub ItemsLieByPlace : Type 0
ItemsLieByPlace =
    (t : Criterion) (g : Division) (js : List Particle) (tree : Essential) (box : Bounds) → AreBodies js →
    IsServed g js tree.dst box → IsSentTo t g js tree.dst tree → FitList (list_of t box js) tree.items
