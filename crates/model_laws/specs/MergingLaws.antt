-- Laws of lists over disjoint particles.
use Rattle.std.specs.Prelude.{◌≡◌, ◌+◌, List, ◌++◌, length}
use Rattle.pf_geom.specs.Bounds.{Bounds}
use Rattle.pf_model.specs.Particle.{Particle}
use Rattle.pf_model.specs.Particles.{HaveDistinctIds}
use Rattle.pf_model.specs.Criterion.{Criterion}
use Rattle.pf_model.specs.Interaction.{list_of}
use Rattle.pf_model.specs.Merging.{merged, common_count}

-- the list over some particles and others is the list over the one and that over the others, merged
abbrev pub ListsMerge : Type 0
ListsMerge =
    (t : Criterion) (box : Bounds) (js ks : List Particle) → HaveDistinctIds (js ++ ks) →
    list_of t box (js ++ ks) ≡ merged (list_of t box js) (list_of t box ks)

-- it is as long as both, less the common cells
abbrev pub MergedListsShareCells : Type 0
MergedListsShareCells =
    (t : Criterion) (box : Bounds) (js ks : List Particle) → HaveDistinctIds (js ++ ks) →
    length (list_of t box (js ++ ks)) + common_count (list_of t box js) (list_of t box ks)
    ≡ length (list_of t box js) + length (list_of t box ks)
