-- The lists of a rank's groups, while the particles of other ranks are still to come.
use Rattle.std.specs.Prelude.{◌≡◌, ℕ, ◌+◌, ◌<◌, ◌≤◌, List, [], ◌∷◌, ◌++◌, length, map, sum_by, All, Contains}
use Rattle.std.specs.Prelude.{IsPermutation}
use Rattle.pf_model.specs.declared.entry.Entry.{Entry}
use Rattle.pf_model.specs.declared.limits.TheConstants.{MOST_PARTICLES}
use Rattle.pf_model.specs.Particle.{Particle}
use Rattle.pf_model.specs.Criterion.{Criterion}
use Rattle.pf_model.specs.Division.{Division, rank_count}
use Rattle.pf_model.specs.Domains.{particles_of}
use Rattle.pf_model.specs.Group.{box_of}
use Rattle.pf_model.specs.EssentialTree.{Essential, essential_tree, limited_list}
use Rattle.morton_tree.specs.declared.group.Group.{Group}
use Rattle.morton_tree.specs.Tree.{IsInKeyOrder}
use Rattle.morton_tree.specs.Spans.{at_span}
use Rattle.group_lists.specs.declared.gather.TheConstants.{MOST_ENTRIES}

-- a gather as clauses see it: its rank, the particles of this rank, their groups, and the ranks whose
-- particles were absorbed
pub record Gathering : Type 0 where
  pub rank : ℕ
  pub own : List Particle
  pub groups : List Group
  pub absorbed : List ℕ

-- the gather of a rank that absorbed these trees, in this order
abbrev pub gathering_of : ℕ → List Particle → List Group → List Essential → Gathering
gathering_of rank own groups trees =
    record { rank = rank; own = own; groups = groups; absorbed = map (λ tree. tree.src) trees }

-- before any is absorbed
abbrev pub own_gathering : ℕ → List Particle → List Group → Gathering
own_gathering rank own groups = gathering_of rank own groups []

-- after one rank more
abbrev pub with_source : Gathering → ℕ → Gathering
with_source gather src = record gather { absorbed = gather.absorbed ++ src ∷ [] }

-- a source that can be absorbed: a rank that is neither the own one nor was absorbed
pub record IsNewSource (g : Division) (gather : Gathering) (src : ℕ) : Type 0 where
  pub within : src < rank_count g
  pub new : Contains (gather.rank ∷ gather.absorbed) src → ⊥

-- the list of a group limited to the own rank and those absorbed
abbrev pub partial_list : Criterion → Division → List Particle → Gathering → Group → List Entry
partial_list t g js gather group = limited_list t group.around g js (gather.rank ∷ gather.absorbed)

-- how long these lists are together
abbrev pub gathered_count : Criterion → Division → List Particle → Gathering → ℕ
gathered_count t g js gather = sum_by (λ group. length (partial_list t g js gather group)) gather.groups

-- the list of a group limited to one source
abbrev pub source_list : Criterion → Division → List Particle → ℕ → Group → List Entry
source_list t g js src group = limited_list t group.around g js (src ∷ [])

-- how long these lists are together
abbrev pub source_count : Criterion → Division → List Particle → List Group → ℕ → ℕ
source_count t g js groups src = sum_by (λ group. length (source_list t g js src group)) groups

-- every rank is the own one or was absorbed
abbrev pub IsWhole : Division → Gathering → Type 0
IsWhole g gather = (rank : ℕ) → rank < rank_count g → Contains (gather.rank ∷ gather.absorbed) rank

-- a group of these particles: its span lies among them and isn't empty, and its box is the least round those of
-- the span
pub record IsGroupOf (js : List Particle) (g : Group) : Type 0 where
  pub some : 1 ≤ g.span.len
  pub inside : g.span.first + g.span.len ≤ length js
  pub around : g.around ≡ box_of (at_span g.span js)

-- what each gather keeps: its own particles are those of its rank, and it has the number of all entries,
-- and the lists themselves while they are few; it never stores more entries
pub record IsGathered (t : Criterion) (g : Division) (js : List Particle) (gather : Gathering)
    (lists : List (List Entry)) (count : ℕ) : Type 0 where
  pub own : IsPermutation gather.own (particles_of g js gather.rank)
  pub few : length gather.groups ≤ MOST_PARTICLES
  pub of_own : All (IsGroupOf gather.own) gather.groups
  pub counted : count ≡ gathered_count t g js gather
  pub kept : count ≤ MOST_ENTRIES → lists ≡ map (partial_list t g js gather) gather.groups
  pub bounded : sum_by length lists ≤ MOST_ENTRIES

-- an essential tree that was sent to this rank, with its items in any order
pub record IsSentTo (t : Criterion) (g : Division) (js : List Particle) (rank : ℕ) (tree : Essential) : Type 0 where
  pub here : tree.dst ≡ rank
  pub items : IsPermutation (essential_tree t g js tree.src tree.dst) tree.items

-- what it has to absorb more: its criterion, its own particles in key order, and the trees that it absorbed, one for
-- each source in their order
pub record CanAbsorb (t : Criterion) (g : Division) (js : List Particle) (gather : Gathering) (theta : Criterion)
    (trees : List Essential) : Type 0 where
  pub criterion : theta ≡ t
  pub ordered : IsInKeyOrder gather.own
  pub sources : gather.absorbed ≡ map (λ tree. tree.src) trees
  pub sent : All (IsSentTo t g js gather.rank) trees
