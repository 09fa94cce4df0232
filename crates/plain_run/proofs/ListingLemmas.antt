-- The lists of a build: those of groups, and essential trees.
use Rattle.std.proofs.Common.{◌≡◌, ℕ, ◌+◌, ◌<◌, ◌≤◌, ◌*◌, ◌^◌, Bool, true, false, List, [], ◌∷◌, ◌++◌, length, sum_by, nat_eq, refl, sym, ap, ◌∙◌, arith}
use Rattle.std.specs.Prelude.{if◌then◌else◌}
use Rattle.std.specs.List.{flat_map, range_with_len}
use Rattle.std.proofs.lemmas.List.{length-map, length-append}
use Rattle.std.proofs.lemmas.List.Concat.{flat_map-append}
use Rattle.std.proofs.lemmas.List.Folds.{flat_map-map}
use Rattle.std.proofs.lemmas.List.Sums.{count_by-le-length, length-filter, sum_by-cons}
use Rattle.pf_geom.specs.Position.{Position}
use Rattle.pf_geom.specs.Bounds.{Bounds}
use Rattle.pf_geom.specs.Octant.{Octant}
use Rattle.pf_model.specs.declared.entry.Entry.{Entry}
use Rattle.pf_model.specs.Particle.{Particle}
use Rattle.pf_model.specs.Criterion.{Criterion}
use Rattle.pf_model.specs.Division.{Division, IsDivision, rank_count}
use Rattle.pf_model.specs.Domains.{owner, particles_of, domain_box}
use Rattle.pf_model.specs.Interaction.{list_of}
use Rattle.model_laws.specs.ListLaws.{ListsAreShort}
use Rattle.pf_model.specs.Group.{particles_in, group_cell, group_cells, box_of}
use Rattle.model_laws.specs.GroupLaws.{GroupsAreFew}
use Rattle.pf_model.specs.Groups.{RankGroup, groups_of_rank, group_with, group_list}
use Rattle.pf_model.specs.EssentialTree.{tree_for, essential_tree}
use Rattle.plain_run.proofs.StepLemmas.{length-flat_map-range, range_next}

-- the box of a particle's group, from what code finds on the way
pub group_box : (limit : ℕ) (g : Division) (built : List Particle) (i : Particle) (at : Position) (rank : ℕ) (own own' own'' : List Particle) (cell : Octant) (around : Bounds)
    → at ≡ i.at → rank ≡ owner g built at → own ≡ particles_of g built rank → own' ≡ own → own'' ≡ own → cell ≡ group_cell limit own' at → around ≡ box_of (particles_in cell own'')
    → around ≡ box_of (group_with limit g built i).members
group_box limit g built i at rank own own' own'' cell around a r o o' o'' c h =
    let rank_is : rank ≡ owner g built i.at = r ∙ ap (owner g built) a in
    let own_is : own ≡ particles_of g built (owner g built i.at) = o ∙ ap (particles_of g built) rank_is in
    let cell_is : cell ≡ group_cell limit (particles_of g built (owner g built i.at)) i.at = c ∙ (λ j. group_cell limit ((o' ∙ own_is) j) (a j)) in
    h ∙ (λ j. box_of (particles_in (cell_is j) ((o'' ∙ own_is) j)))

-- the lists of a rank's groups, cell by cell
pub lists_by_cells : (t : Criterion) (limit : ℕ) (g : Division) (built : List Particle) (rank : ℕ) (own : List Particle) (cells : List Octant) → own ≡ particles_of g built rank → cells ≡ group_cells limit own
    → flat_map (λ c. list_of t (box_of (particles_in c own)) built) cells ≡ flat_map (group_list t built) (groups_of_rank limit g built rank)
lists_by_cells t limit g built rank own cells o c =
    let cells_are : cells ≡ group_cells limit (particles_of g built rank) = c ∙ ap (group_cells limit) o in
    (λ j. flat_map (λ (d : Octant). list_of t (box_of (particles_in d (o j))) built) (cells_are j))
    ∙ sym (flat_map-map (group_list t built) (λ (d : Octant). record { rank = rank; members = particles_in d (particles_of g built rank) }) (group_cells limit (particles_of g built rank)))

-- ---- how long essential trees are

short_for : (is : List Particle) (items : List Entry) → length (tree_for is items) ≤ length items
short_for [] items = omega arith
short_for (i ∷ is) items = omega arith

pub own_short : (g : Division) (js : List Particle) (rank : ℕ) → length (particles_of g js rank) ≤ length js
own_short g js rank =
    let test : Particle → Bool = λ j. nat_eq (owner g js j.at) rank in
    let a = length-filter test js in
    let b = count_by-le-length test js in
    omega arith

tree_short : ListsAreShort → (t : Criterion) (g : Division) (js : List Particle) (src dst : ℕ) → length (essential_tree t g js src dst) ≤ length js
unfolding essential_tree
tree_short law t g js src dst =
    let own = particles_of g js src in
    let a = short_for (particles_of g js dst) (list_of t (domain_box g js dst) own) in
    let b = law t (domain_box g js dst) own in
    let c = own_short g js src in
    omega arith

from_short : ListsAreShort → (t : Criterion) (g : Division) (js : List Particle) (src dst : ℕ) (b : Bool) → length (if b then [] else essential_tree t g js src dst) ≤ length js
from_short law t g js src dst true = omega arith
from_short law t g js src dst false = tree_short law t g js src dst

pub received_few : ListsAreShort → (t : Criterion) (g : Division) (js : List Particle) (dst : ℕ) → IsDivision g → length js ≤ 65536
    → length (flat_map (λ src. if nat_eq src dst then [] else essential_tree t g js src dst) (range_with_len 0 (rank_count g))) < 2 ^ 32
received_few law t g js dst division few =
    let most = length-flat_map-range (λ src. if nat_eq src dst then [] else essential_tree t g js src dst) 0 (rank_count g) 65536 (λ src. let short = from_short law t g js src dst (nat_eq src dst) in omega arith) in
    let ranks = division.few in
    omega arith

-- ---- how many entries all lists have

-- the entries of some groups are those of their lists joined
pub entries_joined : {X Y : Type 0} (f : X → List Y) (xs : List X) → length (flat_map f xs) ≡ sum_by (λ x. length (f x)) xs
entries_joined f [] = refl
entries_joined f (x ∷ xs) =
    length-append (f x) (flat_map f xs) ∙ ap (λ n. length (f x) + n) (entries_joined f xs) ∙ sym (sum_by-cons (λ y. length (f y)) x xs)

-- one rank more
pub entries_next : {X Y : Type 0} (f : X → List Y) (g : ℕ → List X) (n count more : ℕ) → count ≡ length (flat_map f (flat_map g (range_with_len 0 n))) → more ≡ length (flat_map f (g n))
    → count + more ≡ length (flat_map f (flat_map g (range_with_len 0 (n + 1))))
entries_next f g n count more so_far here =
    let whole = flat_map g (range_with_len 0 n) in
    let joined : whole ++ g n ≡ flat_map g (range_with_len 0 (n + 1)) = range_next g n whole (g n) refl refl in
    let both : flat_map f (flat_map g (range_with_len 0 (n + 1))) ≡ flat_map f whole ++ flat_map f (g n) = ap (flat_map f) (sym joined) ∙ flat_map-append f whole (g n) in
    let long = length-append (flat_map f whole) (flat_map f (g n)) in
    let all = ap length both in
    omega arith

flat_few : {X Y : Type 0} (f : X → List Y) (m : ℕ) (xs : List X) → ((x : X) → length (f x) ≤ m) → length (flat_map f xs) ≤ length xs * m
flat_few f m [] each = omega arith
flat_few f m (x ∷ xs) each =
    let long = length-append (f x) (flat_map f xs) in
    let rest = flat_few f m xs each in
    let here = each x in
    omega arith

-- how long the lists of a rank are together
pub rank_entries_few : ListsAreShort → GroupsAreFew → (t : Criterion) (limit : ℕ) (g : Division) (built : List Particle) (rank : ℕ) → length built ≤ 65536 → length (flat_map (group_list t built) (groups_of_rank limit g built rank)) ≤ 2 ^ 32
rank_entries_few law groups_few t limit g built rank few =
    let own = particles_of g built rank in
    let most = flat_few (group_list t built) 65536 (groups_of_rank limit g built rank) (λ group. let short = law t (box_of group.members) built in omega arith) in
    let group_in : Octant → RankGroup = λ c. record { rank = rank; members = particles_in c own } in
    let groups : length (groups_of_rank limit g built rank) ≡ length (group_cells limit own) = length-map (group_cells limit own) group_in in
    let cells = groups_few limit own in
    let short = own_short g built rank in
    omega arith
