-- The lists that the gathers of all ranks end with.
use Rattle.std.proofs.Common.{◌≡◌, ℕ, zero, suc, ◌+◌, ◌^◌, ◌<◌, ◌≤◌, not, List, [], ◌∷◌, ◌++◌, length, get_or, map, take, drop, nat_eq, Some, None, inl, inr, refl, sym, ◌∙◌, ap, subst, arith}
use Rattle.std.specs.Prelude.{if◌then◌else◌}
use Rattle.std.specs.List.{All, Contains, filter, flat_map, range_with_len, sum_by}
use Rattle.std.specs.List.Sorted.{IsPermutation, IsStrictlyIncreasing}
use Rattle.std.proofs.Math.Seq.{drop-length}
use Rattle.std.proofs.lemmas.Bool.{cases_eq, cond_below, cond_above, eq-eqb, eqb-true, ne_eqb}
use Rattle.std.proofs.lemmas.List.{length-map, get_or-map, drop-drop, take-append-drop}
use Rattle.std.proofs.lemmas.List.Concat.{flat_map-append, length-flat_map}
use Rattle.std.proofs.lemmas.List.Elements.{All-append, All-contains, All-contains_itself, All-filter, Contains-get_or}
use Rattle.std.proofs.lemmas.List.Folds.{flat_map-map}
use Rattle.std.proofs.lemmas.List.Sorted.{Contains-permutation, IsPermutation-append, IsPermutation-refl, IsPermutation-sym, IsPermutation-trans, length_permutation}
use Rattle.std.proofs.lemmas.List.Sums.{sum_by-append, sum_by-cons}
use Rattle.pf_geom.specs.Bounds.{Bounds}
use Rattle.pf_geom.specs.Octant.{Octant, cell_at}
use Rattle.pf_model.specs.declared.entry.Entry.{Entry}
use Rattle.pf_model.specs.Criterion.{Criterion}
use Rattle.pf_model.specs.Division.{Division, IsDivision, rank_count}
use Rattle.pf_model.specs.Domains.{owner, particles_of}
use Rattle.pf_model.specs.EssentialTree.{essential_tree}
use Rattle.pf_model.specs.Group.{particles_in, group_cell, group_of, group_cells, box_of}
use Rattle.pf_model.specs.Groups.{RankGroup, groups_of_rank, all_groups, group_list}
use Rattle.pf_model.specs.Interaction.{is_cell, list_of}
use Rattle.pf_model.specs.Particle.{Particle}
use Rattle.pf_model.specs.Reuse.{kept_list}
use Rattle.morton_tree.specs.declared.group.Group.{Group}
use Rattle.morton_tree.specs.declared.span.Span.{Span}
use Rattle.morton_tree.specs.Spans.{at_span, FollowOneAnother}
use Rattle.morton_tree.specs.Groups.{group_in, IsGroup}
use Rattle.group_lists.specs.Gathering.{Gathering, IsWhole, gathered_count}
use Rattle.group_lists.specs.Whole.{GroupList}
use Rattle.run_model.specs.Setup.{Setup}
use Rattle.run_model.specs.Run.{list_for, entry_count, lists_fault}
use Rattle.run_model.specs.Run as stop
use Rattle.run_model.specs.Text.{cells_in, particles_within, lists_of, ranks, rank_counts}
use Rattle.run_model.specs.Text as texts
use Rattle.tree_phase.specs.declared.rank_lists.RankLists.{RankLists}
use Rattle.tree_phase.specs.Counts.{all_entries}
use Rattle.rank_step.specs.Build.{BuildsBy, AreListsOf}
use Rattle.rank_step.specs.Laws.{BuildLaws}
use Rattle.tree_phase.specs.Trees.{AreGroupsOf, received_by, HasGathered, HaveGathered, IsFinished}
use Rattle.rank_step.specs.Trees.{AreFinished}
use Rattle.rank_step.proofs.NowLemmas.{found}
use Rattle.rank_step.proofs.TreeLemmas.{all_others}

-- ---- the particles of the groups

-- spans that follow one another have all particles
spans_have_all : (js : List Particle) (start : ℕ) (spans : List Span) → FollowOneAnother start (length js) spans → flat_map (λ s. at_span s js) spans ≡ drop start js
spans_have_all js start [] ends = sym (ap (λ (n : ℕ). drop n js) ends ∙ drop-length js)
spans_have_all js start (s ∷ spans) follow =
    let rest = spans_have_all js (start + s.len) spans follow.1 in
    ap (λ (n : ℕ). take s.len (drop n js) ++ flat_map (λ (s : Span). at_span s js) spans) follow.0
    ∙ ap (λ (l : List Particle). take s.len (drop start js) ++ l) (rest ∙ sym (drop-drop s.len start js))
    ∙ take-append-drop s.len (drop start js)

joined_from_maps : {X Y Z : Type 0} (f : X → List Z) (g : Y → List Z) (xs : List X) (ys : List Y) → map f xs ≡ map g ys → flat_map f xs ≡ flat_map g ys
joined_from_maps f g xs ys same =
    sym (flat_map-map (λ z. z) f xs) ∙ ap (flat_map (λ z. z)) same ∙ flat_map-map (λ z. z) g ys

pub bodies_are : (own : List Particle) (groups : List Group) (lists : List GroupList) → FollowOneAnother 0 (length own) (map (λ g. g.span) groups) → map (λ l. l.bodies) lists ≡ map (λ g. at_span g.span own) groups → flat_map (λ l. l.bodies) lists ≡ own
bodies_are own groups lists follow bodies =
    joined_from_maps (λ (l : GroupList). l.bodies) (λ (g : Group). at_span g.span own) lists groups bodies
    ∙ sym (flat_map-map (λ (s : Span). at_span s own) (λ (g : Group). g.span) groups)
    ∙ spans_have_all own 0 (map (λ (g : Group). g.span) groups) follow

-- ---- the boxes of the groups

box_of-same : BuildLaws → (some own : List Particle) (c : Octant) → IsPermutation some own → box_of (particles_in c own) ≡ box_of (particles_in c some)
box_of-same laws some own c same = sym (laws.boxes (particles_in c some) (particles_in c own) ((laws.groups 0 some own same).2 c))

pub group_box : BuildLaws → (limit : ℕ) (some own : List Particle) (g : Group) (i : Particle) → IsPermutation some own → IsGroup limit own g → Contains (at_span g.span own) i → g.around ≡ box_of (group_of limit some i)
group_box laws limit some own g i same group member =
    group.around ∙ ap box_of (group.members i member) ∙ box_of-same laws some own (group_cell limit own i.at) same
    ∙ ap (λ (c : Octant). box_of (particles_in c some)) (sym ((laws.groups limit some own same).0 i.at))

-- a member of a group is one of the particles
pub member_among : (limit : ℕ) (some own : List Particle) (g : Group) (i : Particle) → IsPermutation some own → IsGroup limit own g → Contains (at_span g.span own) i → Contains some i
member_among limit some own g i same group member =
    let c = group_cell limit own i.at in
    let grouped : Contains (group_of limit own i) i =
    subst (λ (l : List Particle). Contains l i) (group.members i member) member in
    let all = All-filter (λ (j : Particle). is_cell c (cell_at j.at c.level)) (Contains own) own (All-contains_itself own) in
    Contains-permutation own some i (IsPermutation-sym some own same) (All-contains (Contains own) (group_of limit own i) i all grouped)

pub no_group : Group
no_group = record {
  cell = record { level = 0; key = 0 };
  span = record { first = 0; len = 0 };
  around = box_of [];
}

-- the lists round the boxes of the groups of some particles, joined
pub lists_joined : BuildLaws → (t : Criterion) (limit : ℕ) (js some own : List Particle) (groups : List Group) → AreGroupsOf limit some own groups → flat_map (λ g. list_of t g.around js) groups ≡ flat_map (λ c. list_of t (box_of (particles_in c some)) js) (group_cells limit some)
lists_joined laws t limit js some own groups grouped =
    let round : Octant → List Entry = λ c. list_of t (box_of (particles_in c own)) js in
    let theirs : Octant → List Entry = λ c. list_of t (box_of (particles_in c some)) js in
    let same : round ≡ theirs = λ k c. list_of t (box_of-same laws some own c grouped.same k) js in
    ap (flat_map (λ (g : Group). list_of t g.around js)) grouped.value
    ∙ flat_map-map (λ (g : Group). list_of t g.around js) (group_in own) (group_cells limit own)
    ∙ ap (λ (f : Octant → List Entry). flat_map f (group_cells limit own)) same
    ∙ ap (flat_map theirs) (sym (laws.groups limit some own grouped.same).1)

-- ---- one rank

-- the particles of a rank are particles that it owns
pub owned_among : BuildLaws → (g : Division) (js : List Particle) (rank : ℕ) (i : Particle) → Contains (particles_of g js rank) i → Contains js i × (owner g js i.at ≡ rank)
owned_among laws g js rank i member =
    let owns = (laws.passing (λ (j : Particle). nat_eq (owner g js j.at) rank) js i).0 member in
    (owns.0, eqb-true (owner g js i.at) rank owns.1)

list_for-owned : BuildLaws → (u : Setup) (js : List Particle) (rank : ℕ) (i : Particle) → IsStrictlyIncreasing (map (λ p. p.id) js) → Contains (particles_of u.grid js rank) i → list_for u js js i ≡ list_of u.theta (box_of (group_of u.group (particles_of u.grid js rank) i)) js
list_for-owned laws u js rank i up member =
    let owned = owned_among laws u.grid js rank i member in
    ap (λ (b : Particle). kept_list u.theta (box_of (group_of u.group (particles_of u.grid js (owner u.grid js b.at)) b)) js js) (found laws.now js up i i owned.0 refl)
    ∙ ap (λ (r : ℕ). kept_list u.theta (box_of (group_of u.group (particles_of u.grid js r) i)) js js) owned.1
    ∙ laws.kept u.theta (box_of (group_of u.group (particles_of u.grid js rank) i)) js (laws.now.differ js ((laws.now.increase js).1 up))

abbrev pub HaveLists : Setup → List Particle → List GroupList → Type 0
HaveLists u js lists = All (λ l. All (λ i. l.entries ≡ list_for u js js i) l.bodies) lists

pub skip_own : {X : Type 0} (f : ℕ → List X) (rank : ℕ) (ns : List ℕ) → flat_map f (filter (λ n. not (nat_eq n rank)) ns) ≡ flat_map (λ n. if nat_eq n rank then [] else f n) ns
skip_own f rank [] = refl
skip_own {X} f rank (n ∷ ns) =
    elim (cases_eq n rank) [
      | inl same ↦ rw (eq-eqb n rank same) (skip_own f rank ns)
      | inr other ↦ rw (ne_eqb n rank other) (ap (λ (rest : List X). f n ++ rest) (skip_own f rank ns))
    ]

-- every rank is the own one or was absorbed
whole : (limit : ℕ) (g : Division) (js : List Particle) (rank : ℕ) (gather : Gathering) → HasGathered limit g js rank gather → IsWhole g gather
whole limit g js rank gather has other below =
    subst (λ (l : List ℕ). Contains l other) (λ k. sym has.number k ∷ sym has.absorbed k) (all_others (rank_count g) rank other below)

module _ (laws : BuildLaws) (u : Setup) (js : List Particle) (rank : ℕ) (gather : Gathering) (division : IsDivision u.grid) (within : rank < rank_count u.grid) (has : HasGathered u.group u.grid js rank gather) where
  own_particles : List Particle
  own_particles = particles_of u.grid js rank

  all_in : IsWhole u.grid gather
  all_in = whole u.group u.grid js rank gather has

  rank_lists : flat_map (λ (g : Group). list_of u.theta g.around js) gather.groups ≡ lists_of u js rank
  unfolding own_particles
  rank_lists =
      lists_joined laws u.theta u.group js own_particles gather.own gather.groups has.groups
      ∙ sym (flat_map-map (group_list u.theta js) (λ (c : Octant). record { rank = rank; members = particles_in c own_particles }) (group_cells u.group own_particles))

  pub rank_entries : gathered_count u.theta u.grid js gather ≡ sum_by (λ group. length (group_list u.theta js group)) (groups_of_rank u.group u.grid js rank)
  rank_entries =
      ap (λ (ks : List Particle). sum_by (λ (group : Group). length (list_of u.theta group.around ks)) gather.groups) (laws.ranks u.grid js (gather.rank ∷ gather.absorbed) division all_in)
      ∙ sym (length-flat_map (λ (group : Group). list_of u.theta group.around js) gather.groups)
      ∙ ap length rank_lists
      ∙ length-flat_map (group_list u.theta js) (groups_of_rank u.group u.grid js rank)

  module _ (r : RankLists) (finished : IsFinished u.theta u.grid js gather r) where
    pub own_bodies : IsPermutation (particles_of u.grid js rank) (flat_map (λ l. l.bodies) r.lists.groups)
    own_bodies = subst (IsPermutation (particles_of u.grid js rank)) (sym (bodies_are gather.own gather.groups r.lists.groups has.groups.in_turn finished.bodies)) has.groups.same

    rank_all_entries : all_entries r.lists.groups ≡ lists_of u js rank
    rank_all_entries =
        joined_from_maps (λ (l : GroupList). l.entries) (λ (g : Group). list_of u.theta g.around js) r.lists.groups gather.groups finished.entries ∙ rank_lists

    group_number : length r.lists.groups ≡ length (groups_of_rank u.group u.grid js rank)
    unfolding own_particles
    group_number =
        sym (length-map r.lists.groups (λ (l : GroupList). l.bodies)) ∙ ap length finished.bodies
        ∙ length-map gather.groups (λ (g : Group). at_span g.span gather.own) ∙ ap length has.groups.value
        ∙ length-map (group_cells u.group gather.own) (group_in gather.own)
        ∙ ap length (sym (laws.groups u.group own_particles gather.own has.groups.same).1)
        ∙ sym (length-map (group_cells u.group own_particles) (λ (c : Octant). record { rank = rank; members = particles_in c own_particles }))

    came : received_by u.theta u.grid js gather ≡ texts.received_by u js rank
    came =
        (λ k. flat_map (λ src. essential_tree u.theta u.grid js src (has.number k)) (has.absorbed k))
        ∙ skip_own (λ src. essential_tree u.theta u.grid js src rank) rank (range_with_len 0 (rank_count u.grid))

    pub line_is : r.line ≡ rank_counts u js rank
    unfolding rank_counts
    line_is =
        let owned = length_permutation (particles_of u.grid js rank) gather.own has.groups.same in
        finished.line ∙ (λ k. record {
          particles = owned k;
          groups = group_number k;
          cells = cells_in (came k);
          parts = particles_within (came k);
          listcells = cells_in (rank_all_entries k);
          listparts = particles_within (rank_all_entries k);
        })

    pub have_lists : IsStrictlyIncreasing (map (λ p. p.id) js) → HaveLists u js r.lists.groups
    have_lists up k d inside n e within_bodies =
        let l = get_or r.lists.groups k d in
        let g = get_or gather.groups k no_group in
        let count = ap length finished.bodies in
        let short = length-map r.lists.groups (λ (l : GroupList). l.bodies) in
        let shorter = length-map gather.groups (λ (g : Group). at_span g.span gather.own) in
        let here : k < length gather.groups = omega arith in
        let bodies : l.bodies ≡ at_span g.span gather.own =
        sym (get_or-map (λ (l : GroupList). l.bodies) r.lists.groups k d [] inside)
        ∙ ap (λ (ls : List (List Particle)). get_or ls k []) finished.bodies
        ∙ get_or-map (λ (g : Group). at_span g.span gather.own) gather.groups k no_group [] here in
        let entries : l.entries ≡ list_of u.theta g.around js =
        sym (get_or-map (λ (l : GroupList). l.entries) r.lists.groups k d [] inside)
        ∙ ap (λ (ls : List (List Entry)). get_or ls k []) finished.entries
        ∙ get_or-map (λ (g : Group). list_of u.theta g.around js) gather.groups k no_group [] here in
        let i = get_or l.bodies n e in
        let member : Contains (at_span g.span gather.own) i =
        subst (λ (b : List Particle). Contains b i) bodies (Contains-get_or l.bodies n e within_bodies) in
        let group = has.groups.each k no_group here in
        let among = member_among u.group (particles_of u.grid js rank) gather.own g i has.groups.same group member in
        entries
        ∙ ap (λ (b : Bounds). list_of u.theta b js) (group_box laws u.group (particles_of u.grid js rank) gather.own g i has.groups.same group member)
        ∙ sym (list_for-owned laws u js rank i up among)

-- ---- all ranks

sum_of_sums : {X : Type 0} (h : X → ℕ) (f : ℕ → List X) (ns : List ℕ) → sum_by h (flat_map f ns) ≡ sum_by (λ n. sum_by h (f n)) ns
sum_of_sums h f [] = refl
sum_of_sums h f (n ∷ ns) =
    let both = sum_by-append h (f n) (flat_map f ns) in
    let more = sum_by-cons (λ m. sum_by h (f m)) n ns in
    let rest = sum_of_sums h f ns in
    omega arith

sum_by_rank : {X : Type 0} (h : X → ℕ) (f : ℕ → ℕ) (start : ℕ) (xs : List X) → ((k : ℕ) (d : X) → k < length xs → h (get_or xs k d) ≡ f (start + k)) → sum_by h xs ≡ sum_by f (range_with_len start (length xs))
sum_by_rank h f start [] each = refl
sum_by_rank h f start (x ∷ xs) each =
    let rest = sum_by_rank h f (start + 1) xs (λ k d within. each (suc k) d (omega arith) ∙ ap f (omega arith)) in
    let here : h x ≡ f start = each 0 x (omega arith) ∙ ap f (omega arith) in
    let one = sum_by-cons h x xs in
    let more = sum_by-cons f start (range_with_len (start + 1) (length xs)) in
    omega arith

pub map_by_rank : {X Y : Type 0} (h : X → Y) (f : ℕ → Y) (start : ℕ) (xs : List X) → ((k : ℕ) (d : X) → k < length xs → h (get_or xs k d) ≡ f (start + k)) → map h xs ≡ map f (range_with_len start (length xs))
map_by_rank h f start [] each = refl
map_by_rank h f start (x ∷ xs) each =
    let rest = map_by_rank h f (start + 1) xs (λ k d within. each (suc k) d (omega arith) ∙ ap f (omega arith)) in
    let here : h x ≡ f start = each 0 x (omega arith) ∙ ap f (omega arith) in
    (λ i. here i ∷ rest i)

pub permuted_by_rank : {X Y : Type 0} (own : ℕ → List Y) (f : X → List Y) (start : ℕ) (xs : List X) → ((k : ℕ) (d : X) → k < length xs → IsPermutation (own (start + k)) (f (get_or xs k d))) → IsPermutation (flat_map own (range_with_len start (length xs))) (flat_map f xs)
permuted_by_rank own f start [] each = IsPermutation-refl []
permuted_by_rank {X} {Y} own f start (x ∷ xs) each =
    let first : IsPermutation (own start) (f x) = subst (λ (n : ℕ). IsPermutation (own n) (f x)) (omega arith) (each 0 x (omega arith)) in
    let rest = permuted_by_rank own f (start + 1) xs (λ k d within. subst (λ (n : ℕ). IsPermutation (own n) (f (get_or xs k d))) (omega arith) (each (suc k) d (omega arith))) in
    IsPermutation-append (own start) (f x) (flat_map own (range_with_len (start + 1) (length xs))) (flat_map f xs) first rest

pub all_joined : {X Y : Type 0} (P : Y → Type 0) (f : X → List Y) (xs : List X) → ((k : ℕ) (d : X) → k < length xs → All P (f (get_or xs k d))) → All P (flat_map f xs)
all_joined P f [] each = λ k d within. absurd (omega arith)
all_joined P f (x ∷ xs) each = All-append P (f x) (flat_map f xs) (each 0 x (omega arith)) (all_joined P f xs (λ k d within. each (suc k) d (omega arith)))

pub joined_bodies : {X : Type 0} (f : X → List GroupList) (xs : List X) → flat_map (λ (l : GroupList). l.bodies) (flat_map f xs) ≡ flat_map (λ x. flat_map (λ (l : GroupList). l.bodies) (f x)) xs
joined_bodies f [] = refl
joined_bodies f (x ∷ xs) =
    flat_map-append (λ (l : GroupList). l.bodies) (f x) (flat_map f xs) ∙ ap (λ rest. flat_map (λ (l : GroupList). l.bodies) (f x) ++ rest) (joined_bodies f xs)

pub all_whole : (limit : ℕ) (g : Division) (js : List Particle) (gathers : List Gathering) → HaveGathered limit g js gathers → All (IsWhole g) gathers
all_whole limit g js gathers have k d within = whole limit g js k (get_or gathers k d) (have.each k d within)

-- where a sum is few, each part is
pub each_few : {X : Type 0} (h : X → ℕ) (most : ℕ) (xs : List X) → sum_by h xs ≤ most → All (λ x. h x ≤ most) xs
each_few h most [] few k d within = absurd (omega arith)
each_few h most (x ∷ xs) few zero d within = (let one = sum_by-cons h x xs in omega arith)
each_few h most (x ∷ xs) few (suc k) d within = (let one = sum_by-cons h x xs in each_few h most xs (omega arith) k d (omega arith))

no_gather : Gathering
no_gather = record { rank = 0; own = []; groups = []; absorbed = [] }

module _ (laws : BuildLaws) (u : Setup) (js : List Particle) (gathers : List Gathering) (division : IsDivision u.grid) (have : HaveGathered u.group u.grid js gathers) where
  has_at : (k : ℕ) (d : Gathering) → k < length gathers → HasGathered u.group u.grid js k (get_or gathers k d)
  has_at k d within = have.each k d within

  in_grid : (k : ℕ) → k < length gathers → k < rank_count u.grid
  in_grid k within = (let same = have.counted in omega arith)

  pub entries_counted : sum_by (gathered_count u.theta u.grid js) gathers ≡ entry_count u js
  unfolding all_groups
  entries_counted =
      let each : ℕ → ℕ = λ rank. sum_by (λ group. length (group_list u.theta js group)) (groups_of_rank u.group u.grid js rank) in
      sum_by_rank (gathered_count u.theta u.grid js) each 0 gathers (λ k d within. rank_entries laws u js k (get_or gathers k d) division (in_grid k within) (has_at k d within) ∙ ap each (omega arith))
      ∙ ap (λ (n : ℕ). sum_by each (range_with_len 0 n)) have.counted
      ∙ sym (sum_of_sums (λ (group : RankGroup). length (group_list u.theta js group)) (groups_of_rank u.group u.grid js) (range_with_len 0 (rank_count u.grid)))

  module _ (up : IsStrictlyIncreasing (map (λ p. p.id) js)) (finished : List RankLists) (are : AreFinished u.theta u.grid js gathers finished) where
    as_long : length finished ≡ rank_count u.grid
    as_long = are.counted ∙ have.counted

    inside : (k : ℕ) → k < length finished → k < length gathers
    inside k within = (let same = are.counted in omega arith)

    finished_at : (k : ℕ) (d : RankLists) → k < length finished → IsFinished u.theta u.grid js (get_or gathers k no_gather) (get_or finished k d)
    finished_at k d within = are.each k d within no_gather

    pub all_lists : AreListsOf u js js (flat_map (λ r. r.lists.groups) finished)
    all_lists = record {
      all =
          let dealt : IsPermutation js (flat_map (particles_of u.grid js) (range_with_len 0 (rank_count u.grid))) = laws.in_turn u.grid js division in
          let own = permuted_by_rank (particles_of u.grid js) (λ (r : RankLists). flat_map (λ (l : GroupList). l.bodies) r.lists.groups) 0 finished
          (λ k d within. subst (λ (n : ℕ). IsPermutation (particles_of u.grid js n) (flat_map (λ (l : GroupList). l.bodies) (get_or finished k d).lists.groups)) (omega arith)
          (own_bodies laws u js k (get_or gathers k no_gather) division (in_grid k (inside k within)) (has_at k no_gather (inside k within)) (get_or finished k d) (finished_at k d within))) in
          let whole : IsPermutation (flat_map (particles_of u.grid js) (range_with_len 0 (rank_count u.grid))) (flat_map (λ (l : GroupList). l.bodies) (flat_map (λ (r : RankLists). r.lists.groups) finished)) =
          subst (IsPermutation (flat_map (particles_of u.grid js) (range_with_len 0 (rank_count u.grid)))) (sym (joined_bodies (λ (r : RankLists). r.lists.groups) finished))
          (subst (λ (n : ℕ). IsPermutation (flat_map (particles_of u.grid js) (range_with_len 0 n)) (flat_map (λ (r : RankLists). flat_map (λ (l : GroupList). l.bodies) r.lists.groups) finished)) as_long own) in
          IsPermutation-trans js (flat_map (particles_of u.grid js) (range_with_len 0 (rank_count u.grid))) (flat_map (λ (l : GroupList). l.bodies) (flat_map (λ (r : RankLists). r.lists.groups) finished)) dealt whole;
      each =
          all_joined (λ (l : GroupList). All (λ i. l.entries ≡ list_for u js js i) l.bodies) (λ (r : RankLists). r.lists.groups) finished
          (λ k d within. have_lists laws u js k (get_or gathers k no_gather) division (in_grid k (inside k within)) (has_at k no_gather (inside k within)) (get_or finished k d) (finished_at k d within) up);
    }

    pub all_lines : map (λ (r : RankLists). r.line) finished ≡ map (rank_counts u js) (ranks u)
    all_lines =
        map_by_rank (λ (r : RankLists). r.line) (rank_counts u js) 0 finished
        (λ k d within. line_is laws u js k (get_or gathers k no_gather) division (in_grid k (inside k within)) (has_at k no_gather (inside k within)) (get_or finished k d) (finished_at k d within) ∙ ap (rank_counts u js) (omega arith))
        ∙ ap (λ (n : ℕ). map (rank_counts u js) (range_with_len 0 n)) as_long

-- ---- how many entries they have

few_entries : (u : Setup) (js : List Particle) → entry_count u js ≤ 2 ^ 24 → lists_fault u js ≡ None
few_entries u js few = sym (cond_above (2 ^ 24) (entry_count u js) (Some (stop.Lists (entry_count u js))) None None few refl)

many_entries : (u : Setup) (js : List Particle) (count : ℕ) → count ≡ entry_count u js → 2 ^ 24 < count → lists_fault u js ≡ Some (stop.Lists count)
many_entries u js count same many =
    sym (cond_below (2 ^ 24) (entry_count u js) (Some (stop.Lists (entry_count u js))) None (omega arith))
    ∙ ap (λ (n : ℕ). Some (stop.Lists n)) (sym same)

-- ---- as a run that builds so sees it

-- what is known where every rank has gathered
pub record AreReady (limit : ℕ) (g : Division) (js : List Particle) (gathers : List Gathering) : Type 0 where
  pub division : IsDivision g
  pub up : IsStrictlyIncreasing (map (λ p. p.id) js)
  pub all : HaveGathered limit g js gathers

module _ (laws : BuildLaws) (g : Division) (t : Criterion) (limit : ℕ) (js : List Particle) (gathers : List Gathering) (ready : AreReady limit g js gathers) (u : Setup) (by : BuildsBy g t limit u) where
  ready_for : HaveGathered u.group u.grid js gathers
  ready_for = subst (λ (h : Division). HaveGathered u.group h js gathers) (sym by.grid) (subst (λ (n : ℕ). HaveGathered n g js gathers) (sym by.group) ready.all)

  divided : IsDivision u.grid
  divided = subst IsDivision (sym by.grid) ready.division

  counted_for : sum_by (gathered_count t g js) gathers ≡ entry_count u js
  counted_for =
      (λ k. sum_by (gathered_count (sym by.theta k) (sym by.grid k) js) gathers) ∙ entries_counted laws u js gathers divided ready_for

  finished_for : (finished : List RankLists) → AreFinished t g js gathers finished → AreFinished u.theta u.grid js gathers finished
  finished_for finished are = subst (λ (h : Division). AreFinished u.theta h js gathers finished) (sym by.grid) (subst (λ (c : Criterion). AreFinished c g js gathers finished) (sym by.theta) are)

  pub lists_for_run : (finished : List RankLists) → AreFinished t g js gathers finished → AreListsOf u js js (flat_map (λ r. r.lists.groups) finished)
  lists_for_run finished are = all_lists laws u js gathers divided ready_for ready.up finished (finished_for finished are)

  pub lines_for_run : (finished : List RankLists) → AreFinished t g js gathers finished → map (λ r. r.line) finished ≡ map (rank_counts u js) (ranks u)
  lines_for_run finished are = all_lines laws u js gathers divided ready_for ready.up finished (finished_for finished are)

  pub few_for_run : (count : ℕ) → count ≡ sum_by (gathered_count t g js) gathers → count ≤ 2 ^ 24 → lists_fault u js ≡ None
  few_for_run count counted few = (let same = counted_for in few_entries u js (omega arith))

  pub many_for_run : (count : ℕ) → count ≡ sum_by (gathered_count t g js) gathers → 2 ^ 24 < count → lists_fault u js ≡ Some (stop.Lists count)
  many_for_run count counted many = many_entries u js count (counted ∙ counted_for) many
