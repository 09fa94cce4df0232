-- The lists of a build that ranks keep are those of the run, where its particles are now.
use Rattle.std.proofs.Common.{◌≡◌, ℕ, ◌<◌, List, [], ◌∷◌, ◌++◌, length, get_or, take, drop, map, refl, sym, ◌∙◌, ap, subst, arith}
use Rattle.std.specs.Prelude.{Result, IfOk}
use Rattle.std.specs.List.{All, Contains, flat_map, range_with_len, zip}
use Rattle.std.specs.List.Sorted.{IsPermutation, IsStrictlyIncreasing}
use Rattle.std.proofs.lemmas.List.{length-map, get_or-map, map-append, take-map, drop-map}
use Rattle.std.proofs.lemmas.List.Elements.{Contains-get_or}
use Rattle.std.proofs.lemmas.List.Folds.{flat_map-map}
use Rattle.std.proofs.lemmas.Slice.Zip.{length-zip, get_or-zip}
use Rattle.std.proofs.lemmas.List.Sorted.{IsPermutation-map, IsPermutation-trans, length_permutation}
use Rattle.pf_geom.specs.Bounds.{Bounds}
use Rattle.pf_geom.specs.Octant.{Octant}
use Rattle.pf_model.specs.declared.entry.Entry.{Entry}
use Rattle.pf_model.specs.Criterion.{Criterion}
use Rattle.pf_model.specs.Division.{Division, IsDivision, rank_count}
use Rattle.pf_model.specs.Domains.{owner, particles_of}
use Rattle.pf_model.specs.Group.{group_of, group_cells, particles_in, box_of}
use Rattle.pf_model.specs.Groups.{groups_of_rank, group_list}
use Rattle.pf_model.specs.Interaction.{list_of}
use Rattle.pf_model.specs.Particle.{Particle}
use Rattle.pf_model.specs.Reuse.{as_in, kept_list}
use Rattle.morton_tree.specs.declared.group.Group.{Group}
use Rattle.morton_tree.specs.declared.span.Span.{Span}
use Rattle.morton_tree.specs.Groups.{groups_of, group_in}
use Rattle.morton_tree.specs.Spans.{at_span, FollowOneAnother}
use Rattle.group_lists.specs.Whole.{GroupList}
use Rattle.let_inbox.specs.Sources.{others}
use Rattle.pf_model.specs.EssentialTree.{essential_tree}
use Rattle.run_model.specs.declared.step_text.RankLine.{RankLine}
use Rattle.run_model.specs.Setup.{Setup}
use Rattle.run_model.specs.Run.{list_for}
use Rattle.run_model.specs.Text.{cells_in, particles_within, lists_of, ranks, rank_counts}
use Rattle.run_model.specs.Text as texts
use Rattle.refresh_phase.specs.declared.phases.Refreshed.{Refreshed}
use Rattle.refresh_phase.specs.Kept.{RankKept, IsRankKept, AreKept, seen_from}
use Rattle.refresh_phase.specs.Kept as build
use Rattle.tree_phase.specs.declared.rank_lists.RankLists.{RankLists}
use Rattle.tree_phase.specs.declared.rank_tree.RankTree.{RankTree}
use Rattle.refresh_phase.specs.Laws.{AreAsBuilt, KeptGroupsHaveTheirLists, HasPresentGroups}
use Rattle.rank_step.specs.Build.{AreListsOf, BuildsBy}
use Rattle.rank_step.specs.LastBuild.{AreKeptSince}
use Rattle.rank_step.specs.Laws.{BuildLaws}
use Rattle.rank_step.specs.declared.keeping.RankBuilt.{RankBuilt}
use Rattle.rank_step.specs.Trees.{rank_built}
use Rattle.rank_step.proofs.BuildLemmas.{all_joined, bodies_are, group_box, joined_bodies, lists_joined, map_by_rank, member_among, no_group, owned_among, permuted_by_rank, skip_own}
use Rattle.rank_step.proofs.NowLemmas.{all_now, found, id_now}

map_flat_map : {X Y : Type 0} (f : X → Y) (g : ℕ → List X) (ns : List ℕ) → flat_map (λ n. map f (g n)) ns ≡ map f (flat_map g ns)
map_flat_map f g [] = refl
map_flat_map f g (n ∷ ns) = ap (λ rest. map f (g n) ++ rest) (map_flat_map f g ns) ∙ sym (map-append f (g n) (flat_map g ns))

spanned_map : (f : Particle → Particle) (s : Span) (js : List Particle) → at_span s (map f js) ≡ map f (at_span s js)
spanned_map f s js = ap (take s.len) (drop-map f s.first js) ∙ take-map f s.len (drop s.first js)

module _ (laws : BuildLaws) (u : Setup) (built now : List Particle) (rises : IsStrictlyIncreasing (map (λ p. p.id) now)) (same : map (λ p. p.id) built ≡ map (λ p. p.id) now) where
  -- a particle of the build is found again by what it is now
  found_again : (j : Particle) → Contains built j → as_in built (as_in now j) ≡ j
  found_again j has = found laws.now built (subst IsStrictlyIncreasing (sym same) rises) (as_in now j) j has (sym (id_now laws.now now rises built same j has))

  -- the list of its group, as it is now
  kept_for : (rank : ℕ) (j : Particle) → Contains (particles_of u.grid built rank) j → list_for u built now (as_in now j) ≡ kept_list u.theta (box_of (group_of u.group (particles_of u.grid built rank) j)) built now
  kept_for rank j member =
      let owned = owned_among laws u.grid built rank j member in
      ap (λ (b : Particle). kept_list u.theta (box_of (group_of u.group (particles_of u.grid built (owner u.grid built b.at)) b)) built now) (found_again j owned.0)
      ∙ ap (λ (r : ℕ). kept_list u.theta (box_of (group_of u.group (particles_of u.grid built r) j)) built now) owned.1

  module _ (rank : ℕ) (r : RankKept) (kept : IsRankKept u.group (seen_from u.theta u.grid built now rank) r) (has : HasPresentGroups u.group (seen_from u.theta u.grid built now rank) r) where
    own : List Particle
    own = r.tree.built

    groups : List Group
    groups = groups_of u.group r.tree.built

    own_particles : List Particle
    own_particles = particles_of u.grid built rank

    all_bodies : flat_map (λ l. l.bodies) r.lists.groups ≡ map (as_in now) own
    unfolding own
    all_bodies =
        let long : length r.tree.built ≡ length r.tree.bodies = sym (length-map r.tree.built (as_in now)) ∙ sym (ap length kept.present) in
        bodies_are r.tree.bodies (groups_of u.group r.tree.built) r.lists.groups (subst (λ (n : ℕ). FollowOneAnother 0 n (map (λ g. g.span) (groups_of u.group r.tree.built))) long kept.groups.in_turn) has.bodies
        ∙ kept.present

    pub own_bodies : IsPermutation (map (as_in now) (particles_of u.grid built rank)) (flat_map (λ l. l.bodies) r.lists.groups)
    unfolding own
    own_bodies = subst (IsPermutation (map (as_in now) (particles_of u.grid built rank))) (sym all_bodies) (IsPermutation-map (as_in now) (particles_of u.grid built rank) r.tree.built kept.groups.same)

    pub have_lists : All (λ l. All (λ i. l.entries ≡ list_for u built now i) l.bodies) r.lists.groups
    unfolding groups own
    have_lists k d inside n e within_bodies =
        let l = get_or r.lists.groups k d in
        let g = get_or groups k no_group in
        let count = ap length has.bodies in
        let short = length-map r.lists.groups (λ (l : GroupList). l.bodies) in
        let shorter = length-map groups (λ (g : Group). at_span g.span r.tree.bodies) in
        let here : k < length groups = omega (arith, inside, count, short, shorter) in
        let bodies : l.bodies ≡ at_span g.span r.tree.bodies =
        sym (get_or-map (λ (l : GroupList). l.bodies) r.lists.groups k d [] inside)
        ∙ ap (λ (ls : List (List Particle)). get_or ls k []) has.bodies
        ∙ get_or-map (λ (g : Group). at_span g.span r.tree.bodies) groups k no_group [] here in
        let entries : l.entries ≡ kept_list u.theta g.around built now =
        sym (get_or-map (λ (l : GroupList). l.entries) r.lists.groups k d [] inside)
        ∙ ap (λ (ls : List (List Entry)). get_or ls k []) has.entries
        ∙ get_or-map (λ (g : Group). kept_list u.theta g.around built now) groups k no_group [] here in
        let spanned : l.bodies ≡ map (as_in now) (at_span g.span own) = bodies ∙ ap (at_span g.span) kept.present ∙ spanned_map (as_in now) g.span own in
        let long = ap length spanned ∙ length-map (at_span g.span own) (as_in now) in
        let among_own : n < length (at_span g.span own) = omega (arith, within_bodies, long) in
        let j = get_or (at_span g.span own) n e in
        let i_is : get_or l.bodies n e ≡ as_in now j = ap (λ (js : List Particle). get_or js n e) spanned ∙ get_or-map (as_in now) (at_span g.span own) n e e among_own in
        let member : Contains (at_span g.span own) j = Contains-get_or (at_span g.span own) n e among_own in
        let group = kept.groups.each k no_group here in
        let among = member_among u.group (particles_of u.grid built rank) own g j kept.groups.same group member in
        entries
        ∙ ap (λ (b : Bounds). kept_list u.theta b built now) (group_box laws u.group (particles_of u.grid built rank) own g j kept.groups.same group member)
        ∙ sym (kept_for rank j among)
        ∙ ap (list_for u built now) (sym i_is)

    came : flat_map (λ src. essential_tree u.theta u.grid built src rank) (others rank (rank_count u.grid)) ≡ texts.received_by u built rank
    came = skip_own (λ src. essential_tree u.theta u.grid built src rank) rank (range_with_len 0 (rank_count u.grid))

    group_number : length (groups_of u.group r.tree.built) ≡ length (groups_of_rank u.group u.grid built rank)
    unfolding own_particles
    group_number =
        length-map (group_cells u.group r.tree.built) (group_in r.tree.built)
        ∙ ap length (sym (laws.groups u.group own_particles r.tree.built kept.groups.same).1)
        ∙ sym (length-map (group_cells u.group own_particles) (λ (c : Octant). record { rank = rank; members = particles_in c own_particles }))

    all_entries : flat_map (λ (g : Group). list_of u.theta g.around built) (groups_of u.group r.tree.built) ≡ lists_of u built rank
    unfolding own_particles
    all_entries =
        lists_joined laws u.theta u.group built own_particles r.tree.built (groups_of u.group r.tree.built) kept.groups
        ∙ sym (flat_map-map (group_list u.theta built) (λ (c : Octant). record { rank = rank; members = particles_in c own_particles }) (group_cells u.group own_particles))

    pub line_is : r.line ≡ rank_counts u built rank
    unfolding rank_counts
    line_is =
        let owned = length_permutation (particles_of u.grid built rank) r.tree.built kept.groups.same in
        kept.line ∙ (λ k. record {
          particles = owned k;
          groups = group_number k;
          cells = cells_in (came k);
          parts = particles_within (came k);
          listcells = cells_in (all_entries k);
          listparts = particles_within (all_entries k);
        })

    pub counted : r.line.groups ≡ length r.lists.groups
    counted =
        ap (λ (l : RankLine). l.groups) kept.line
        ∙ sym (sym (length-map r.lists.groups (λ (l : GroupList). l.bodies)) ∙ ap length has.bodies ∙ length-map (groups_of u.group r.tree.built) (λ (g : Group). at_span g.span r.tree.bodies))

-- ---- all ranks

no_rank : RankKept
no_rank = record {
  tree = record { built = []; bodies = [] };
  sent = [];
  lists = record { built = []; own = []; groups = []; sources = [] };
  line = record { particles = 0; groups = 0; cells = 0; parts = 0; listcells = 0; listparts = 0 };
}

-- what is known of ranks that keep a build on particles by ascending id, which are these now
pub record AreKnown (limit : ℕ) (t : Criterion) (g : Division) (built now : List Particle) (ks : List RankKept) : Type 0 where
  pub division : IsDivision g
  pub rises : IsStrictlyIncreasing (map (λ p. p.id) now)
  pub same : map (λ p. p.id) built ≡ map (λ p. p.id) now
  pub kept : AreKept limit t g built now ks

module _ (laws : BuildLaws) (have : KeptGroupsHaveTheirLists) (u : Setup) (built now : List Particle) (ks : List RankKept) (known : AreKnown u.group u.theta u.grid built now ks) where
  kept_at : (k : ℕ) (d : RankKept) → k < length ks → IsRankKept u.group (seen_from u.theta u.grid built now k) (get_or ks k d)
  kept_at k d within = known.kept.each k d within

  has_at : (k : ℕ) (d : RankKept) → k < length ks → HasPresentGroups u.group (seen_from u.theta u.grid built now k) (get_or ks k d)
  has_at k d within = have u.group (seen_from u.theta u.grid built now k) (get_or ks k d) (kept_at k d within)

  abbrev groups_in : List RankKept → List GroupList
  groups_in rs = flat_map (λ r. r.lists.groups) rs

  all_present : IsPermutation now (flat_map (λ (l : GroupList). l.bodies) (groups_in ks))
  all_present =
      let of_rank : ℕ → List Particle = λ n. map (as_in now) (particles_of u.grid built n) in
      let dealt : IsPermutation built (flat_map (particles_of u.grid built) (range_with_len 0 (rank_count u.grid))) = laws.in_turn u.grid built known.division in
      let moved : IsPermutation now (flat_map of_rank (range_with_len 0 (rank_count u.grid))) =
      subst (λ (js : List Particle). IsPermutation js (flat_map of_rank (range_with_len 0 (rank_count u.grid)))) (all_now laws.now now known.rises built known.same)
      (subst (IsPermutation (map (as_in now) built)) (sym (map_flat_map (as_in now) (particles_of u.grid built) (range_with_len 0 (rank_count u.grid))))
      (IsPermutation-map (as_in now) built (flat_map (particles_of u.grid built) (range_with_len 0 (rank_count u.grid))) dealt)) in
      let own = permuted_by_rank of_rank (λ (r : RankKept). flat_map (λ (l : GroupList). l.bodies) r.lists.groups) 0 ks
      (λ k d within. subst (λ (n : ℕ). IsPermutation (of_rank n) (flat_map (λ (l : GroupList). l.bodies) (get_or ks k d).lists.groups)) (omega arith)
      (own_bodies laws u built now known.rises known.same k (get_or ks k d) (kept_at k d within) (has_at k d within))) in
      let whole : IsPermutation (flat_map of_rank (range_with_len 0 (rank_count u.grid))) (flat_map (λ (l : GroupList). l.bodies) (groups_in ks)) =
      subst (IsPermutation (flat_map of_rank (range_with_len 0 (rank_count u.grid)))) (sym (joined_bodies (λ (r : RankKept). r.lists.groups) ks))
      (subst (λ (n : ℕ). IsPermutation (flat_map of_rank (range_with_len 0 n)) (flat_map (λ (r : RankKept). flat_map (λ (l : GroupList). l.bodies) r.lists.groups) ks)) known.kept.counted own) in
      IsPermutation-trans now (flat_map of_rank (range_with_len 0 (rank_count u.grid))) (flat_map (λ (l : GroupList). l.bodies) (groups_in ks)) moved whole

  pub kept_lists : AreListsOf u built now (flat_map (λ r. r.lists.groups) ks)
  kept_lists = record {
    all = all_present;
    each =
        all_joined (λ (l : GroupList). All (λ i. l.entries ≡ list_for u built now i) l.bodies) (λ (r : RankKept). r.lists.groups) ks
        (λ k d within. have_lists laws u built now known.rises known.same k (get_or ks k d) (kept_at k d within) (has_at k d within));
  }

  pub kept_lines : map (λ (r : RankKept). r.line) ks ≡ map (rank_counts u built) (ranks u)
  kept_lines =
      map_by_rank (λ (r : RankKept). r.line) (rank_counts u built) 0 ks
      (λ k d within. line_is laws u built now known.rises known.same k (get_or ks k d) (kept_at k d within) (has_at k d within) ∙ ap (rank_counts u built) (omega arith))
      ∙ ap (λ (n : ℕ). map (rank_counts u built) (range_with_len 0 n)) known.kept.counted

  pub kept_counted : (k : ℕ) (d : RankKept) → k < length ks → (get_or ks k d).line.groups ≡ length (get_or ks k d).lists.groups
  kept_counted k d within = counted laws u built now known.rises known.same k (get_or ks k d) (kept_at k d within) (has_at k d within)

-- as a run that builds so sees it
pub known_for : (g : Division) (t : Criterion) (limit : ℕ) (built now : List Particle) (ks : List RankKept) (u : Setup) → BuildsBy g t limit u → AreKnown limit t g built now ks → AreKnown u.group u.theta u.grid built now ks
known_for g t limit built now ks u by known =
    subst (λ (h : Division). AreKnown u.group u.theta h built now ks) (sym by.grid)
    (subst (λ (c : Criterion). AreKnown u.group c g built now ks) (sym by.theta)
    (subst (λ (n : ℕ). AreKnown n t g built now ks) (sym by.group) known))

-- what holds in the terms of a build holds of what it was made from
pub in_terms : {E : Type 0} (limit : ℕ) (t s : Criterion) (g h : Division) (js ks now : List Particle) (kept : List RankKept) (r : Result Refreshed E) → s ≡ t → h ≡ g → ks ≡ js →
    (AreKeptSince limit s h ks kept → IfOk r (λ x. AreKept limit s h ks now x.ranks.items)) → AreKeptSince limit t g js kept → IfOk r (λ x. AreKept limit t g js now x.ranks.items)
in_terms limit t s g h js ks now kept r criterion division particles given =
    let P : Criterion → Division → List Particle → Type 0 = λ c d ps. AreKeptSince limit c d ps kept → IfOk r (λ x. AreKept limit c d ps now x.ranks.items) in
    subst (λ (c : Criterion). P c g js) criterion (subst (λ (d : Division). P s d js) division (subst (λ (ps : List Particle). P s h ps) particles given))

-- ---- the trees and lists that are kept

paired_as_built : (trees : List RankTree) (lists : List RankLists) (kept : List RankKept) → length trees ≡ length lists → kept ≡ map (λ p. build.as_built p.0 p.1) (zip trees lists) → AreAsBuilt trees lists kept
paired_as_built trees lists kept same is =
    let zipped = length-zip trees lists in
    let long = length-map (zip trees lists) (λ (p : RankTree × RankLists). build.as_built p.0 p.1) in
    let made = ap length is in
    record {
      counted = (let fewest : length (zip trees lists) ≡ length lists = omega (arith, zipped, same) in omega (arith, made, long, fewest));
      each = λ rank x within tree f.
          (let below : rank < length (zip trees lists) = omega (arith, within, made, long) in
          let in_trees : rank < length trees = omega (arith, below, zipped, same) in
          let in_lists : rank < length lists = omega (arith, in_trees, same) in
          ap (λ (ks : List RankKept). get_or ks rank x) is
          ∙ get_or-map (λ (p : RankTree × RankLists). build.as_built p.0 p.1) (zip trees lists) rank (tree, f) x below
          ∙ ap (λ (p : RankTree × RankLists). build.as_built p.0 p.1) (get_or-zip trees lists rank (tree, f) in_trees in_lists));
    }

one_by_one : (pairs : List (RankTree × RankLists)) → map (λ (r : RankBuilt). build.as_built r.tree r.lists) (map rank_built pairs) ≡ map (λ p. build.as_built p.0 p.1) pairs
one_by_one [] = refl
one_by_one (p ∷ ps) = ap (λ rest. build.as_built p.0 p.1 ∷ rest) (one_by_one ps)

pub kept_as_built : (trees : List RankTree) (lists : List RankLists) (kept : List RankKept) → length trees ≡ length lists → kept ≡ map (λ (r : RankBuilt). build.as_built r.tree r.lists) (map rank_built (zip trees lists)) → AreAsBuilt trees lists kept
kept_as_built trees lists kept same is = paired_as_built trees lists kept same (is ∙ one_by_one (zip trees lists))
