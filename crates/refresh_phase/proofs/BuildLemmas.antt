-- The ranks of a build, and what they have from then on.
use Rattle.std.proofs.Common.{◌≡◌, ℕ, suc, ◌<◌, List, [], ◌∷◌, length, get_or, map, nat_eq, refl, sym, ◌∙◌, ap, subst, arith}
use Rattle.std.specs.List.{All, Contains, flat_map}
use Rattle.std.proofs.lemmas.List.{length-map}
use Rattle.std.proofs.lemmas.List.Folds.{flat_map-map}
use Rattle.std.proofs.lemmas.List.Sorted.{Contains-permutation, IsPermutation-sym}
use Rattle.pf_model.specs.declared.entry.Entry.{Entry}
use Rattle.pf_model.specs.declared.entry.Entry.TheVariants.{One}
use Rattle.pf_model.specs.Criterion.{Criterion}
use Rattle.pf_model.specs.Division.{Division, rank_count}
use Rattle.pf_model.specs.Domains.{owner, particles_of}
use Rattle.pf_model.specs.Group.{box_of}
use Rattle.pf_model.specs.Interaction.{list_of}
use Rattle.pf_model.specs.Particle.{Particle}
use Rattle.pf_model.specs.Particles.{HaveDistinctIds}
use Rattle.pf_model.specs.Reuse.{as_in, kept_list}
use Rattle.model_laws.specs.ReuseLaws.{PresentEntriesAreFound}
use Rattle.morton_tree.specs.declared.group.Group.{Group}
use Rattle.morton_tree.specs.declared.span.Span.{Span}
use Rattle.morton_tree.specs.Groups.{groups_of, IsGroup}
use Rattle.morton_tree.specs.Spans.{at_span}
use Rattle.group_lists.specs.Gathering.{Gathering, IsGroupOf}
use Rattle.group_lists.specs.Whole.{GroupList}
use Rattle.list_reuse.specs.Keeping.{Motion}
use Rattle.list_reuse.specs.KeepingLaws.{ListsOfABuildAreKept}
use Rattle.tree_phase.specs.declared.rank_lists.RankLists.{RankLists}
use Rattle.tree_phase.specs.declared.rank_tree.RankTree.{RankTree}
use Rattle.run_model.specs.Text.{cells_in, particles_within}
use Rattle.tree_phase.specs.Counts.{all_entries}
use Rattle.tree_phase.specs.Trees.{AreGroupsOf, HaveSentAll, IsFinished, IsTreeOf, gathered_over, received_by}
use Rattle.refresh_phase.specs.Kept.{AreKept, IsRankKept, RankKept, as_built, line_of, seen_from}
use Rattle.refresh_phase.specs.Laws.{AreAsBuilt, HasPresentGroups, IsBuilt}
use Rattle.refresh_phase.proofs.FoundLemmas.{from_filter}
use Rattle.refresh_phase.proofs.MoveLemmas.{all_ranks}
use Rattle.refresh_phase.proofs.PostLemmas.{some_of}

-- what is the same of each element is the same of all
map_all : {X Y : Type 0} (f g : X → Y) (xs : List X) → All (λ x. f x ≡ g x) xs → map f xs ≡ map g xs
map_all f g [] each = refl
map_all f g (x ∷ xs) each = (λ i. each 0 x (omega arith) i ∷ map_all f g xs (λ k d within. each (suc k) d (omega arith)) i)

map_of_map : {X Y Z : Type 0} (f : Y → Z) (g : X → Y) (xs : List X) → map f (map g xs) ≡ map (λ x. f (g x)) xs
map_of_map f g [] = refl
map_of_map f g (x ∷ xs) = ap (λ rest. f (g x) ∷ rest) (map_of_map f g xs)

-- what lists with the same spans have by them
by_spans : {Y : Type 0} (f : Span → Y) (ls : List GroupList) (groups : List Group) → map (λ l. l.span) ls ≡ map (λ group. group.span) groups → map (λ l. f l.span) ls ≡ map (λ group. f group.span) groups
by_spans f ls groups same =
    sym (map_of_map f (λ (l : GroupList). l.span) ls) ∙ ap (map f) same ∙ map_of_map f (λ (group : Group). group.span) groups

-- ---- groups

pub present_groups : (limit : ℕ) (m : Motion) (r : RankKept) → IsRankKept limit m r → HasPresentGroups limit m r
present_groups limit m r kept =
    let groups = groups_of limit r.tree.built in
    let own : r.lists.own ≡ r.tree.bodies = kept.lists.own ∙ ap (map (as_in m.now)) kept.built ∙ sym kept.present in
    let boxed : (s : Span) → kept_list m.theta (box_of (at_span s r.lists.built)) m.particles m.now ≡ kept_list m.theta (box_of (at_span s r.tree.built)) m.particles m.now =
    λ s. ap (λ (l : List Particle). kept_list m.theta (box_of (at_span s l)) m.particles m.now) kept.built in
    record {
      bodies =
          map_all (λ (l : GroupList). l.bodies) (λ (l : GroupList). at_span l.span r.lists.own) r.lists.groups (λ k d within. (kept.lists.groups k d within).bodies)
          ∙ by_spans (λ s. at_span s r.lists.own) r.lists.groups groups kept.spans
          ∙ ap (λ (l : List Particle). map (λ (group : Group). at_span group.span l) groups) own;
      entries =
          map_all (λ (l : GroupList). l.entries) (λ (l : GroupList). kept_list m.theta (box_of (at_span l.span r.tree.built)) m.particles m.now) r.lists.groups
          (λ k d within. (kept.lists.groups k d within).entries ∙ boxed (get_or r.lists.groups k d).span)
          ∙ by_spans (λ s. kept_list m.theta (box_of (at_span s r.tree.built)) m.particles m.now) r.lists.groups groups kept.spans
          ∙ map_all (λ (group : Group). kept_list m.theta (box_of (at_span group.span r.tree.built)) m.particles m.now) (λ (group : Group). kept_list m.theta group.around m.particles m.now) groups
          (λ k d within. ap (λ b. kept_list m.theta b m.particles m.now) (sym (kept.groups.each k d within).around));
    }

-- ---- the build

same_one : (p q : Particle) → One p ≡ One q → p ≡ q
same_one p q e = cc

-- each of some particles is found among all as it is
all_found : PresentEntriesAreFound → (js ps : List Particle) → HaveDistinctIds js → ((p : Particle) → Contains ps p → Contains js p) → map (as_in js) ps ≡ ps
all_found law js [] distinct among = refl
all_found law js (p ∷ ps) distinct among =
    (λ i. same_one (as_in js p) p (law js [] p p distinct (among p (0, omega arith, refl)) refl) i ∷ all_found law js ps distinct (λ q h. among q (suc h.0, omega (arith, h.1), h.2)) i)

-- what is told of a rank
told : (t : Criterion) (g : Division) (js : List Particle) (rank : ℕ) (r : RankTree) (f : RankLists) → IsFinished t g js (gathered_over g rank r) f → f.line ≡ line_of t g js rank r.tree.built r.groups.items
told t g js rank r f finished =
    let entries : all_entries f.lists.groups ≡ flat_map (λ group. list_of t group.around js) r.groups.items =
    sym (flat_map-map (λ (es : List Entry). es) (λ (l : GroupList). l.entries) f.lists.groups) ∙ ap (flat_map (λ (es : List Entry). es)) finished.entries
    ∙ flat_map-map (λ (es : List Entry). es) (λ (group : Group). list_of t group.around js) r.groups.items in
    let many : length f.lists.groups ≡ length r.groups.items =
    sym (length-map f.lists.groups (λ (l : GroupList). l.span)) ∙ ap length finished.spans ∙ length-map r.groups.items (λ (group : Group). group.span) in
    finished.line
    ∙ (λ i. record {
      particles = length r.tree.built;
      groups = many i;
      cells = cells_in (received_by t g js (gathered_over g rank r));
      parts = particles_within (received_by t g js (gathered_over g rank r));
      listcells = cells_in (entries i);
      listparts = particles_within (entries i);
    })

-- groups as gathers have them
groups_served : (limit : ℕ) (own : List Particle) (groups : List Group) → All (IsGroup limit own) groups → All (IsGroupOf own) groups
groups_served limit own groups each k d within = (let group = each k d within in record { some = group.some; inside = group.inside; around = group.around })

-- a rank as it is built
module _ (found : PresentEntriesAreFound) (begun : ListsOfABuildAreKept) (limit : ℕ) (t : Criterion) (g : Division) (js : List Particle) (trees : List RankTree) (gathers : List Gathering)
    (finished : List RankLists) (built : IsBuilt limit t g js trees gathers finished) where
  rank_kept : (rank : ℕ) (r : RankTree) (f : RankLists) → rank < rank_count g → IsTreeOf limit (particles_of g js rank) r → HaveSentAll t g js rank r →
      IsFinished t g js (gathered_over g rank r) f → IsRankKept limit (seen_from t g js js rank) (as_built r f)
  rank_kept rank r f within tree sent done =
      let value : r.groups.items ≡ groups_of limit r.tree.built = tree.groups.value in
      let own = particles_of g js rank in
      let among : (p : Particle) → Contains r.tree.built p → Contains js p =
      λ p h. from_filter (λ (j : Particle). nat_eq (owner g js j.at) rank) js p (Contains-permutation r.tree.built own p (IsPermutation-sym own r.tree.built tree.groups.same) h) in
      record {
        groups = subst (AreGroupsOf limit own r.tree.built) value tree.groups;
        present = tree.unmoved ∙ sym (all_found found js r.tree.built built.are_bodies.distinct among);
        sent = sent;
        lists = begun t g js (gathered_over g rank r) f.lists built.are_bodies built.within_limits built.division (IsPermutation-sym own r.tree.built tree.groups.same)
            (groups_served limit r.tree.built r.groups.items tree.groups.each) (all_ranks rank (rank_count g) within)
            (record { bodies = done.bodies; entries = done.entries; spans = done.spans; built = done.built; own = done.own; sources = done.sources });
        built = done.built;
        spans = done.spans ∙ ap (map (λ (group : Group). group.span)) value;
        line = told t g js rank r f done ∙ ap (line_of t g js rank r.tree.built) value;
      }

  pub all_begin : (ranks : List RankKept) → AreAsBuilt trees finished ranks → AreKept limit t g js js ranks
  all_begin ranks are =
      let all = built.trees_are.counted in
      let gathered = built.over.counted in
      let ended = built.counted in
      let same = are.counted in
      record {
        counted = are.counted ∙ built.counted ∙ built.over.counted;
        each = λ rank k within.
            (let here : rank < length trees = omega arith in
            let there : rank < length finished = omega arith in
            let between : rank < length gathers = omega arith in
            let r = some_of trees rank here in
            let f = some_of finished rank there in
            let gather = some_of gathers rank between in
            let done : IsFinished t g js (get_or gathers rank gather) (get_or finished rank f) = built.finish rank f there gather in
            subst (IsRankKept limit (seen_from t g js js rank)) (sym (are.each rank k within r f))
            (rank_kept rank (get_or trees rank r) (get_or finished rank f) (omega arith) (built.trees_are.each rank r here) (built.sent rank r here)
            (subst (λ (v : Gathering). IsFinished t g js v (get_or finished rank f)) (built.over.each rank gather between r) done)));
      }
