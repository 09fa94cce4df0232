-- Lists as they come from a build.
use Rattle.std.proofs.Common.{◌≡◌, ℕ, ◌+◌, ◌≤◌, List, [], ◌∷◌, length, map, refl, sym, ◌∙◌, ap, subst}
use Rattle.std.specs.List.{All, AllZip, Contains}
use Rattle.std.specs.List.Sorted.{IsPermutation}
use Rattle.std.specs.Prelude.{nat_eq}
use Rattle.std.proofs.lemmas.List.Elements.{All-nil, All-cons, All-head, All-tail, All-contains}
use Rattle.std.proofs.lemmas.List.Sorted.{Contains-permutation, IsPermutation-refl}
use Rattle.order_laws.specs.OrderLaws.{TestsKeepWhatPasses}
use Rattle.pf_model.specs.declared.entry.Entry.{Entry}
use Rattle.pf_model.specs.Particle.{Particle}
use Rattle.pf_model.specs.Particles.{AreBodies}
use Rattle.pf_model.specs.Criterion.{Criterion}
use Rattle.pf_model.specs.Division.{Division}
use Rattle.pf_model.specs.Domains.{owner, particles_of}
use Rattle.pf_model.specs.Interaction.{list_of}
use Rattle.pf_model.specs.Group.{box_of}
use Rattle.pf_model.specs.EssentialTree.{essential_tree}
use Rattle.pf_model.specs.Reuse.{as_in}
use Rattle.model_laws.specs.ReuseLaws.{KeptListsBeginAsLists, PresentEntriesAreFound}
use Rattle.morton_tree.specs.declared.group.Group.{Group}
use Rattle.morton_tree.specs.declared.span.Span.{Span}
use Rattle.morton_tree.specs.Spans.{at_span}
use Rattle.group_lists.specs.Gathering.{IsGroupOf}
use Rattle.group_lists.specs.Whole.{GroupList}
use Rattle.group_lists.specs.Listing.{SourceItems, IsSource}
use Rattle.list_reuse.specs.Keeping.{IsKeptGroup, AreOtherRanks}
use Rattle.list_reuse.specs.KeepingLaws.{build_of, ListsOfABuildAreKept, MovedBodiesArePresent}
use Rattle.list_reuse.proofs.RefreshLemmas.{all_found}

same_heads : {X : Type 0} (x y : X) (xs ys : List X) → x ∷ xs ≡ y ∷ ys → (x ≡ y) × (xs ≡ ys)
same_heads x y xs ys e = (cc, cc)

groups_begin : KeptListsBeginAsLists → (t : Criterion) (g : Division) (js own : List Particle) (rank : ℕ) → AreBodies js → (ls : List GroupList) (gs : List Group) →
    map (λ l. l.bodies) ls ≡ map (λ v. at_span v.span own) gs → map (λ l. l.entries) ls ≡ map (λ v. list_of t v.around js) gs → map (λ l. l.span) ls ≡ map (λ v. v.span) gs → All (IsGroupOf own) gs → All (IsKeptGroup (build_of t g js rank) own own) ls
groups_begin law t g js own rank are [] gs b e s all = All-nil (IsKeptGroup (build_of t g js rank) own own)
groups_begin law t g js own rank are (l ∷ ls) [] b e s all = absurd (cc)
groups_begin law t g js own rank are (l ∷ ls) (v ∷ gs) b e s all =
    let bodies = same_heads l.bodies (at_span v.span own) (map (λ (x : GroupList). x.bodies) ls) (map (λ (x : Group). at_span x.span own) gs) b in
    let entries = same_heads l.entries (list_of t v.around js) (map (λ (x : GroupList). x.entries) ls) (map (λ (x : Group). list_of t x.around js) gs) e in
    let spans = same_heads l.span v.span (map (λ (x : GroupList). x.span) ls) (map (λ (x : Group). x.span) gs) s in
    let is = All-head (IsGroupOf own) v gs all in
    let same : v.span ≡ l.span = sym spans.0 in
    let box : v.around ≡ box_of (at_span l.span own) = is.around ∙ ap (λ (x : Span). box_of (at_span x own)) same in
    All-cons (IsKeptGroup (build_of t g js rank) own own) l ls
    (record {
      some = subst (λ (x : Span). 1 ≤ x.len) same is.some;
      inside = subst (λ (x : Span). x.first + x.len ≤ length own) same is.inside;
      bodies = bodies.0 ∙ ap (λ (x : Span). at_span x own) same;
      entries = entries.0 ∙ ap (λ b. list_of t b js) box ∙ sym (law t (box_of (at_span l.span own)) js are.distinct);
    })
    (groups_begin law t g js own rank are ls gs bodies.1 entries.1 spans.1 (All-tail (IsGroupOf own) v gs all))

srcs_are : (sent : ℕ → List Entry) (srcs : List ℕ) (ss : List SourceItems) → AllZip (λ src s. IsSource (sent src) src s) srcs ss → map (λ s. s.src) ss ≡ srcs
srcs_are sent [] [] all = refl
srcs_are sent [] (s ∷ ss) all = absurd all
srcs_are sent (r ∷ rs) [] all = absurd all
srcs_are sent (r ∷ rs) (s ∷ ss) all = λ i. all.0.rank i ∷ srcs_are sent rs ss all.1 i

sources_begin : (sent : ℕ → List Entry) (srcs : List ℕ) (ss : List SourceItems) → AllZip (λ src s. IsSource (sent src) src s) srcs ss → All (λ s. IsSource (sent s.src) s.src s) ss
sources_begin sent [] [] all = All-nil (λ s. IsSource (sent s.src) s.src s)
sources_begin sent [] (s ∷ ss) all = absurd all
sources_begin sent (r ∷ rs) [] all = absurd all
sources_begin sent (r ∷ rs) (s ∷ ss) all =
    All-cons (λ s. IsSource (sent s.src) s.src s) s ss
    (subst (λ (n : ℕ). IsSource (sent n) n s) (sym all.0.rank) all.0) (sources_begin sent rs ss all.1)

pub lists_of_a_build_are_kept : KeptListsBeginAsLists → PresentEntriesAreFound → TestsKeepWhatPasses Particle → ListsOfABuildAreKept
lists_of_a_build_are_kept begins found passing t g js gather lists are limits division own groups ranks finished =
    let m = build_of t g js gather.rank in
    let sent : ℕ → List Entry = λ src. essential_tree t g js src gather.rank in
    let owned = λ (j : Particle). nat_eq (owner g js j.at) gather.rank in
    let there : (k : Particle) → Contains gather.own k → Contains js k = λ k h. ((passing owned js k).0 (Contains-permutation gather.own (particles_of g js gather.rank) k own h)).0 in
    let same : map (as_in js) gather.own ≡ gather.own = all_found found js are.distinct gather.own gather.own refl there in
    record {
      motion = record { are_bodies = are; within_limits = limits; division = division; same_ids = IsPermutation-refl (map (λ (j : Particle). j.id) js) };
      built = subst (λ (l : List Particle). IsPermutation l (particles_of g js gather.rank)) (sym finished.built) own;
      own = finished.own ∙ sym same ∙ ap (map (as_in js)) (sym finished.built);
      groups =
          subst (λ (l : List Particle). All (IsKeptGroup m lists.built l) lists.groups) (sym finished.own)
          (subst (λ (l : List Particle). All (IsKeptGroup m l gather.own) lists.groups) (sym finished.built)
          (groups_begin begins t g js gather.own gather.rank are lists.groups gather.groups finished.bodies finished.entries finished.spans groups));
      ranks = subst (AreOtherRanks m) (sym (srcs_are sent gather.absorbed lists.sources finished.sources)) ranks;
      sources = sources_begin sent gather.absorbed lists.sources finished.sources;
    }

pub moved_bodies_are_present : PresentEntriesAreFound → MovedBodiesArePresent
moved_bodies_are_present found now built bodies distinct same among =
    sym (all_found found now distinct built bodies same (λ k h. All-contains (Contains now) bodies k among h))
