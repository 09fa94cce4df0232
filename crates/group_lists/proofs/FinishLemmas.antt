-- The lists that are whole, with what is kept of the trees that were absorbed.
use Rattle.std.proofs.Common.{◌≡◌, ℕ, ◌<◌, ◌≤◌, List, [], ◌∷◌, length, get_or, map, refl, sym, ◌∙◌, ap, subst, arith, nat_eq}
use Rattle.std.specs.List.{All, AllZip, Contains}
use Rattle.std.specs.List.Sorted.{IsPermutation}
use Rattle.std.proofs.lemmas.List.{length-map, get_or-map}
use Rattle.std.proofs.lemmas.List.Elements.{All-contains}
use Rattle.std.proofs.lemmas.List.Sorted.{IsPermutation-sym, length_permutation}
use Rattle.pf_model.specs.declared.entry.Entry.{Entry}
use Rattle.pf_model.specs.Particle.{Particle, IsParticle}
use Rattle.pf_model.specs.Particles.{AreBodies, HaveDistinctIds}
use Rattle.pf_model.specs.Criterion.{Criterion}
use Rattle.pf_model.specs.Division.{Division, IsDivision}
use Rattle.pf_model.specs.Domains.{owner, particles_of}
use Rattle.pf_model.specs.Interaction.{list_of}
use Rattle.model_laws.specs.ParticleLaws.{DistinctIdsIgnoreOrder, SomeHaveDistinctIds}
use Rattle.pf_model.specs.EssentialTree.{Essential, essential_tree}
use Rattle.group_lists.specs.declared.item_index.ItemIndex.{ItemIndex}
use Rattle.group_lists.specs.declared.kept_source.KeptSource.{KeptSource}
use Rattle.group_lists.specs.declared.listed.Listed.{Listed}
use Rattle.group_lists.specs.Gathering.{Gathering, gathering_of, IsGroupOf, CanAbsorb, IsSentTo}
use Rattle.group_lists.specs.Keyed.{IsServed}
use Rattle.group_lists.specs.Whole.{IsListed}
use Rattle.group_lists.specs.Listing.{IsSource}
use Rattle.group_lists.specs.Indexed.{as_items, IsIndexOf, IsKeptOf, source_items, FitList, AreWhole}
use Rattle.group_lists.specs.PieceLaws.{GroupsAreServed, ItemsLieByPlace}
use Rattle.group_lists.proofs.ElementLemmas.{contains_more, zip_second}
use Rattle.group_lists.proofs.GatherLemmas.{list_round}
use Rattle.group_lists.proofs.TotalLemmas.{length-filter-le}
use Rattle.group_lists.proofs.OccupiedLemmas.{mapped_in}

zip_map : {A B C D : Type 0} (f : A → C) (h : B → D) (R : A → B → Type 0) (S : C → D → Type 0) (xs : List A) (ys : List B) → ((x : A) (y : B) → Contains xs x → R x y → S (f x) (h y)) → AllZip R xs ys → AllZip S (map f xs) (map h ys)
zip_map f h R S [] [] each all = tt
zip_map f h R S [] (b ∷ bs) each all = absurd all
zip_map f h R S (a ∷ more) [] each all = absurd all
zip_map f h R S (a ∷ more) (b ∷ bs) each all =
    (each a b (0, omega arith, refl) all.0, zip_map f h R S more bs (λ x y there r. each x y (contains_more a more x there) r) all.1)

-- the own particles are few, and of distinct ids
pub own_few : (g : Division) (js own : List Particle) (rank : ℕ) → length js ≤ 65536 → IsPermutation own (particles_of g js rank) → length own ≤ 65536
own_few g js own rank few same =
    let long = length_permutation own (particles_of g js rank) same in
    let some = length-filter-le (λ j. nat_eq (owner g js j.at) rank) js in
    omega arith

pub own_distinct : DistinctIdsIgnoreOrder → SomeHaveDistinctIds → (g : Division) (js own : List Particle) (rank : ℕ) → HaveDistinctIds js → IsPermutation own (particles_of g js rank) → HaveDistinctIds own
own_distinct ignore some g js own rank distinct same = ignore (particles_of g js rank) own (IsPermutation-sym own (particles_of g js rank) same) (some _ js distinct)

-- the groups of lists, and what was kept of trees
module _ (t : Criterion) (g : Division) (js : List Particle) (rank : ℕ) (built : List Particle) (listed : List Listed) (trees : List Essential) (sources : List KeptSource) (kept : AllZip (λ tree s. IsKeptOf t g js tree s) trees sources)
    (theta : Criterion) (absorbs : CanAbsorb t g js (gathering_of rank built (map (λ l. l.group) listed) trees) theta trees) where
  abbrev gather : Gathering
  gather = gathering_of rank built (map (λ l. l.group) listed) trees

  sent : (tree : Essential) → Contains trees tree → IsSentTo t g js rank tree
  sent tree there = All-contains (IsSentTo t g js rank) trees tree absorbs.sent there

  -- each source is kept as it was sent
  pub sources_kept : AllZip (λ src s. IsSource (essential_tree t g js src rank) src s) (map (λ tree. tree.src) trees) (map source_items sources)
  sources_kept =
      zip_map (λ (tree : Essential). tree.src) source_items (λ tree s. IsKeptOf t g js tree s) (λ src s. IsSource (essential_tree t g js src rank) src s) trees sources
      (λ tree s there h. subst (λ (dst : ℕ). IsSource (essential_tree t g js tree.src dst) tree.src (source_items s)) (sent tree there).here h.source) kept

  -- its items have their places in the entries in which they lie
  module _ (served : GroupsAreServed) (by_place : ItemsLieByPlace) (bodies : AreBodies js) (division : IsDivision g) (particles : All IsParticle js) (own : IsPermutation built (particles_of g js rank)) (of_own : All (IsGroupOf built) (map (λ l. l.group) listed))
      (lists : map (λ l. l.entries.items) listed ≡ map (list_round t js) (map (λ l. l.group) listed)) where
    list_is : (l : Listed) → Contains listed l → l.entries.items ≡ list_of t l.group.around js
    list_is l there =
        let k = there.0 in
        let within : k < length listed = there.1 in
        let groups = map (λ (m : Listed). m.group) listed in
        let long = length-map listed (λ (m : Listed). m.group) in
        let inside : k < length groups = omega arith in
        let group : get_or groups k l.group ≡ l.group = get_or-map (λ (m : Listed). m.group) listed k l l.group within ∙ ap (λ (m : Listed). m.group) there.2 in
        ap (λ (m : Listed). m.entries.items) (sym there.2) ∙ sym (get_or-map (λ (m : Listed). m.entries.items) listed k l [] within)
        ∙ ap (λ (es : List (List Entry)). get_or es k []) lists ∙ get_or-map (list_round t js) groups k l.group [] inside ∙ ap (list_round t js) group

    pub sources_fit : (l : Listed) (s : KeptSource) → Contains listed l → Contains sources s → FitList l.entries.items s.items.items
    sources_fit l s in_listed in_sources =
        let from = zip_second (λ tree s. IsKeptOf t g js tree s) trees sources s kept in_sources in
        let tree = from.0 in
        let was = sent tree from.1 in
        let here : tree.dst ≡ rank = was.here in
        let group = All-contains (IsGroupOf built) (map (λ m. m.group) listed) l.group of_own (mapped_in (λ (m : Listed). m.group) listed l in_listed) in
        let serves : IsServed g js tree.dst l.group.around = subst (λ (n : ℕ). IsServed g js n l.group.around) (sym here) (served g js gather l.group division particles own group) in
        let fits = by_place t g js tree l.group.around bodies serves (record { here = refl; items = was.items }) in
        subst (λ (es : List Entry). FitList es s.items.items) (sym (list_is l in_listed)) (subst (FitList (list_of t l.group.around js)) (sym from.2.same_items) fits)

    pub lists_whole : (now : List Particle) (index : ItemIndex) → now ≡ built → length (map (λ l. l.group) listed) ≤ 65536 → All (λ l. IsListed (length built) l.group.span l.entries.items) listed → IsIndexOf (as_items built) index → AreWhole built now index listed sources
    lists_whole now index unmoved few each found =
        let long = length-map listed (λ (m : Listed). m.group) in
        record {
          few = omega arith;
          same_ids = ap (map (λ (j : Particle). j.id)) unmoved;
          each = λ l there. All-contains (λ (m : Listed). IsListed (length built) m.group.span m.entries.items) listed l each there;
          found = found;
          kept = λ s there. (zip_second (λ tree s. IsKeptOf t g js tree s) trees sources s kept there).2.kept;
          fit = sources_fit;
        }
