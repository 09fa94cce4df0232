-- The lists of groups over the particles of one rank more.
use Rattle.std.proofs.Common.{◌≡◌, ℕ, ◌+◌, ◌<◌, ◌≤◌, Bool, true, false, ◌||◌, List, [], ◌∷◌, ◌++◌, length, drop, Option, Some, None, refl, sym, ◌∙◌, ap, subst, arith, nat_eq}
use Rattle.std.specs.List.{filter, list_any, All, Contains}
use Rattle.std.specs.List.Sorted.{IsPermutation}
use Rattle.std.proofs.lemmas.Bool.{eqb-true}
use Rattle.std.proofs.lemmas.List.{length-append, length-take, length-drop}
use Rattle.std.proofs.lemmas.List.Elements.{All-filter, All-weaker, All-take, All-drop, filter_passes, filter_agree}
use Rattle.std.proofs.lemmas.List.Folds.{list_any-append}
use Rattle.std.proofs.lemmas.List.Sorted.{All-permutation, IsPermutation-sym, length_permutation}
use Rattle.pf_geom.specs.Position.{IsPosition}
use Rattle.pf_geom.specs.Bounds.{Bounds, IsBox, IsWithin}
use Rattle.pf_geom.specs.Octant.{cell_at}
use Rattle.pf_model.specs.declared.entry.Entry.{Entry}
use Rattle.pf_model.specs.declared.entry.Entry.TheVariants.{Cell, One}
use Rattle.pf_model.specs.Particle.{Particle, IsParticle}
use Rattle.pf_model.specs.Particles.{AreBodies, HaveDistinctIds}
use Rattle.pf_model.specs.Criterion.{Criterion}
use Rattle.pf_model.specs.Division.{Division}
use Rattle.pf_model.specs.Domains.{owner, particles_of, domain_box}
use Rattle.pf_model.specs.Group.{box_of}
use Rattle.pf_model.specs.Interaction.{level_of, leads_to_cell, entry_at, list_of}
use Rattle.pf_model.specs.Merging.{merged, common_count}
use Rattle.model_laws.specs.MergingLaws.{ListsMerge, MergedListsShareCells}
use Rattle.model_laws.specs.ListLaws.{ListsHoldTheirEntries, ListsIgnoreOrder, ListsAreShort}
use Rattle.model_laws.specs.ParticleLaws.{SomeHaveDistinctIds, DistinctIdsIgnoreOrder}
use Rattle.model_laws.specs.DomainLaws.{RanksHaveTheirOwn, OneRankHasItsOwn}
use Rattle.pf_model.specs.EssentialTree.{particles_of_ranks, limited_list}
use Rattle.model_laws.specs.SufficiencyLaws.{BoxesLieInDomains}
use Rattle.morton_tree.specs.Spans.{at_span}
use Rattle.group_lists.specs.Gathering.{Gathering, IsNewSource}
use Rattle.group_lists.specs.Pieces.{AreFewTogether}
use Rattle.group_lists.specs.PieceLaws.{PiecesMakeLists, PiecesAreInOrder, GroupsAreServed}
use Rattle.group_lists.proofs.TotalLemmas.{entry_count, counted_by, length-filter-le}

pub groups_are_served : BoxesLieInDomains → GroupsAreServed
groups_are_served boxes g js gather group division particles own is =
    let own_of = particles_of g js gather.rank in
    let members = at_span group.span gather.own in
    let back = IsPermutation-sym gather.own own_of own in
    let owned : All (λ j. owner g js j.at ≡ gather.rank) own_of =
    All-weaker (λ (j : Particle). nat_eq (owner g js j.at) gather.rank ≡ true) (λ j. owner g js j.at ≡ gather.rank) (λ j e. eqb-true (owner g js j.at) gather.rank e) own_of (filter_passes (λ (j : Particle). nat_eq (owner g js j.at) gather.rank) js) in
    let places : All (λ j. IsPosition j.at) js = All-weaker IsParticle (λ j. IsPosition j.at) (λ j p. p.in_cube) js particles in
    let of_members : (P : Particle → Type 0) → All P own_of → All P members = λ P all.
    All-take P group.span.len (drop group.span.first gather.own) (All-drop P group.span.first gather.own (All-permutation P own_of gather.own back all)) in
    let long = length_permutation gather.own own_of own in
    let some = is.some in
    let inside = is.inside in
    let rest = length-drop group.span.first gather.own in
    let count : 1 ≤ length members = (let taken = length-take group.span.len (drop group.span.first gather.own) in omega arith) in
    let nested = boxes g js members gather.rank division places count (of_members (λ j. IsPosition j.at) (All-filter (λ (j : Particle). nat_eq (owner g js j.at) gather.rank) (λ j. IsPosition j.at) js places)) (of_members (λ j. owner g js j.at ≡ gather.rank) owned) in
    let same : box_of members ≡ group.around = sym is.around in
    record {
      some = omega arith;
      inner = subst IsBox same nested.0;
      outer = nested.1;
      within = subst (λ (b : Bounds). IsWithin b (domain_box g js gather.rank)) same nested.2;
    }

last_first : (a b s : Bool) → (a || (b || (s || false))) ≡ (s || (a || b))
last_first true true true = refl
last_first true true false = refl
last_first true false true = refl
last_first true false false = refl
last_first false true true = refl
last_first false true false = refl
last_first false false true = refl
last_first false false false = refl

-- the particles of a source, those of the ranks before, and those of all these
abbrev pub before_of : Division → List Particle → Gathering → List Particle
before_of g js gather = particles_of_ranks g js (gather.rank ∷ gather.absorbed)

source_last : (g : Division) (js : List Particle) (gather : Gathering) (src : ℕ) → particles_of_ranks g js (gather.rank ∷ (gather.absorbed ++ src ∷ [])) ≡ particles_of_ranks g js (src ∷ gather.rank ∷ gather.absorbed)
source_last g js gather src =
    filter_agree (λ (j : Particle). list_any (nat_eq (owner g js j.at)) (gather.rank ∷ (gather.absorbed ++ src ∷ []))) (λ j. list_any (nat_eq (owner g js j.at)) (src ∷ gather.rank ∷ gather.absorbed))
    (λ j. let is = nat_eq (owner g js j.at) in
    ap (λ (b : Bool). is gather.rank || b) (list_any-append is gather.absorbed (src ∷ [])) ∙ last_first (is gather.rank) (list_any is gather.absorbed) (is src)) js

-- that they have distinct ids together
pub record AreApart (g : Division) (js : List Particle) (gather : Gathering) (src : ℕ) : Type 0 where
  pub all : IsPermutation (particles_of_ranks g js (src ∷ gather.rank ∷ gather.absorbed)) (particles_of g js src ++ before_of g js gather)
  pub distinct_all : HaveDistinctIds (particles_of_ranks g js (src ∷ gather.rank ∷ gather.absorbed))
  pub distinct : HaveDistinctIds (particles_of g js src ++ before_of g js gather)

pub are_apart : RanksHaveTheirOwn → SomeHaveDistinctIds → DistinctIdsIgnoreOrder → (g : Division) (js : List Particle) (gather : Gathering) (src : ℕ) → AreBodies js → IsNewSource g gather src → AreApart g js gather src
are_apart ranks some order g js gather src bodies new =
    let all = ranks g js src (gather.rank ∷ gather.absorbed) new.new in
    let distinct_all = some _ js bodies.distinct in
    record {
      all = all;
      distinct_all = distinct_all;
      distinct = order _ _ all distinct_all;
    }

pub pieces_make_lists : ListsMerge → MergedListsShareCells → ListsIgnoreOrder → RanksHaveTheirOwn → OneRankHasItsOwn → SomeHaveDistinctIds → DistinctIdsIgnoreOrder → PiecesMakeLists
pieces_make_lists merge share ignore ranks one some order t g js gather src group bodies new =
    let apart = are_apart ranks some order g js gather src bodies new in
    let own = particles_of g js src in
    let before = before_of g js gather in
    let box = group.around in
    let source : limited_list t box g js (src ∷ []) ≡ list_of t box own = ap (list_of t box) (one g js src) in
    let after : limited_list t box g js (gather.rank ∷ (gather.absorbed ++ src ∷ [])) ≡ list_of t box (own ++ before) =
    ap (list_of t box) (source_last g js gather src) ∙ ignore t box _ _ apart.distinct_all apart.all in
    let shared = share t box own before apart.distinct in
    let sum = ap (λ (es : List Entry). common_count es (list_of t box before)) source in
    let source_long = ap length source in
    let after_long = ap length after in (
      ap (λ (es : List Entry). merged es (list_of t box before)) source ∙ sym (merge t box own before apart.distinct) ∙ sym after,
      omega arith,
    )

-- an entry stands for some of the particles
entry_is_few : (t : Criterion) (box : Bounds) (js : List Particle) (j : Particle) (o : Option ℕ) → Contains js j → entry_count (entry_at t box js j o) ≤ length js
entry_is_few t box js j None h = (let within : h.0 < length js = h.1 in omega (arith, counted_by (j ∷ [])))
entry_is_few t box js j (Some level) h =
    let test = leads_to_cell t box (cell_at j.at level) in
    omega (arith, counted_by (filter test js), length-filter-le test js)

few_pair : (e f : Entry) (a b : ℕ) → entry_count e ≤ a → entry_count f ≤ b → a + b ≤ 65536 → AreFewTogether e f
few_pair (Cell c m) (Cell d n) a b h k few = omega arith
few_pair (Cell c m) (One q) a b h k few = tt
few_pair (One p) f a b h k few = tt

pub pieces_are_in_order : ListsHoldTheirEntries → ListsAreShort → RanksHaveTheirOwn → OneRankHasItsOwn → SomeHaveDistinctIds → DistinctIdsIgnoreOrder → PiecesAreInOrder
pieces_are_in_order laws short ranks one some order t g js gather src group bodies new =
    let apart = are_apart ranks some order g js gather src bodies new in
    let box = group.around in
    let own = particles_of_ranks g js (src ∷ []) in
    let before = before_of g js gather in
    let pieces = (laws t box own (list_of t box own) (some _ js bodies.distinct)).1 refl in
    let list = (laws t box before (list_of t box before) (some _ js bodies.distinct)).1 refl in
    let own_long : length own ≤ length js = length-filter-le _ js in
    let before_long : length before ≤ length js = length-filter-le _ js in
    let all_long : length (particles_of_ranks g js (src ∷ gather.rank ∷ gather.absorbed)) ≤ length js = length-filter-le _ js in
    let both = length_permutation _ _ apart.all in
    let sum = length-append (particles_of g js src) before in
    let is_own = ap length (one g js src) in
    let few = bodies.few in
    let together : length own + length before ≤ 65536 = omega arith in (
      pieces.ordered,
      list.ordered,
      λ e f i k.
          let p = pieces.sound e i in
          let q = list.sound f k in
          few_pair e f (length own) (length before)
          (subst (λ (v : Entry). entry_count v ≤ length own) (sym p.2) (entry_is_few t box own p.0 (level_of t box p.0.at) p.1))
          (subst (λ (v : Entry). entry_count v ≤ length before) (sym q.2) (entry_is_few t box before q.0 (level_of t box q.0.at) q.1)) together,
      (let long = short t box own in omega arith),
      (let long = short t box before in omega arith),
    )
