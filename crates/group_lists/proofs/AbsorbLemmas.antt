-- The lists of groups while the pieces of one source are put into them, group after group.
use Rattle.std.proofs.Common.{◌≡◌, ℕ, suc, ◌+◌, ◌*◌, ◌^◌, ◌<◌, ◌≤◌, Bool, true, false, List, [], ◌∷◌, ◌++◌, length, get_or, set, map, take, drop, inl, inr, refl, sym, ◌∙◌, ap, subst, arith}
use Rattle.std.specs.List.{sum_by, All, count_by, list_any}
use Rattle.std.specs.List.Sorted.{IsPermutation}
use Rattle.std.proofs.lemmas.Bool.{cases_lt, cases_eq}
use Rattle.std.proofs.lemmas.List.{length-map, length-set, get_or-map, map-set, set-get_or, get_or-set_same, get_or-set_other, take_all, drop_all, append-nil, map-append}
use Rattle.std.proofs.lemmas.List.Elements.{All-nil, All-push}
use Rattle.std.proofs.lemmas.List.Sums.{sum_by-cons, sum_by_more, sum_by-drop_more, sum_by-set, sum_by-le, count_by-le-length}
use Rattle.pf_model.specs.declared.entry.Entry.{Entry}
use Rattle.pf_model.specs.Particle.{Particle, IsParticle}
use Rattle.pf_model.specs.Particles.{AreBodies}
use Rattle.pf_model.specs.Criterion.{Criterion}
use Rattle.pf_model.specs.Division.{Division, IsDivision}
use Rattle.pf_model.specs.Domains.{particles_of}
use Rattle.pf_model.specs.Interaction.{IsInListOrder}
use Rattle.pf_model.specs.Merging.{merged, is_level, common_count}
use Rattle.pf_model.specs.EssentialTree.{Essential}
use Rattle.morton_tree.specs.declared.group.Group.{Group}
use Rattle.morton_tree.specs.Tree.{IsInKeyOrder}
use Rattle.group_lists.specs.declared.listed.Listed.{Listed}
use Rattle.group_lists.specs.Gathering.{Gathering, gathering_of, own_gathering, with_source, IsNewSource, IsGroupOf, IsSentTo, CanAbsorb, IsGathered}
use Rattle.group_lists.specs.Gathering.{partial_list, source_list}
use Rattle.group_lists.specs.Keyed.{IsServed}
use Rattle.group_lists.specs.Pieces.{HaveFewMembers, is_occupied, common_with}
use Rattle.group_lists.specs.PieceLaws.{PiecesMakeLists, PiecesAreInOrder, CommonPiecesAreOccupied, GroupsAreServed}

abbrev pub entries_of : Listed → List Entry
entries_of l = l.entries.items

abbrev pub group_of : Listed → Group
group_of l = l.group

-- f gives the list of a group as it was, and h as it is with the pieces: the first k groups have theirs, the others
-- still what they had, as far as lists are kept
pub record AreGrown (f h : Group → List Entry) (groups : List Group) (before k : ℕ) (listed : List Listed) (count : ℕ) : Type 0 where
  pub same : map group_of listed ≡ groups
  pub counted : count ≡ sum_by (λ g. length (h g)) (take k groups) + sum_by (λ g. length (f g)) (drop k groups)
  pub more : before ≤ count
  pub few : count ≤ 2 ^ 32 + k * 65536
  pub done : count ≤ 2 ^ 24 → (i : ℕ) (l : Listed) → i < k → get_or listed i l ≡ l → entries_of l ≡ h l.group
  pub left : before ≤ 2 ^ 24 → (i : ℕ) (l : Listed) → k ≤ i → i < length listed → get_or listed i l ≡ l → entries_of l ≡ f l.group
  pub stored : count ≤ 2 ^ 24 → sum_by length (map entries_of listed) ≡ count
  pub bounded : sum_by length (map entries_of listed) ≤ 2 ^ 24

sum_same : (f : Group → List Entry) (groups : List Group) → sum_by length (map f groups) ≡ sum_by (λ g. length (f g)) groups
sum_same f [] = refl
sum_same f (g ∷ gs) = sum_by-cons length (f g) (map f gs) ∙ ap (λ (n : ℕ). length (f g) + n) (sum_same f gs) ∙ sym (sum_by-cons (λ (d : Group). length (f d)) g gs)

-- before the first
pub grown_none : (f h : Group → List Entry) (listed : List Listed) (count : ℕ) → length listed ≤ 65536 → All (λ g. length (f g) ≤ 65536) (map group_of listed) →
    count ≡ sum_by (λ g. length (f g)) (map group_of listed) → (count ≤ 2 ^ 24 → map entries_of listed ≡ map f (map group_of listed)) → sum_by length (map entries_of listed) ≤ 2 ^ 24 → AreGrown f h (map group_of listed) count 0 listed count
grown_none f h listed count few short counted kept bounded =
    let groups = map group_of listed in
    let most = sum_by-le (λ (g : Group). length (f g)) 65536 groups short in
    let long = length-map listed group_of in
    record {
      same = refl;
      counted = omega (arith, counted);
      more = omega arith;
      few = omega (arith, counted, most);
      done = λ small i l less at. absurd (omega arith);
      left = λ small i l least within at.
          let inside : i < length groups = omega arith in
          let mine = sym (get_or-map entries_of listed i l [] within ∙ ap entries_of at) in
          let other = get_or-map f groups i l.group [] inside ∙ ap f (get_or-map group_of listed i l l.group within ∙ ap group_of at) in
          mine ∙ ap (λ (es : List (List Entry)). get_or es i []) (kept small) ∙ other;
      stored = λ small. ap (sum_by length) (kept small) ∙ sum_same f groups ∙ sym counted;
      bounded = bounded;
    }

-- one group more
pub record IsGrown (f h : Group → List Entry) (before count n : ℕ) (one next : Listed) : Type 0 where
  pub group : next.group ≡ one.group
  pub more : count ≤ n
  pub less : n ≤ count + 65536
  pub counted : n + length (f one.group) ≡ count + length (h one.group)
  pub kept : before ≤ 2 ^ 24 → n ≤ 2 ^ 24 → entries_of next ≡ h one.group
  pub dropped : 2 ^ 24 < n → entries_of next ≡ []

module _ (f h : Group → List Entry) (groups : List Group) (before k : ℕ) (listed : List Listed) (count : ℕ) (all : AreGrown f h groups before k listed count)
    (n : ℕ) (one next : Listed) (within : k < length listed) (at : one ≡ get_or listed k one) (step : IsGrown f h before count n one next) where
  is_group : get_or groups k one.group ≡ one.group
  is_group = ap (λ (gs : List Group). get_or gs k one.group) (sym all.same) ∙ get_or-map group_of listed k one one.group within ∙ ap group_of (sym at)

  same_groups : map group_of (set listed k next) ≡ groups
  same_groups =
      map-set group_of listed k next ∙ (λ i. set (all.same i) k (step.group i)) ∙ ap (set groups k) (sym is_group) ∙ set-get_or groups k one.group

  k_within : k < length groups
  k_within = let long = length-map listed group_of in let same = ap length all.same in omega arith

  counted_more : n ≡ sum_by (λ g. length (h g)) (take (k + 1) groups) + sum_by (λ g. length (f g)) (drop (k + 1) groups)
  counted_more =
      let up = sum_by_more (λ (g : Group). length (h g)) groups k one.group k_within in
      let down = sum_by-drop_more (λ (g : Group). length (f g)) groups k one.group k_within in
      let h_is = ap (λ (g : Group). length (h g)) is_group in
      let f_is = ap (λ (g : Group). length (f g)) is_group in
      let was = all.counted in
      let now = step.counted in
      omega arith

  stored_change : sum_by length (map entries_of (set listed k next)) + length (entries_of one) ≡ sum_by length (map entries_of listed) + length (entries_of next)
  stored_change =
      let inside : k < length (map entries_of listed) = rw length-map within in
      let there : get_or (map entries_of listed) k [] ≡ entries_of one = get_or-map entries_of listed k one [] within ∙ ap entries_of (sym at) in
      let change = sum_by-set length (map entries_of listed) k (entries_of next) [] inside in
      let set_is = ap (sum_by length) (map-set entries_of listed k next) in
      let there_long = ap length there in
      omega arith

  pub grown_more : AreGrown f h groups before (k + 1) (set listed k next) n
  grown_more =
      let more = step.more in
      let was_more = all.more in
      let counted = step.counted in
      let change = stored_change in
      record {
        same = same_groups;
        counted = counted_more;
        more = omega arith;
        few = (let few = all.few in let less = step.less in omega arith);
        done = λ small i l less there. elim (cases_eq i k) [
          | inl same ↦
              let is_next : l ≡ next = sym there ∙ ap (λ (m : ℕ). get_or (set listed k next) m l) same ∙ get_or-set_same listed k next l within in
              ap entries_of is_next ∙ step.kept (omega arith) small ∙ ap h (sym step.group ∙ ap group_of (sym is_next))
          | inr other ↦ all.done (omega arith) i l (omega arith) (sym (get_or-set_other listed k i next l other) ∙ there)
        ];
        left = λ small i l least inside there.
            let other : i ≡ k → ⊥ = λ e. omega arith in
            let long = length-set listed k next in
            all.left small i l (omega arith) (omega arith) (sym (get_or-set_other listed k i next l other) ∙ there);
        stored = λ small.
            let was = all.stored (omega arith) in
            let mine = ap length (all.left (omega arith) k one (omega arith) within (sym at)) in
            let new = ap length (step.kept (omega arith) small) in
            omega arith;
        bounded = elim (cases_lt (2 ^ 24) n) [
          | inl past ↦ (let none = ap length (step.dropped past) in let was = all.bounded in omega arith)
          | inr small ↦
              let was = all.stored (omega arith) in
              let mine = ap length (all.left (omega arith) k one (omega arith) within (sym at)) in
              let new = ap length (step.kept (omega arith) small) in
              omega arith
        ];
      }

map_entries : (h : Group → List Entry) (listed : List Listed) → ((i : ℕ) (l : Listed) → i < length listed → get_or listed i l ≡ l → entries_of l ≡ h l.group) → map entries_of listed ≡ map h (map group_of listed)
map_entries h [] each = refl
map_entries h (l ∷ ls) each =
    let rest = map_entries h ls (λ k m within at. each (suc k) m (omega arith) at) in
    λ i. each 0 l (omega arith) refl i ∷ rest i

-- after the last
pub grown_all : (f h : Group → List Entry) (groups : List Group) (before k : ℕ) (listed : List Listed) (count : ℕ) → AreGrown f h groups before k listed count → length listed ≤ k →
    (count ≡ sum_by (λ g. length (h g)) groups) × (count ≤ 2 ^ 24 → map entries_of listed ≡ map h groups)
grown_all f h groups before k listed count all end =
    let long = length-map listed group_of in
    let same = ap length all.same in
    let done : length groups ≤ k = omega arith in
    let was = all.counted in
    let up = ap (sum_by (λ (g : Group). length (h g))) (take_all k groups done) in
    let down = ap (sum_by (λ (g : Group). length (f g))) (drop_all k groups done) in (
      omega arith,
      λ small. map_entries h listed (λ i l within at. all.done small i l (omega arith) at) ∙ ap (map h) all.same,
    )

-- how many pieces a list has in common with what was gathered, whether it is kept or not
pub common_is : (own : List Particle) (trees : List Essential) (few : Bool) (pieces entries before : List Entry) → (few ≡ true → entries ≡ before) → count_by (is_occupied own trees) pieces ≡ common_count pieces before → common_with own trees few pieces entries ≡ common_count pieces before
common_is own trees true pieces entries before kept occupied = ap (common_count pieces) (kept refl)
common_is own trees false pieces entries before kept occupied = occupied

-- the groups of listed ones are served
pub served_at : GroupsAreServed → (g : Division) (js : List Particle) (gather : Gathering) → IsDivision g → All IsParticle js → IsPermutation gather.own (particles_of g js gather.rank) → All (IsGroupOf gather.own) gather.groups →
    (listed : List Listed) (k : ℕ) (one : Listed) → map group_of listed ≡ gather.groups → k < length listed → one ≡ get_or listed k one → IsServed g js gather.rank one.group.around
served_at served g js gather division particles own of_own listed k one same within at =
    let groups = gather.groups in
    let long = length-map listed group_of in
    let same_long = ap length same in
    let inside : k < length groups = omega arith in
    let is : get_or groups k one.group ≡ one.group = ap (λ (gs : List Group). get_or gs k one.group) (sym same) ∙ get_or-map group_of listed k one one.group within ∙ ap group_of (sym at) in
    served g js gather one.group division particles own (subst (IsGroupOf gather.own) is (of_own k one.group inside))

-- the step of one group
module _ (makes : PiecesMakeLists) (ordered : PiecesAreInOrder) (occupied : CommonPiecesAreOccupied) (t : Criterion) (g : Division) (js : List Particle) (gather : Gathering) (src : ℕ)
    (bodies : AreBodies js) (new : IsNewSource g gather src) where
  abbrev list_before : Group → List Entry
  list_before = partial_list t g js gather

  abbrev list_after : Group → List Entry
  list_after = partial_list t g js (with_source gather src)

  pub order_kept : (groups : List Group) (before k : ℕ) (listed : List Listed) (count : ℕ) (one : Listed) (pieces : List Entry) (few : Bool) → AreGrown list_before list_after groups before k listed count →
      k < length listed → one ≡ get_or listed k one → (few ≡ true → before ≤ 2 ^ 24) → pieces ≡ source_list t g js src one.group → few ≡ true → IsInListOrder (entries_of one) × HaveFewMembers pieces (entries_of one)
  order_kept groups before k listed count one pieces few all within at small pieces_are e =
      let is : entries_of one ≡ list_before one.group = all.left (small e) k one (omega arith) within (sym at) in
      let order = ordered t g js gather src one.group bodies new in (
        subst IsInListOrder (sym is) order.1,
        subst (λ (es : List Entry). HaveFewMembers es (entries_of one)) (sym pieces_are) (subst (λ (es : List Entry). HaveFewMembers (source_list t g js src one.group) es) (sym is) order.2),
      )

  pub grown_step : (theta : Criterion) (trees : List Essential) → IsPermutation gather.own (particles_of g js gather.rank) → CanAbsorb t g js gather theta trees →
      (groups : List Group) (before k : ℕ) (listed : List Listed) (count n : ℕ) (one next : Listed) (pieces : List Entry) (few : Bool) → AreGrown list_before list_after groups before k listed count →
      IsServed g js gather.rank one.group.around → k < length listed → one ≡ get_or listed k one → (few ≡ true → before ≤ 2 ^ 24) → (before ≤ 2 ^ 24 → few ≡ true) → pieces ≡ source_list t g js src one.group →
      next.group ≡ one.group → n + common_with gather.own trees few pieces (entries_of one) ≡ count + length pieces →
      (few ≡ true → n ≤ 2 ^ 24 → entries_of next ≡ merged pieces (entries_of one)) → (2 ^ 24 < n → entries_of next ≡ []) → IsGrown list_before list_after before count n one next
  grown_step theta trees own absorbs groups before k listed count n one next pieces few all served within at small is_few pieces_are group counted kept dropped =
      let s = source_list t g js src one.group in
      let f = list_before one.group in
      let h = list_after one.group in
      let is : few ≡ true → entries_of one ≡ f = λ e. all.left (small e) k one (omega arith) within (sym at) in
      let occupied_is = occupied t g js gather src one.group theta trees bodies new own absorbs served in
      let common : common_with gather.own trees few s (entries_of one) ≡ common_count s f = common_is gather.own trees few s (entries_of one) f is occupied_is in
      let sum : n + common_with gather.own trees few s (entries_of one) ≡ count + length s = subst (λ (ps : List Entry). n + common_with gather.own trees few ps (entries_of one) ≡ count + length ps) pieces_are counted in
      let make = makes t g js gather src one.group bodies new in
      let long = make.1 in
      let short = (ordered t g js gather src one.group bodies new).3 in
      let most = count_by-le-length (λ (e : Entry). list_any (is_level e) f) s in
      record {
        group = group;
        more = omega arith;
        less = omega arith;
        counted = omega arith;
        kept = λ small_before small_now. kept (is_few small_before) small_now ∙ (λ i. merged (pieces_are i) (is (is_few small_before) i)) ∙ make.0;
        dropped = dropped;
      }

-- the lists before are short
pub shorts_all : PiecesAreInOrder → (t : Criterion) (g : Division) (js : List Particle) (gather : Gathering) (src : ℕ) → AreBodies js → IsNewSource g gather src → (groups : List Group) → All (λ group. length (partial_list t g js gather group) ≤ 65536) groups
shorts_all ordered t g js gather src bodies new groups k d within = (ordered t g js gather src (get_or groups k d) bodies new).4

-- the tests so far
pub tests_more : (t : Criterion) (g : Division) (js : List Particle) (src : ℕ) (groups : List Group) (k : ℕ) (listed : List Listed) (one : Listed) (first from to : ℕ) (pieces : List Entry) → map group_of listed ≡ groups → k < length listed → one ≡ get_or listed k one →
    from ≤ first + 31 * sum_by (λ group. length (source_list t g js src group)) (take k groups) → pieces ≡ source_list t g js src one.group → to ≤ from + 31 * length pieces →
    to ≤ first + 31 * sum_by (λ group. length (source_list t g js src group)) (take (k + 1) groups)
tests_more t g js src groups k listed one first from to pieces same within at so_far pieces_are more =
    let long = length-map listed group_of in
    let same_long = ap length same in
    let inside : k < length groups = omega arith in
    let is : get_or groups k one.group ≡ one.group = ap (λ (gs : List Group). get_or gs k one.group) (sym same) ∙ get_or-map group_of listed k one one.group within ∙ ap group_of (sym at) in
    let sum = sum_by_more (λ (group : Group). length (source_list t g js src group)) groups k one.group inside in
    let here = ap (λ (group : Group). length (source_list t g js src group)) is in
    let found = ap length pieces_are in
    omega arith

pub tests_all : (t : Criterion) (g : Division) (js : List Particle) (src : ℕ) (groups : List Group) (k first to : ℕ) → length groups ≤ k → to ≤ first + 31 * sum_by (λ group. length (source_list t g js src group)) (take k groups) →
    to ≤ first + 31 * sum_by (λ group. length (source_list t g js src group)) groups
tests_all t g js src groups k first to done so_far = let all = ap (sum_by (λ (group : Group). length (source_list t g js src group))) (take_all k groups done) in omega arith

-- a list of which all was written over
whole_again : {X : Type 0} (old new : List X) (len : ℕ) → len ≡ length old → length new ≡ length old → take len (new ++ drop (length new) old) ≡ new
whole_again old new len is same =
    ap (λ (l : List _). take len (new ++ l)) (drop_all (length new) old (omega arith)) ∙ ap (take len) (append-nil new) ∙ take_all len new (omega arith)

-- what a gather keeps once it has absorbed a tree
pub absorbed_all : (t : Criterion) (g : Division) (js : List Particle) (rank : ℕ) (own : List Particle) (old new : List Listed) (len : ℕ) (trees pushed : List Essential) (tree : Essential) (count : ℕ) (theta : Criterion) →
    len ≡ length old → map group_of new ≡ map group_of old → IsGathered t g js (with_source (gathering_of tree.dst own (map group_of old) trees) tree.src) (map entries_of new) count →
    CanAbsorb t g js (gathering_of rank own (map group_of old) trees) theta trees → IsSentTo t g js rank tree → pushed ≡ trees ++ tree ∷ [] →
    IsGathered t g js (gathering_of rank own (map group_of (take len (new ++ drop (length new) old))) pushed) (map entries_of (take len (new ++ drop (length new) old))) count
    × CanAbsorb t g js (gathering_of rank own (map group_of (take len (new ++ drop (length new) old))) pushed) theta pushed
absorbed_all t g js rank own old new len trees pushed tree count theta len_is same gathered absorbs sent pushed_are =
    let src_of : Essential → ℕ = λ s. s.src in
    let same_long : length new ≡ length old = sym (length-map new group_of) ∙ ap length same ∙ length-map old group_of in
    let whole = whole_again old new len len_is same_long in
    let groups = ap (map group_of) whole ∙ same in
    let sources : map src_of pushed ≡ map src_of trees ++ tree.src ∷ [] = ap (map src_of) pushed_are ∙ map-append src_of trees (tree ∷ []) in
    let gather : gathering_of rank own (map group_of (take len (new ++ drop (length new) old))) pushed ≡ with_source (gathering_of tree.dst own (map group_of old) trees) tree.src =
    λ i. record { rank = sym sent.here i; own = own; groups = groups i; absorbed = sources i } in (
      subst (λ (ga : Gathering). IsGathered t g js ga (map entries_of (take len (new ++ drop (length new) old))) count) (sym gather)
          (subst (λ (ls : List Listed). IsGathered t g js (with_source (gathering_of tree.dst own (map group_of old) trees) tree.src) (map entries_of ls) count) (sym whole) gathered),
      record {
        criterion = absorbs.criterion;
        ordered = absorbs.ordered;
        sources = refl;
        sent = subst (All (IsSentTo t g js rank)) (sym pushed_are) (All-push (IsSentTo t g js rank) trees tree absorbs.sent sent);
      },
    )

-- what a gather keeps before it has absorbed any
pub opened_all : (t : Criterion) (g : Division) (js : List Particle) (rank : ℕ) (own bodies : List Particle) (groups : List Group) (listed : List Listed) (trees : List Essential) (count : ℕ) (theta : Criterion) →
    bodies ≡ own → map group_of listed ≡ groups → trees ≡ [] → theta ≡ t → IsInKeyOrder own → IsGathered t g js (own_gathering rank own groups) (map entries_of listed) count →
    IsGathered t g js (gathering_of rank bodies (map group_of listed) trees) (map entries_of listed) count
    × CanAbsorb t g js (gathering_of rank bodies (map group_of listed) trees) theta trees
opened_all t g js rank own bodies groups listed trees count theta bodies_are groups_are none criterion order gathered =
    let src_of : Essential → ℕ = λ s. s.src in
    let gather : gathering_of rank bodies (map group_of listed) trees ≡ own_gathering rank own groups = λ i. gathering_of rank (bodies_are i) (groups_are i) (none i) in (
      subst (λ (ga : Gathering). IsGathered t g js ga (map entries_of listed) count) (sym gather) gathered,
      record {
        criterion = criterion;
        ordered = subst IsInKeyOrder (sym bodies_are) order;
        sources = refl;
        sent = subst (All (IsSentTo t g js rank)) (sym none) (All-nil (IsSentTo t g js rank));
      },
    )
