-- What the ranks have from phase to phase.
use Rattle.std.proofs.Common.{◌≡◌, ℕ, ◌<◌, ◌≤◌, List, [], ◌∷◌, length, get_or, map, nat_eq, Some, Result, Ok, Err, sym, ◌∙◌, ap, subst, arith}
use Rattle.std.specs.Prelude.{IfOk, IfSome, Vec}
use Rattle.std.specs.Global.{Global}
use Rattle.std.specs.List.{All, zip}
use Rattle.std.proofs.lemmas.List.{length-map, get_or-map}
use Rattle.std.proofs.lemmas.List.Sorted.{IsPermutation-sym, length_permutation}
use Rattle.std.proofs.lemmas.List.Sums.{count_by-le-length, length-filter}
use Rattle.pf_model.specs.declared.limits.TheConstants.{MOST_PARTICLES}
use Rattle.pf_model.specs.Criterion.{Criterion}
use Rattle.pf_model.specs.Division.{Division, rank_count}
use Rattle.pf_model.specs.Domains.{owner, particles_of}
use Rattle.pf_model.specs.Particle.{Particle}
use Rattle.pf_model.specs.Particles.{AreBodies}
use Rattle.morton_tree.specs.declared.group.Group.{Group}
use Rattle.morton_tree.specs.Groups.{IsGroup}
use Rattle.group_lists.specs.Gathering.{Gathering, IsGroupOf}
use Rattle.let_inbox.specs.declared.inbox.Inbox.{Inbox}
use Rattle.let_inbox.specs.declared.tokens.Spent.{Spent}
use Rattle.all_to_all.specs.declared.post.Post.{Post}
use Rattle.essential_tree.specs.declared.tree_parcel.TreeParcel.{TreeParcel}
use Rattle.tree_phase.specs.declared.arrivals.Arrivals.{Arrivals}
use Rattle.tree_phase.specs.declared.gathering.Receiver.{Receiver}
use Rattle.tree_phase.specs.declared.growing.Grower.{Grower}
use Rattle.tree_phase.specs.declared.rank_tree.RankTree.{RankTree}
use Rattle.tree_phase.specs.Exchange.{HasSent, HasGrown, CanAllSettle, Waits, EndsWith, HasEnded, waiting, received}
use Rattle.tree_phase.specs.Trees.{EachByRank, AreArrivals, AreGathersOver, AreGroupsOf, AreRankTrees, AreTreesOf, HaveGathered, HaveSentAll, IsRankTree, IsTreeOf}
use Rattle.tree_phase.proofs.ZipLemmas.{length_zipped, zipped_at}

pub if_both : {A E : Type 0} (r : Result A E) (P Q S : A → Type 0) → ((a : A) → P a → Q a → S a) → IfOk r P → IfOk r Q → IfOk r S
if_both (Ok a) P Q S both p q = both a p q
if_both (Err e) P Q S both p q = tt

some_of : {X : Type 0} (xs : List X) (k : ℕ) → k < length xs → X
some_of [] k within = absurd (omega arith)
some_of (x ∷ xs) k within = x

-- ---- trees

-- a group of a rank's particles, as gathers want it
group_of_tree : (limit : ℕ) (built : List Particle) (groups : List Group) → All (IsGroup limit built) groups → All (IsGroupOf built) groups
group_of_tree limit built groups each k d within = (let group = each k d within in record { some = group.some; inside = group.inside; around = group.around })

module _ (g : Division) (js : List Particle) (bodies : AreBodies js) where
  few_owned : (rank : ℕ) → length (particles_of g js rank) ≤ MOST_PARTICLES
  few_owned rank =
      let test = λ (j : Particle). nat_eq (owner g js j.at) rank in
      let kept = length-filter test js in
      let fewer = count_by-le-length test js in
      let few = bodies.few in
      omega arith

  rank_tree : (limit rank : ℕ) (r : RankTree) → IsTreeOf limit (particles_of g js rank) r → IsRankTree g js rank r
  rank_tree limit rank r tree =
      let own = tree.groups.same in
      record {
        unmoved = tree.unmoved;
        own = IsPermutation-sym (particles_of g js rank) r.tree.built own;
        few =
            (let few = tree.few in
            let same = length_permutation (particles_of g js rank) r.tree.built own in
            let fewer = few_owned rank in
            omega arith);
        groups = group_of_tree limit r.tree.built r.groups.items tree.groups.each;
      }

  pub rank_trees : (limit : ℕ) (trees : List RankTree) → AreTreesOf limit g js trees → AreRankTrees g js trees
  rank_trees limit trees are = record { counted = are.counted; each = λ rank r within. rank_tree limit rank (get_or trees rank r) (are.each rank r within) }

pub have_gathered : (limit : ℕ) (g : Division) (js : List Particle) (trees : List RankTree) (gathers : List Gathering) → AreTreesOf limit g js trees → AreGathersOver g trees gathers → HaveGathered limit g js gathers
have_gathered limit g js trees gathers are all = record {
  counted = all.counted;
  each = λ rank d within.
      (let here : rank < length trees = (let same = all.counted in let long = are.counted in omega arith) in
      let tree = get_or trees rank (some_of trees rank here) in
      let value = all.each rank d within (some_of trees rank here) in
      let of = are.each rank (some_of trees rank here) here in
      record {
        number = ap (λ (v : Gathering). v.rank) value;
        absorbed = ap (λ (v : Gathering). v.absorbed) value;
        groups = subst (λ (v : Gathering). AreGroupsOf limit (particles_of g js rank) v.own v.groups) (sym value) of.groups;
      });
}

module _ (X : Type 0) (t : Criterion) (g : Division) (js : List Particle) where
  -- ---- ranks that have grown their trees

  module _ (limit : ℕ) (inboxes : List (Inbox (TreeParcel X))) (growers : List (Grower X)) (posts : List (Post (TreeParcel X))) (trees : List RankTree)
      (counted : length growers ≡ rank_count g)
      (each : EachByRank (λ rank x. IfSome x.tree (HasGrown t g js limit inboxes rank x.post)) growers)
      (of_posts : posts ≡ map (λ x. x.post) growers) (of_trees : map (λ r. Some r) trees ≡ map (λ x. x.tree) growers) where
    pub grown_posts_counted : length posts ≡ rank_count g
    grown_posts_counted = ap length of_posts ∙ length-map growers (λ x. x.post) ∙ counted

    trees_counted : length trees ≡ length growers
    trees_counted = sym (length-map trees (λ r. Some r)) ∙ ap length of_trees ∙ length-map growers (λ x. x.tree)

    grown_at : (rank : ℕ) (p : Post (TreeParcel X)) (r : RankTree) → rank < length growers → HasGrown t g js limit inboxes rank (get_or posts rank p) (get_or trees rank r)
    grown_at rank p r within =
        let long = trees_counted in
        let inside : rank < length trees = omega arith in
        let x = some_of growers rank within in
        let post : get_or posts rank p ≡ (get_or growers rank x).post = ap (λ (l : List (Post (TreeParcel X))). get_or l rank p) of_posts ∙ get_or-map (λ x. x.post) growers rank x p within in
        let tree : Some (get_or trees rank r) ≡ (get_or growers rank x).tree =
        sym (get_or-map (λ r. Some r) trees rank r (Some r) inside) ∙ ap (λ l. get_or l rank (Some r)) of_trees ∙ get_or-map (λ x. x.tree) growers rank x (Some r) within in
        let had : IfSome (Some (get_or trees rank r)) (HasGrown t g js limit inboxes rank (get_or growers rank x).post) =
        subst (λ o. IfSome o (HasGrown t g js limit inboxes rank (get_or growers rank x).post)) (sym tree) (each rank x within) in
        subst (λ (q : Post (TreeParcel X)). HasGrown t g js limit inboxes rank q (get_or trees rank r)) (sym post) had

    pub grown_sent : EachByRank (HasSent t g js inboxes) posts
    grown_sent rank p within =
        let long = grown_posts_counted in
        let inside : rank < length growers = (let same = counted in omega arith) in
        let many = trees_counted in
        (grown_at rank p (some_of trees rank (omega arith)) inside).post

    pub grown_trees : AreTreesOf limit g js trees
    grown_trees = record {
      counted = trees_counted ∙ counted;
      each = λ rank r within.
          (let many = trees_counted in
          let long = grown_posts_counted in
          let inside : rank < length growers = omega arith in
          let here : rank < length posts = (let same = counted in omega arith) in
          (grown_at rank (some_of posts rank here) r inside).tree);
    }

    pub grown_kept : EachByRank (HaveSentAll t g js) trees
    grown_kept rank r within =
        let many = trees_counted in
        let long = grown_posts_counted in
        let inside : rank < length growers = omega arith in
        let here : rank < length posts = (let same = counted in omega arith) in
        (grown_at rank (some_of posts rank here) r inside).kept

  -- ---- ranks that wait

  pub receivers_wait : (inboxes : List (Inbox (TreeParcel X))) (posts : List (Post (TreeParcel X))) (tokens : List (Vec (Spent (TreeParcel X)) Global)) → length posts ≡ length tokens → CanAllSettle t g js inboxes posts tokens → EachByRank (Waits t g js inboxes) (map waiting (zip posts tokens))
  receivers_wait inboxes posts tokens same can rank d within =
      let long = length_zipped (waiting {X = X}) posts tokens same in
      let inside : rank < length posts = omega arith in
      let there : rank < length tokens = omega arith in
      let p = some_of posts rank inside in
      let s = some_of tokens rank there in
      subst (Waits t g js inboxes rank) (sym (zipped_at (waiting {X = X}) posts tokens rank d p s same inside)) (can.each rank p s inside)

-- ---- ranks that have received

module _ (X : Type 0) (g : Division) (trees : List RankTree) (receivers : List (Receiver X)) (gathers : List Gathering) (arrivals : List Arrivals)
    (full : length trees ≡ rank_count g) (counted : length receivers ≡ rank_count g)
    (each : EachByRank (HasEnded g trees) receivers)
    (of : map received (zip gathers arrivals) ≡ receivers) (same : length gathers ≡ length arrivals) where
  gathers_counted : length gathers ≡ rank_count g
  gathers_counted = sym (length_zipped (received {X = X}) gathers arrivals same) ∙ ap length of ∙ counted

  ended_at : (r : RankTree) (rank : ℕ) (v : Gathering) (a : Arrivals) → rank < length gathers → EndsWith {X = X} g rank (get_or trees rank r) (received (get_or gathers rank v, get_or arrivals rank a))
  ended_at r rank v a within =
      let long = gathers_counted in
      let inside : rank < length receivers = (let all = counted in omega arith) in
      let x = some_of receivers rank inside in
      subst (EndsWith {X = X} g rank (get_or trees rank r))
      (ap (λ (l : List (Receiver X)). get_or l rank x) (sym of) ∙ zipped_at (received {X = X}) gathers arrivals rank x v a same within)
      ((each rank x inside).ends r)

  pub gathers_over : AreGathersOver g trees gathers
  gathers_over = record {
    counted = gathers_counted;
    each = λ rank v within r. (ended_at r rank v (some_of arrivals rank (omega (arith, same))) within).0;
  }

  pub arrivals_are : AreArrivals (rank_count g) arrivals
  arrivals_are = record {
    counted = sym same ∙ gathers_counted;
    each = λ rank a within.
        (let long = gathers_counted in
        let inside : rank < length gathers = (let e = same in omega arith) in
        let there : rank < length trees = (let e = full in omega arith) in
        (ended_at (some_of trees rank there) rank (some_of gathers rank inside) a inside).1);
  }
