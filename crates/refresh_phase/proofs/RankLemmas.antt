-- The ranks of a build from phase to phase.
use Rattle.std.proofs.Common.{◌≡◌, ℕ, ◌<◌, false, List, [], ◌∷◌, ◌++◌, length, get_or, map, Option, Some, Vec, Global, refl, sym, ◌∙◌, ap, subst, arith}
use Rattle.std.specs.Prelude.{IfSome}
use Rattle.std.specs.List.{zip}
use Rattle.std.proofs.lemmas.List.{length-map, get_or-map, map-append, same_lists}
use Rattle.std.proofs.lemmas.List.Elements.{All-push}
use Rattle.pf_model.specs.Criterion.{Criterion}
use Rattle.pf_model.specs.Division.{Division, rank_count}
use Rattle.pf_model.specs.Particle.{Particle}
use Rattle.let_inbox.specs.declared.inbox.Inbox.{Inbox}
use Rattle.let_inbox.specs.declared.tokens.Spent.{Spent}
use Rattle.all_to_all.specs.declared.post.Post.{Post}
use Rattle.list_reuse.specs.Refreshing.{Renewal}
use Rattle.morton_tree.specs.Tree.{Octree}
use Rattle.tree_phase.specs.declared.arrivals.Arrivals.{Arrivals}
use Rattle.tree_phase.specs.Trees.{AreArrivals, EachByRank}
use Rattle.refresh_phase.specs.declared.moving.Mover.{Mover}
use Rattle.refresh_phase.specs.declared.renewing.Renewer.{Renewer}
use Rattle.refresh_phase.specs.Exchange.{IsFresh, HasSent, CanAllSettle}
use Rattle.refresh_phase.specs.Kept.{RankKept, IsRankKept, AreKept, seen_from}
use Rattle.refresh_phase.specs.Phases.{mover_of, renewer_of, CanMove, IsMoved, HaveMoved, AreParted, CanSettleRank, IsSettled, HaveSettled, AreRenewed, AreSettled}
use Rattle.refresh_phase.specs.Renewing.{moved_to, IsKeptSince, CanRenew, IsRenewed}
use Rattle.refresh_phase.proofs.PostLemmas.{some_of}
use Rattle.refresh_phase.proofs.ZipLemmas.{length_zip, length_zipped, zip_at, zipped_at}

module _ (t : Criterion) (g : Division) (js now : List Particle) (inboxes : List (Inbox Renewal)) (ranks : List RankKept) (posts : List (Post Renewal)) (long : length ranks ≡ length posts) where
  -- ---- the phase Trees

  pub can_move : EachByRank (IsKeptSince t g js) ranks → EachByRank (IsFresh inboxes) posts → EachByRank (CanMove t g js inboxes) (map mover_of (zip ranks posts))
  can_move kept fresh rank d within =
      let many = length_zipped mover_of ranks posts long in
      let inside : rank < length ranks = omega arith in
      let there : rank < length posts = omega arith in
      subst (CanMove t g js inboxes rank) (sym (zipped_at mover_of ranks posts rank d d.rank d.post long inside))
      (record { post = fresh rank d.post there; kept = kept rank d.rank inside })

  module _ (after : List Mover) (have : HaveMoved t g js now inboxes (map mover_of (zip ranks posts)) after) (moved : List RankKept) (sent : List (Post Renewal))
      (parts : AreParted after moved sent) where
    after_long : length after ≡ length ranks
    after_long = have.all ∙ length_zipped mover_of ranks posts long

    pub sent_counted : length sent ≡ length ranks
    sent_counted = ap length parts.posts_are ∙ length-map after (λ (x : Mover). x.post) ∙ after_long

    is_moved : (rank : ℕ) (x : Mover) (r : RankKept) → rank < length after → IsMoved t g js now inboxes rank (get_or ranks rank r) (get_or after rank x).rank (get_or after rank x).post
    is_moved rank x r within =
        let many = length_zipped mover_of ranks posts long in
        let same = after_long in
        let inside : rank < length ranks = omega arith in
        let before = zipped_at mover_of ranks posts rank x r x.post long inside in
        subst (λ (b : Mover). IsMoved t g js now inboxes rank b.rank (get_or after rank x).rank (get_or after rank x).post) before
        (have.each rank x (omega arith) (parts.found rank x within))

    pub moved_is : moved ≡ map (moved_to now) ranks
    moved_is =
        parts.ranks_are
        ∙ same_lists (map (λ (x : Mover). x.rank) after) (map (moved_to now) ranks) (length-map after (λ (x : Mover). x.rank) ∙ after_long ∙ sym (length-map ranks (moved_to now)))
        (λ k d within.
        let many = length-map after (λ (x : Mover). x.rank) in
        let inside : k < length after = omega arith in
        let same = after_long in
        let x = some_of after k inside in
        get_or-map (λ (x : Mover). x.rank) after k x d inside ∙ (is_moved k x x.rank inside).moved ∙ sym (get_or-map (moved_to now) ranks k x.rank d (omega arith)))

    pub sent_each : EachByRank (HasSent t g js now inboxes) sent
    sent_each rank p within =
        let many = length-map after (λ (x : Mover). x.post) in
        let same = ap length parts.posts_are in
        let inside : rank < length after = omega arith in
        let x = some_of after rank inside in
        subst (HasSent t g js now inboxes rank)
        (sym (ap (λ (l : List (Post Renewal)). get_or l rank p) parts.posts_are ∙ get_or-map (λ (x : Mover). x.post) after rank x p inside))
        (is_moved rank x x.rank inside).sent

-- ---- the phase Gather

module _ (t : Criterion) (g : Division) (js now : List Particle) where
  pub can_renew : (ranks moved : List RankKept) → EachByRank (IsKeptSince t g js) ranks → moved ≡ map (moved_to now) ranks → EachByRank (CanRenew t g js now) moved
  can_renew ranks moved kept are rank d within =
      let same = ap length are in
      let many = length-map ranks (moved_to now) in
      let inside : rank < length ranks = omega arith in
      let was = kept rank d inside in
      subst (CanRenew t g js now rank)
      (sym (ap (λ (l : List RankKept). get_or l rank d) are ∙ get_or-map (moved_to now) ranks rank d d inside))
      (record { before = was.before; lists = was.kept.lists; built_is = was.kept.built; present = refl })

  module _ (inboxes : List (Inbox Renewal)) (ranks : List RankKept) (posts : List (Post Renewal)) (tokens : List (Vec (Spent Renewal) Global))
      (long : length ranks ≡ length posts) (many : length ranks ≡ length tokens) where
    pairs_long : length (zip ranks posts) ≡ length tokens
    pairs_long = length_zip ranks posts long ∙ many

    renewers_long : length (map renewer_of (zip (zip ranks posts) tokens)) ≡ length ranks
    renewers_long = length_zipped renewer_of (zip ranks posts) tokens pairs_long ∙ length_zip ranks posts long

    renewer_at : (rank : ℕ) (d : Renewer) (r : RankKept) → rank < length ranks → get_or (map renewer_of (zip (zip ranks posts) tokens)) rank d ≡ renewer_of ((get_or ranks rank r, get_or posts rank d.post), get_or tokens rank d.tokens)
    renewer_at rank d r within =
        let pairs = length_zip ranks posts long in
        zipped_at renewer_of (zip ranks posts) tokens rank d (r, d.post) d.tokens pairs_long (omega arith)
        ∙ ap (λ (b : RankKept × Post Renewal). renewer_of (b, get_or tokens rank d.tokens)) (zip_at ranks posts rank r d.post long within)

    pub can_settle_ranks : EachByRank (CanRenew t g js now) ranks → CanAllSettle t g js now inboxes posts tokens → EachByRank (CanSettleRank t g js now inboxes) (map renewer_of (zip (zip ranks posts) tokens))
    can_settle_ranks renew settle rank d within =
        let all = renewers_long in
        let inside : rank < length ranks = omega arith in
        subst (CanSettleRank t g js now inboxes rank) (sym (renewer_at rank d d.rank inside))
        (record { settles = settle.each rank d.post d.tokens (omega arith); renews = renew rank d.rank inside })

    pub renewers_counted : length (map renewer_of (zip (zip ranks posts) tokens)) ≡ length ranks
    renewers_counted = renewers_long

    pub all_settled : (after : List Renewer) (renewed : List RankKept) (arrivals : List Arrivals) → HaveSettled t g js now (map renewer_of (zip (zip ranks posts) tokens)) after → AreRenewed after renewed arrivals → AreSettled t g js now ranks renewed arrivals
    all_settled after renewed arrivals have are =
        let all = have.all ∙ renewers_long in
        let kept = ap length are.ranks_are ∙ length-map after (λ (x : Renewer). x.rank) in
        let came : length arrivals ≡ length after = sym (length-map arrivals (λ (a : Arrivals). Some a)) ∙ ap length are.arrivals_are ∙ length-map after (λ (x : Renewer). x.arrivals) in
        record {
          ranks = kept ∙ all;
          all = came ∙ all;
          each = λ rank r s a within.
              (let inside : rank < length after = omega arith in
              let there : rank < length arrivals = omega arith in
              let x = some_of after rank inside in
              let rank_is : get_or renewed rank s ≡ (get_or after rank x).rank = ap (λ (l : List RankKept). get_or l rank s) are.ranks_are ∙ get_or-map (λ (x : Renewer). x.rank) after rank x s inside in
              let arrival : Some (get_or arrivals rank a) ≡ (get_or after rank x).arrivals =
              sym (get_or-map (λ (a : Arrivals). Some a) arrivals rank a (Some a) there) ∙ ap (λ (l : List (Option Arrivals)). get_or l rank (Some a)) are.arrivals_are
              ∙ get_or-map (λ (x : Renewer). x.arrivals) after rank x (Some a) inside in
              let had = have.each rank x (let many = renewers_long in omega arith) in
              let from_rank : IfSome (get_or after rank x).arrivals (IsSettled t g js now rank (get_or ranks rank r) (get_or after rank x).rank) =
              subst (λ (b : Renewer). IfSome (get_or after rank x).arrivals (IsSettled t g js now rank b.rank (get_or after rank x).rank)) (renewer_at rank x r within) had in
              let here : IfSome (Some (get_or arrivals rank a)) (IsSettled t g js now rank (get_or ranks rank r) (get_or after rank x).rank) =
              subst (λ (o : Option Arrivals). IfSome o (IsSettled t g js now rank (get_or ranks rank r) (get_or after rank x).rank)) (sym arrival) from_rank in
              subst (λ (v : RankKept). IsSettled t g js now rank (get_or ranks rank r) v (get_or arrivals rank a)) (sym rank_is) here);
        }

  -- ---- both phases

  renewed_kept : (limit rank : ℕ) (before : List Particle) (r moved after : RankKept) → IsRankKept limit (seen_from t g js before rank) r → moved ≡ moved_to now r → IsRenewed (seen_from t g js now rank) moved after → IsRankKept limit (seen_from t g js now rank) after
  renewed_kept limit rank before r moved after kept is new =
      let tree : after.tree ≡ (moved_to now r).tree = new.tree ∙ ap (λ (v : RankKept). v.tree) is in
      let built : after.tree.built ≡ r.tree.built = ap (λ (v : Octree). v.built) tree in
      let same : after ≡ record after { tree = (moved_to now r).tree; sent = r.sent; line = r.line } =
      (λ i. record after { tree = tree i; sent = (new.sent ∙ ap (λ (v : RankKept). v.sent) is) i; line = (new.line ∙ ap (λ (v : RankKept). v.line) is) i }) in
      subst (IsRankKept limit (seen_from t g js now rank)) (sym same)
      (record {
        groups = kept.groups;
        present = refl;
        sent = kept.sent;
        lists = new.lists;
        built = new.built ∙ ap (λ (v : RankKept). v.lists.built) is ∙ kept.built;
        spans = new.spans ∙ ap (λ (v : RankKept). map (λ l. l.span) v.lists.groups) is ∙ kept.spans;
        line = kept.line;
      })

  pub all_kept : (limit : ℕ) (before : List Particle) (ranks moved renewed : List RankKept) (arrivals : List Arrivals) → AreKept limit t g js before ranks → moved ≡ map (moved_to now) ranks → AreSettled t g js now moved renewed arrivals → AreKept limit t g js now renewed
  all_kept limit before ranks moved renewed arrivals kept are settled =
      let same : length moved ≡ length ranks = ap length are ∙ length-map ranks (moved_to now) in
      record {
        counted = settled.ranks ∙ same ∙ kept.counted;
        each = λ rank s within.
            (let long = settled.ranks in
            let all = settled.all in
            let inside : rank < length ranks = omega arith in
            let there : rank < length moved = omega arith in
            let a = some_of arrivals rank (omega arith) in
            renewed_kept limit rank before (get_or ranks rank s) (get_or moved rank s) (get_or renewed rank s) (kept.each rank s inside)
            (ap (λ (l : List RankKept). get_or l rank s) are ∙ get_or-map (moved_to now) ranks rank s s inside)
            (settled.each rank s s a there).renewed);
      }

  pub all_arrived : (moved renewed : List RankKept) (arrivals : List Arrivals) → length moved ≡ rank_count g → AreSettled t g js now moved renewed arrivals → AreArrivals (rank_count g) arrivals
  all_arrived moved renewed arrivals counted settled = record {
    counted = settled.all ∙ counted;
    each = λ rank a within.
        (let all = settled.all in
        let there : rank < length moved = omega arith in
        let r = some_of moved rank there in
        (settled.each rank r r a there).came);
  }

pub kept_since : (limit : ℕ) (t : Criterion) (g : Division) (js before : List Particle) (ranks : List RankKept) → AreKept limit t g js before ranks → EachByRank (IsKeptSince t g js) ranks
kept_since limit t g js before ranks kept rank r within = record { limit = limit; before = before; kept = kept.each rank r within }

-- ---- one more of those that found memory

pub one_more_part : (xs : List Mover) (x : Mover) (ranks ranks_now : List RankKept) (posts posts_now : List (Post Renewal)) → AreParted xs ranks posts → x.refused ≡ false →
    ranks_now ≡ ranks ++ x.rank ∷ [] → posts_now ≡ posts ++ x.post ∷ [] → AreParted (xs ++ x ∷ []) ranks_now posts_now
one_more_part xs x ranks ranks_now posts posts_now parts found rank post = record {
  found = All-push (λ (y : Mover). y.refused ≡ false) xs x parts.found found;
  ranks_are = rank ∙ ap (λ (rs : List RankKept). rs ++ x.rank ∷ []) parts.ranks_are ∙ sym (map-append (λ (y : Mover). y.rank) xs (x ∷ []));
  posts_are = post ∙ ap (λ (ps : List (Post Renewal)). ps ++ x.post ∷ []) parts.posts_are ∙ sym (map-append (λ (y : Mover). y.post) xs (x ∷ []));
}
