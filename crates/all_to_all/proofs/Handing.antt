-- How the putters of an inbox are handed to one post after another.
use Rattle.std.proofs.Common.{◌≡◌, ◌≢◌, ℕ, ◌+◌, ◌-◌, ◌<◌, ◌≤◌, List, [], ◌∷◌, ◌++◌, length, map, drop, get_or, set, All, Vec, Global, vec_capacity, ap, sym, ◌∙◌, subst, arith}
use mathlib.Core.Logic.{dite}
use native.Mathlib.Decide.{ℕ_discrete}
use Rattle.std.proofs.lemmas.List.{get_or-set_same, get_or-set_other, set-get_or, length-set, length-map, length-reverse}
use Rattle.std.proofs.lemmas.List.Elements.{All-head, All-tail, All-push, All-same, All-set, All-get_or}
use Rattle.let_inbox.specs.declared.inbox.Inbox.{Inbox}
use Rattle.let_inbox.specs.declared.tokens.Putter.{Putter}
use Rattle.let_inbox.specs.Sources.{others_from}
use Rattle.let_inbox.specs.Tokens.{source_of, IsPutterOf}
use Rattle.all_to_all.specs.declared.outgoing.ToSend.{ToSend}
use Rattle.all_to_all.specs.declared.post.Post.{Post}
use Rattle.all_to_all.specs.Outgoing.{AtRank, unsent_of, IsPutterFrom}
use Rattle.all_to_all.specs.Posts.{state_of, PostState, FitsInboxes}
use Rattle.all_to_all.specs.Opening.{state_from}
use Rattle.let_inbox.specs.Laws.{OthersStandInTurn, OthersAreFew}
use Rattle.all_to_all.proofs.OtherRanks.{left_here, left_past}
use Rattle.all_to_all.proofs.Sending.{next_target}

module _ {M : Type 0} where
  -- a rank gets no putter for its own inbox
  own_passed : OthersStandInTurn → (ranks first rank : ℕ) → first < ranks → first ≡ rank → state_from {M = M} ranks (first + 1) rank ≡ state_from ranks first rank
  own_passed turn ranks first rank within own = ap (λ (ts : List ℕ). let s : PostState M = record { rank = rank; unsent = ts; sent = []; received = []; settled = [] } in s) (sym (left_past turn rank first ranks within own))

  -- a post with one more putter
  abbrev pub with_unsent : Post M → Vec (ToSend M) Global → Post M
  with_unsent p unsent = record { rank = p.rank; incoming = p.incoming; outgoing = record { unsent = unsent; tokens = p.outgoing.tokens } }

  module _ (source target : M → ℕ) (has_terms : M → Type 0) where
    -- the posts below an index were handed the putters for the ranks from `first` on, and the others those after it
    pub record HandsOut (first index : ℕ) (inboxes : List (Inbox M)) (posts : List (Post M)) (putters : List (Putter M)) : Type 0 where
      pub count : length posts ≡ length inboxes
      pub fit : All (FitsInboxes source target has_terms (length inboxes) inboxes) posts
      pub room : All (λ p. (p.outgoing.tokens.items ≡ []) × (length inboxes ≤ vec_capacity p.outgoing.tokens)) posts
      pub handed : (rank : ℕ) (d : Post M) → rank < index → rank < length inboxes → state_of (get_or posts rank d) ≡ state_from (length inboxes) first rank
      pub not_yet : (rank : ℕ) (d : Post M) → index ≤ rank → rank < length inboxes → state_of (get_or posts rank d) ≡ state_from (length inboxes) (first + 1) rank
      pub putters_are : AtRank inboxes first (λ i. All (IsPutterOf i) putters)
      pub sources : map source_of putters ≡ others_from first index (length inboxes - index)

    module _ (turn : OthersStandInTurn) (few : OthersAreFew) (first index : ℕ) (inboxes : List (Inbox M)) (posts : List (Post M)) (putters : List (Putter M)) (was : HandsOut first index inboxes posts putters)
        (within : index < length posts) (below : first < length inboxes) (item : Post M) where
      rank_there : (get_or posts index item).rank ≡ index
      rank_there = let count = was.count in ap (λ (s : PostState M). s.rank) (was.not_yet index item (omega arith) (omega arith))

      pub some_left : ((get_or posts index item).rank ≡ first → ⊥) → 0 < length putters
      some_left apart =
          let count = was.count in
          let here = was.sources ∙ left_here turn first index (length inboxes) (omega arith) (λ is. apart (rank_there ∙ is)) in
          let long = length-map putters source_of in
          let e = ap length here in omega arith

      pub skipped : (get_or posts index item).rank ≡ first → HandsOut first (index + 1) inboxes (set posts index (get_or posts index item)) putters
      skipped own =
          let count = was.count in
          let is : index ≡ first = sym rank_there ∙ own in
          subst (λ ps. HandsOut first (index + 1) inboxes ps putters) (sym (set-get_or posts index item)) record {
            count = was.count;
            fit = was.fit;
            room = was.room;
            handed = λ rank d earlier in_ranks. dite (ℕ_discrete rank index)
                (λ here. was.not_yet rank d (omega arith) in_ranks ∙ own_passed turn (length inboxes) first rank below (sym (here ∙ is)))
                (λ apart. was.handed rank d (omega arith) in_ranks);
            not_yet = λ rank d later in_ranks. was.not_yet rank d (omega arith) in_ranks;
            putters_are = was.putters_are;
            sources = was.sources ∙ left_past turn first index (length inboxes) (omega arith) is;
          }

      pub handed_on : (p : Putter M) (rest : List (Putter M)) (unsent : Vec (ToSend M) Global) → ((get_or posts index item).rank ≡ first → ⊥) → putters ≡ p ∷ rest
          → unsent.items ≡ (get_or posts index item).outgoing.unsent.items ++ record { target = first; putter = p } ∷ []
          → HandsOut first (index + 1) inboxes (set posts index (with_unsent (get_or posts index item) unsent)) rest
      handed_on p rest unsent apart is more =
          let n = length inboxes in
          let there = get_or posts index item in
          let now = with_unsent there unsent in
          let to_send : ToSend M = record { target = first; putter = p } in
          let count = was.count in
          let inside : index < n = omega arith in
          let fits = All-get_or (FitsInboxes source target has_terms n inboxes) posts index item within was.fit in
          let room = All-get_or (λ p. (p.outgoing.tokens.items ≡ []) × (n ≤ vec_capacity p.outgoing.tokens)) posts index item within was.room in
          let state = was.not_yet index item (omega arith) inside in
          let here = left_here turn first index n inside (λ same. apart (rank_there ∙ same)) in
          let names : source_of p ∷ map source_of rest ≡ index ∷ others_from first (index + 1) (n - (index + 1)) = ap (map source_of) (sym is) ∙ was.sources ∙ here in
          let from : source_of p ≡ index = cc in
          let left : unsent_of now.outgoing ≡ others_from index first (n - first) =
          next_target unsent.items there.outgoing.unsent.items to_send more
          ∙ ap (λ ts. first ∷ ts) (ap (λ (s : PostState M). s.unsent) state)
          ∙ sym (left_here turn index first n below (λ same. apart (rank_there ∙ sym same))) in
          let after : state_of now ≡ state_from n first index = λ k. record {
            rank = (state k).rank;
            unsent = left k;
            sent = (state k).sent;
            received = (state k).received;
            settled = (state k).settled;
          } in
          let short : length unsent.items ≤ n =
          let a = ap length left in
          let b = length-reverse (map (λ (s : ToSend M). s.target) unsent.items) in
          let d = length-map unsent.items (λ (s : ToSend M). s.target) in
          let e = few index first (n - first) in omega arith in
          let putters_were : AtRank inboxes first (λ i. All (IsPutterOf i) (p ∷ rest)) = subst (λ ps. AtRank inboxes first (λ i. All (IsPutterOf i) ps)) is was.putters_are in
          record {
            count = length-set posts index now ∙ was.count;
            fit = All-set (FitsInboxes source target has_terms n inboxes) posts index now record {
              within = fits.within;
              incoming = fits.incoming;
              outgoing = record {
                inboxes_are = fits.outgoing.inboxes_are;
                within = All-same (λ s. s.target < n) _ _ more (All-push (λ s. s.target < n) _ to_send fits.outgoing.within below);
                putters = All-same (IsPutterFrom inboxes there.rank) _ _ more (All-push (IsPutterFrom inboxes there.rank) _ to_send fits.outgoing.putters record {
                  putter = λ i at. All-head (IsPutterOf i) p rest (putters_were i at);
                  from_rank = from ∙ sym rank_there;
                });
                tokens = fits.outgoing.tokens;
                room = let a = ap length room.0 in let b = room.1 in let d = there.outgoing.tokens.ok in let e = unsent.ok in omega arith;
              };
              sources = record { arrivals = fits.sources.arrivals; taken = fits.sources.taken };
            } was.fit;
            room = All-set (λ p. (p.outgoing.tokens.items ≡ []) × (n ≤ vec_capacity p.outgoing.tokens)) posts index now room was.room;
            handed = λ rank d earlier in_ranks. dite (ℕ_discrete rank index)
                (λ same. subst (λ k. state_of (get_or (set posts index now) k d) ≡ state_from n first k) (sym same) (ap state_of (get_or-set_same posts index now d within) ∙ after))
                (λ other. ap state_of (get_or-set_other posts index rank now d other) ∙ was.handed rank d (omega arith) in_ranks);
            not_yet = λ rank d later in_ranks.
                let other : rank ≢ index = omega arith in
                ap state_of (get_or-set_other posts index rank now d other) ∙ was.not_yet rank d (omega arith) in_ranks;
            putters_are = λ i at. All-tail (IsPutterOf i) p rest (putters_were i at);
            sources = ap (drop 1) names;
          }
