-- Each step of an inbox keeps its rule.
use Rattle.std.proofs.Common.{◌≡◌, ◌≢◌, ⊎_elim, ℕ, suc, ◌+◌, ◌-◌, ◌<◌, ◌≤◌, cond, Bool, true, false, true≢false, List, [], ◌∷◌, ◌++◌, length, map, get_or, set, sym, refl, ap, ◌∙◌, subst, inl, inr, arith, flat_map, All}
use Rattle.std.specs.Prelude.{Contains, IsPermutation}
use mathlib.Core.Option.{some}
use lib.ListN.{get_elem?}
use Rattle.std.proofs.lemmas.List.{append-nil, append_assoc, length-append, length-map, map-append, set_comm, set-set}
use Rattle.std.proofs.lemmas.List.Sums.{sum_by-append, sum_by-cons, sum_by_push}
use Rattle.std.proofs.lemmas.List.Elements.{All-cons, All-head, All-nil, All-push, All-same, All-contains, All-contains_itself, Contains-append_right, Contains-push}
use Rattle.std.proofs.lemmas.List.Sorted.{IsPermutation-refl, IsPermutation-sym, IsPermutation-trans, IsPermutation-middle, IsPermutation-cons, IsPermutation-append_right, IsPermutation-to_front, All-permutation, length_permutation, sum_by-IsPermutation}
use Rattle.crossbeam_queue.specs.Fifo.{Pushes, Pops, Forks, Merges, Learns}
use Rattle.crossbeam_queue.proofs.Lists.{set_again, set_else}
use Rattle.let_inbox.specs.declared.rule.PassView.{PassView}
use Rattle.let_inbox.specs.Sources.{IsSource, times, others}
use Rattle.let_inbox.specs.Rule.{opening_view, blank_view, fresh_view, putter_view, spent_view, joined_view, put_by_all, taken_by_all, takers_in, standing, IsTaking, FitsInbox, FitsRank, KeepsRule, Kept, AllSettled, Took, Found}
use Rattle.let_inbox.proofs.Sources.{is_it, times-append, times-cons, times_first, times_map, others_once, count_others, once_at_most, once_again, stands_for_source}
use Rattle.let_inbox.proofs.Views.{sum_by_at, sum_by_part, sum_by_two, each_set, each_snoc, each_one, only_one, set_there, flat_map_same, flat_map_last, flat_map_gains, all_in_one, times_all, times_at, times_last, length_at, length_last}

shut_or : (b : Bool) → cond {A = ℕ} b 1 0 ≡ 0 → b ≡ false
shut_or true e = absurd (omega arith)
shut_or false e = refl

module _ {M : Type 0} where
  abbrev P : PassView M → List M
  P v = v.put

  abbrev T : PassView M → List M
  T v = v.taken

  blank_fits : (rank ranks : ℕ) → FitsInbox rank ranks (blank_view {M = M})
  blank_fits rank ranks = record { opened = refl; knows = λ e. absurd (true≢false (sym e)); takes = λ _. refl }

  -- what was taken is among what was put
  pub all_carried : (items taken put : List M) → IsPermutation (items ++ taken) put → All (Contains put) taken
  all_carried items taken put perm i d h =
      let each = All-permutation (Contains put) _ _ (IsPermutation-sym _ _ perm) (All-contains_itself put) in
      All-contains (Contains put) (items ++ taken) (get_or taken i d) each (Contains-append_right items taken _ (All-contains_itself taken i d h))

  module _ (source target : M → ℕ) (has_terms : M → Type 0) where
    abbrev K : List M → List (PassView M) → Type 0
    K = Kept source target has_terms

    abbrev R : ℕ → ℕ → List M → List (PassView M) → Type 0
    R = KeepsRule source target has_terms

    abbrev S : PassView M → List ℕ
    S = standing source

    abbrev F : ℕ → M → Type 0
    F = FitsRank source target has_terms

    -- a pass that doesn't open is one of an inbox
    late : (items : List M) (views : List (PassView M)) (port : ℕ) (v : PassView M) → v.opens ≡ false → K items views → get_elem? views port ≡ some v
        → (rank : ℕ) × (ranks : ℕ) × R rank ranks items views
    late items views port v shut k at = ⊎_elim
        (λ (b : (items ≡ []) × (views ≡ opening_view ∷ [])).
        absurd (true≢false (sym (each_one (λ u. u.opens ≡ true) opening_view refl port v (subst (λ vs. get_elem? vs port ≡ some v) b.1 at)) ∙ shut)))
        (λ a. a) k

    pub begins : K [] (opening_view ∷ [])
    begins = inl (refl, refl)

    begun : (rank ranks : ℕ) → rank < ranks → R rank ranks [] (fresh_view rank ranks (others rank ranks) ∷ blank_view ∷ [])
    begun rank ranks within =
        let taker : PassView M = fresh_view rank ranks (others rank ranks) in
        let same : flat_map S (taker ∷ blank_view ∷ []) ≡ others rank ranks = append-nil (others rank ranks ++ []) ∙ append-nil (others rank ranks) in
        record {
          sources = once_again rank ranks _ _ (others_once rank ranks) (λ s. ap (times s) same);
          count = ap length same ∙ count_others rank ranks within;
          parcels = IsPermutation-refl [];
          fits = All-nil _;
          taker = refl;
          passes = each_snoc (FitsInbox rank ranks) (taker ∷ []) blank_view (blank_fits rank ranks)
              (each_one (FitsInbox rank ranks) taker record { opened = refl; knows = λ _. (refl, refl); takes = λ _. refl });
        }

    pub opens : (rank ranks port : ℕ) → rank < ranks → Forks K port opening_view (fresh_view rank ranks (others rank ranks)) blank_view
    opens rank ranks port within items views k at =
        let taker : PassView M = fresh_view rank ranks (others rank ranks) in
        ⊎_elim
        (λ (b : (items ≡ []) × (views ≡ opening_view ∷ [])).
        let first : port ≡ 0 = only_one opening_view opening_view port (subst (λ vs. get_elem? vs port ≡ some opening_view) b.1 at) in
        inr (
          rank,
          ranks,
          subst (λ (z : List M × ℕ × List (PassView M)). R rank ranks z.0 (set z.2 z.1 taker ++ blank_view ∷ []))
              (λ i. (sym b.0 i, sym first i, sym b.1 i)) (begun rank ranks within),
        ))
        (λ (a : (r : ℕ) × (n : ℕ) × R r n items views). absurd (true≢false (a.2.passes port opening_view at).opened)) k

    pub splits : (port rank ranks s : ℕ) (rest : List ℕ) → Forks K port (fresh_view rank ranks (s ∷ rest)) (fresh_view rank ranks rest) (putter_view rank ranks s)
    splits port rank ranks s rest items views k at =
        let v : PassView M = fresh_view rank ranks (s ∷ rest) in
        let left : PassView M = fresh_view rank ranks rest in
        let right : PassView M = putter_view rank ranks s in
        let a = late items views port v refl k at in
        let place = (a.2.passes port v at).knows refl in
        let vs : List (PassView M) = set views port left in
        let puts : put_by_all (vs ++ right ∷ []) ≡ put_by_all views = flat_map_last P vs right ∙ append-nil (put_by_all vs) ∙ flat_map_same P views port v left at refl in
        let takens : taken_by_all (vs ++ right ∷ []) ≡ taken_by_all views = flat_map_last T vs right ∙ append-nil (taken_by_all vs) ∙ flat_map_same T views port v left at refl in
        let l = length_at S views port v left at in
        let l' = length_last S vs right in
        let one : length (S v) ≡ length (S left) + 1 = let e : length (S v) ≡ suc (length (S left)) = refl in omega arith in
        let single : length (S right) ≡ 1 = refl in
        let count = a.2.count in
        let t = sum_by_at takers_in views port v left at in
        let t' = sum_by_push takers_in vs right in
        let taker = a.2.taker in
        inr (
          a.0,
          a.1,
          record {
            sources = once_again a.0 a.1 _ _ a.2.sources (λ x.
                let p = times_at S x views port v left at in
                let q = times_last S x vs right in
                let c : times x (S v) ≡ is_it x s + times x (S left) = times-cons x s (rest ++ []) in
                let d : times x (S right) ≡ is_it x s + times x [] = times-cons x s [] in
                let nil : times x [] ≡ 0 = refl in omega arith);
            count = omega arith;
            parcels = subst (λ (z : List M × List M). IsPermutation (items ++ z.0) z.1) (λ i. (sym takens i, sym puts i)) a.2.parcels;
            fits = All-same (F a.0) _ _ puts a.2.fits;
            taker = omega arith;
            passes = each_snoc (FitsInbox a.0 a.1) vs right record { opened = refl; knows = λ _. place; takes = λ _. refl }
                (each_set (FitsInbox a.0 a.1) views port left record { opened = refl; knows = λ _. place; takes = λ _. refl } a.2.passes);
          },
        )

    pub puts : (n port rank ranks s : ℕ) (x : M) → source x ≡ s → target x ≡ rank → has_terms x
        → Pushes K n port (putter_view rank ranks s) x (λ w. w ≡ spent_view rank ranks (x ∷ []))
    puts n port rank ranks s x is right terms items views room k at =
        let v : PassView M = putter_view rank ranks s in
        let w : PassView M = spent_view rank ranks (x ∷ []) in
        let a = late items views port v refl k at in
        let place = (a.2.passes port v at).knows refl in
        let same : flat_map S (set views port w) ≡ flat_map S views = flat_map_same S views port v w at (ap (λ y. y ∷ []) is) in
        let takens : taken_by_all (set views port w) ≡ taken_by_all views = flat_map_same T views port v w at refl in
        let gains : IsPermutation (x ∷ put_by_all views) (put_by_all (set views port w)) = flat_map_gains P (x ∷ []) views port v w at (IsPermutation-refl (x ∷ [])) in
        let t = sum_by_at takers_in views port v w at in
        let taker = a.2.taker in
        let rule : R a.0 a.1 (items ++ x ∷ []) (set views port w) = record {
          sources = once_again a.0 a.1 _ _ a.2.sources (λ y. ap (times y) same);
          count = ap length same ∙ a.2.count;
          parcels = subst (λ ys. IsPermutation ys (put_by_all (set views port w)))
              (sym (ap (λ ys. (items ++ x ∷ []) ++ ys) takens ∙ append_assoc items (x ∷ []) (taken_by_all views)))
              (IsPermutation-trans _ _ _ (IsPermutation-middle items x (taken_by_all views)) (IsPermutation-trans _ _ _ (IsPermutation-cons x _ _ a.2.parcels) gains));
          fits = All-permutation (F a.0) _ _ gains (All-cons (F a.0) x _ (right ∙ place.0, terms) a.2.fits);
          taker = omega arith;
          passes = each_set (FitsInbox a.0 a.1) views port w record { opened = refl; knows = λ _. place; takes = λ _. refl } a.2.passes;
        } in
        (w, inr (a.0, a.1, rule), refl)

    -- the parcels put are among the sources that stand somewhere
    put_within : (views : List (PassView M)) → length (put_by_all views) ≤ length (flat_map S views)
    put_within [] = omega arith
    put_within (v ∷ views) = let r = put_within views in
        let a = length-append v.put (put_by_all views) in
        let b = length-append (S v) (flat_map S views) in
        let c = length-append v.unspent (map source v.put) in
        let d = length-map v.put source in omega arith

    sources_within : (x : ℕ) (views : List (PassView M)) → times x (map source (put_by_all views)) ≤ times x (flat_map S views)
    sources_within x [] = omega arith
    sources_within x (v ∷ views) = let r = sources_within x views in
        let a : times x (map source (put_by_all (v ∷ views))) ≡ times x (map source v.put) + times x (map source (put_by_all views))
        = ap (times x) (map-append source v.put (put_by_all views)) ∙ times-append x (map source v.put) (map source (put_by_all views)) in
        let b = times-append x (S v) (flat_map S views) in
        let c = times-append x v.unspent (map source v.put) in omega arith

    pub rooms : (port rank ranks s : ℕ) → Learns K port (putter_view rank ranks s) (λ items. length items < ranks - 1)
    rooms port rank ranks s items views k at =
        let v : PassView M = putter_view rank ranks s in
        let w : PassView M = blank_view in
        let a = late items views port v refl k at in
        let place = (a.2.passes port v at).knows refl in
        let ranks_is : ranks ≡ a.1 = place.1 in
        let l = length_at S views port v w at in
        let mine : length (S v) ≡ 1 = refl in
        let none : length (S w) ≡ 0 = refl in
        let puts = ap length (flat_map_same P views port v w at refl) in
        let le = put_within (set views port w) in
        let perm = length_permutation _ _ a.2.parcels in
        let both = length-append items (taken_by_all views) in
        let count = a.2.count in omega arith

    one_taker : (rank ranks : ℕ) (items : List M) (views : List (PassView M)) (port : ℕ) (v : PassView M) → R rank ranks items views → get_elem? views port ≡ some v → v.takes ≡ true
        → taken_by_all views ≡ v.taken
    one_taker rank ranks items views port v rule at takes = all_in_one T views port v at (λ j u apart e.
        let two = sum_by_two takers_in views port j v u (λ is. apart (sym is)) at e in
        let mine : takers_in v ≡ 1 = ap (λ (b : Bool). cond {A = ℕ} b 1 0) takes in
        let taker = rule.taker in
        (rule.passes j u e).takes (shut_or u.takes (omega arith)))

    -- where every parcel was settled by one pass, no other pass has one
    all_settled : (rank ranks : ℕ) (items : List M) (views : List (PassView M)) (port : ℕ) (v : PassView M) → R rank ranks items views → get_elem? views port ≡ some v
        → v.rank ≡ rank → v.ranks ≡ ranks → AllSettled source v → put_by_all views ≡ v.put
    all_settled rank ranks items views port v rule at rank_is ranks_is all = all_in_one P views port v at (λ j u apart e. none j u apart e u.put refl) where
      none : (j : ℕ) (u : PassView M) → j ≢ port → get_elem? views j ≡ some u → (ms : List M) → u.put ≡ ms → u.put ≡ []
      none j u apart e [] is = is
      none j u apart e (m ∷ ms) is =
          let s : ℕ = source m in
          let there : times s (map source u.put) ≡ times s (s ∷ map source ms) = ap (λ ys. times s (map source ys)) is in
          let once = times_first s (map source ms) in
          let here = times-append s u.unspent (map source u.put) in
          let all_of = times_all S s views in
          let part = sum_by_part (λ h. times s (S h)) views j u e in
          let known : IsSource rank ranks s = stands_for_source rank ranks _ rule.sources s (omega arith) in
          let settled = all s (subst (λ (z : ℕ × ℕ). IsSource z.0 z.1 s) (λ i. (sym rank_is i, sym ranks_is i)) known) in
          let mine = times-append s v.unspent (map source v.put) in
          let two = sum_by_two (λ h. times s (S h)) views port j v u (λ is. apart (sym is)) at e in
          let most = once_at_most rank ranks _ rule.sources s in absurd (omega arith)

    pub takes : (port : ℕ) (v : PassView M) → IsTaking v → Pops K port v (Took source target has_terms v)
    takes port v taking x items views k at =
        let shut = taking.0 in
        let knows = taking.1 in
        let may = taking.2 in
        let w : PassView M = record v { taken = v.taken ++ x ∷ [] } in
        let a = late (x ∷ items) views port v shut k at in
        let place = (a.2.passes port v at).knows knows in
        let same : flat_map S (set views port w) ≡ flat_map S views = flat_map_same S views port v w at refl in
        let puts : put_by_all (set views port w) ≡ put_by_all views = flat_map_same P views port v w at refl in
        let gains : IsPermutation (x ∷ taken_by_all views) (taken_by_all (set views port w)) =
        flat_map_gains T (x ∷ []) views port v w at (IsPermutation-sym _ _ (IsPermutation-to_front v.taken x)) in
        let moved : IsPermutation (items ++ taken_by_all (set views port w)) (put_by_all views) =
        IsPermutation-trans _ _ _ (IsPermutation-append_right items _ _ (IsPermutation-sym _ _ gains))
        (IsPermutation-trans _ _ _ (IsPermutation-middle items x (taken_by_all views)) a.2.parcels) in
        let t = sum_by_at takers_in views port v w at in
        let taker = a.2.taker in
        let rule : R a.0 a.1 items (set views port w) = record {
          sources = once_again a.0 a.1 _ _ a.2.sources (λ s. ap (times s) same);
          count = ap length same ∙ a.2.count;
          parcels = subst (λ ys. IsPermutation (items ++ taken_by_all (set views port w)) ys) (sym puts) moved;
          fits = All-same (F a.0) _ _ puts a.2.fits;
          taker = omega arith;
          passes = each_set (FitsInbox a.0 a.1) views port w record { opened = shut; knows = λ _. place; takes = λ e. absurd (true≢false (sym may ∙ e)) } a.2.passes;
        } in
        let s : ℕ = source x in
        let whole : IsPermutation (x ∷ (items ++ v.taken)) (put_by_all views) = subst (λ ys. IsPermutation (x ∷ (items ++ ys)) (put_by_all views)) (one_taker a.0 a.1 _ views port v a.2 at may) a.2.parcels in
        let f : M → ℕ = λ m. is_it s (source m) in
        let total = sum_by-IsPermutation f _ _ whole in
        let head = sum_by-cons f x (items ++ v.taken) in
        let rest = sum_by-append f items v.taken in
        let mine : f x ≡ 1 = let one = times_first s [] in let one' = times-cons s s [] in omega arith in
        let put_times = times_map source s (put_by_all views) in
        let taken_times = times_map source s v.taken in
        let within = sources_within s views in
        let most = once_at_most a.0 a.1 _ a.2.sources s in
        let known : IsSource a.0 a.1 s = stands_for_source a.0 a.1 _ a.2.sources s (omega arith) in
        let fits = All-head (F a.0) x _ (All-permutation (F a.0) _ _ (IsPermutation-sym _ _ whole) a.2.fits) in
        let long = length_permutation _ _ whole in
        let long' = length-append items v.taken in
        let longer : length (x ∷ (items ++ v.taken)) ≡ suc (length (items ++ v.taken)) = refl in
        let after = length-append v.taken (x ∷ []) in
        let single : length (x ∷ []) ≡ 1 = refl in
        let put_few = put_within views in
        let count = a.2.count in
        let ranks_is : v.ranks ≡ a.1 = place.1 in (
          w,
          inr (a.0, a.1, rule),
          record {
            taken = refl;
            source_known = subst (λ (z : ℕ × ℕ). IsSource z.0 z.1 s) (λ i. (sym place.0 i, sym place.1 i)) known;
            source_new = omega arith;
            fits = (fits.0 ∙ sym place.0, fits.1);
            few = omega arith;
            settled = λ all.
                let puts_mine : put_by_all views ≡ v.put = all_settled a.0 a.1 _ views port v a.2 at place.0 place.1 all in
                let each = All-permutation (Contains v.put) _ _ (IsPermutation-sym _ _ (subst (λ ys. IsPermutation (x ∷ (items ++ v.taken)) ys) puts_mine whole)) (All-contains_itself v.put) in
                All-push (Contains v.put) v.taken x
                (λ i d h. All-contains (Contains v.put) (x ∷ (items ++ v.taken)) (get_or v.taken i d) each (Contains-append_right (x ∷ items) v.taken _ (All-contains_itself v.taken i d h)))
                (All-head (Contains v.put) x _ each);
          },
        )

    pub settled_rest : (port : ℕ) (v : PassView M) → IsTaking v → AllSettled source v → Learns K port v (λ items. IsPermutation (items ++ v.taken) v.put)
    settled_rest port v taking all items views k at =
        let a = late items views port v taking.0 k at in
        let place = (a.2.passes port v at).knows taking.1 in
        subst (λ (z : List M × List M). IsPermutation (items ++ z.0) z.1)
        (λ i. (one_taker a.0 a.1 items views port v a.2 at taking.2 i, all_settled a.0 a.1 items views port v a.2 at place.0 place.1 all i)) a.2.parcels

    pub finds : (port : ℕ) (v : PassView M) → IsTaking v → Learns K port v (Found source target has_terms v)
    finds port v taking items views k at = record {
      views = views;
      rule = k;
      id = port;
      mine = at;
      settled = λ all. settled_rest port v taking all items views k at;
    }

    -- where nothing is held and all was settled, every source was taken
    pub none_left : (v : PassView M) (items : List M) → length items ≡ 0 → Found source target has_terms v items → AllSettled source v
        → (s : ℕ) → IsSource v.rank v.ranks s → 0 < times s (map source v.taken)
    none_left v [] empty found all s is =
        let f : M → ℕ = λ m. is_it s (source m) in
        let total = sum_by-IsPermutation f _ _ (found.settled all) in
        let a = times_map source s v.put in
        let b = times_map source s v.taken in
        let c = all s is in omega arith
    none_left v (m ∷ ms) empty found all s is = absurd (omega arith)

    pub nothing_held : (v : PassView M) (items : List M) → length items ≡ 0 → Found source target has_terms v items → Found source target has_terms v []
    nothing_held v [] empty found = found
    nothing_held v (m ∷ ms) empty found = absurd (omega arith)

    pub not_all_taken : (v w : PassView M) (x : M) → Took source target has_terms v x w → ((s : ℕ) → IsSource v.rank v.ranks s → 0 < times s (map source v.taken)) → ⊥
    not_all_taken v w x took all = let a = all (source x) took.source_known in let b = took.source_new in omega arith

    pub took_settled : (v w : PassView M) (x : M) → Took source target has_terms v x w → AllSettled source v → Contains v.put x
    took_settled v w x took all = All-contains (Contains v.put) (v.taken ++ x ∷ []) x
        (subst (λ ms. All (Contains v.put) ms) (ap (λ (u : PassView M). u.taken) took.taken) (took.settled all)) (Contains-push v.taken x)

    pub unites : (port other rank ranks : ℕ) (v : PassView M) (put : List M) → v.opens ≡ false → Merges K port v other (spent_view rank ranks put) (joined_view v (spent_view rank ranks put)) blank_view
    unites port other rank ranks v put shut items views k at apart at' =
        let w : PassView M = spent_view rank ranks put in
        let both : PassView M = joined_view v w in
        let views' : List (PassView M) = set views port both in
        let vs : List (PassView M) = set views' other blank_view in
        let was : get_elem? views other ≡ some w = sym (set_else views port other both apart) ∙ at' in
        let a = late items views port v shut k at in
        let mine = a.2.passes port v at in
        let takens : taken_by_all vs ≡ taken_by_all views = flat_map_same T views' other w blank_view at' refl ∙ flat_map_same T views port v both at refl in
        let bare : List (PassView M) = set views other blank_view in
        let there : get_elem? bare port ≡ some v = set_else views other port blank_view (λ is. apart (sym is)) ∙ at in
        let filled : set bare other w ≡ views = set-set views other blank_view w ∙ set_again views other w was in
        let swapped : set bare port both ≡ vs = sym (set_comm views port other both blank_view (λ is. apart (sym is))) in
        let before : IsPermutation (put ++ put_by_all bare) (put_by_all views) = subst (λ us. IsPermutation (put ++ put_by_all bare) (put_by_all us)) filled
        (flat_map_gains P put bare other blank_view w (set_there views other w blank_view was) (subst (λ ys. IsPermutation ys put) (sym (append-nil put)) (IsPermutation-refl put))) in
        let after : IsPermutation (put ++ put_by_all bare) (put_by_all vs) = subst (λ us. IsPermutation (put ++ put_by_all bare) (put_by_all us)) swapped
        (flat_map_gains P put bare port v both there (IsPermutation-refl (put ++ v.put))) in
        let same : IsPermutation (put_by_all views) (put_by_all vs) = IsPermutation-trans _ _ _ (IsPermutation-sym _ _ before) after in
        let l = length_at S views port v both at in
        let l' = length_at S views' other w blank_view at' in
        let count = a.2.count in
        let m1 = length-append v.unspent (map source v.put) in
        let m2 = length-append v.unspent (map source (put ++ v.put)) in
        let m3 = length-map (put ++ v.put) source in
        let m4 = length-append put v.put in
        let m5 = length-map v.put source in
        let m6 : length (S w) ≡ length put = length-map put source in
        let none : length (S (blank_view {M = M})) ≡ 0 = refl in
        let t = sum_by_at takers_in views port v both at in
        let t' = sum_by_at takers_in views' other w blank_view at' in
        let taker = a.2.taker in
        inr (
          a.0,
          a.1,
          record {
            sources = once_again a.0 a.1 _ _ a.2.sources (λ s.
                let p = times_at S s views port v both at in
                let q = times_at S s views' other w blank_view at' in
                let c = times-append s v.unspent (map source v.put) in
                let d = times-append s v.unspent (map source (put ++ v.put)) in
                let e : times s (map source (put ++ v.put)) ≡ times s (map source put) + times s (map source v.put) = ap (times s) (map-append source put v.put) ∙ times-append s (map source put) (map source v.put) in
                let nil : times s (S (blank_view {M = M})) ≡ 0 = refl in
                let its : times s (S w) ≡ times s (map source put) = refl in omega arith);
            count = omega arith;
            parcels = subst (λ ys. IsPermutation (items ++ ys) (put_by_all vs)) (sym takens) (IsPermutation-trans _ _ _ a.2.parcels same);
            fits = All-permutation (F a.0) _ _ same a.2.fits;
            taker = omega arith;
            passes = each_set (FitsInbox a.0 a.1) views' other blank_view (blank_fits a.0 a.1)
                (each_set (FitsInbox a.0 a.1) views port both record { opened = mine.opened; knows = mine.knows; takes = mine.takes } a.2.passes);
          },
        )
