-- Each step of a board keeps its rule.
use Rattle.std.proofs.Common.{◌≡◌, ℕ, ◌+◌, ◌-◌, ◌%◌, ◌^◌, ◌<◌, ◌≤◌, min, List, [], ◌∷◌, ◌++◌, length, get_or, set, sym, refl, ap, ◌∙◌, subst, arith, sum_by, All, length-set, get_or-set_same}
use mathlib.Core.Logic.{dite}
use mathlib.Core.Option.{none, some}
use native.Mathlib.Decide.{dec_lt}
use lib.ListN.{get_elem?}
use Rattle.std.proofs.lemmas.List.Sums.{sum_by-cons, sum_by_push}
use Rattle.atomic_table.specs.Table.{State, Me, step, keeps, stepped, opening, Allows, Splits, Joins}
use Rattle.atomic_table.proofs.Lists.{set_again, set_else}
use Rattle.claim_board.specs.declared.rule.SeatView.{SeatView}
use Rattle.claim_board.specs.declared.rule.Opening.{Opening}
use Rattle.claim_board.specs.Once.{times, HasEachOnce}
use Rattle.claim_board.specs.Rule.{fresh_view, joined_view, spent_view, with_number, with_none, FitsBoard, KeepsRule, Kept, claims, knows}
use Rattle.claim_board.proofs.Numbers.{times-append, once_again, once_more, once_below, once_few, none_at_first}
use Rattle.claim_board.proofs.Views.{all_claimed, sum_by_at, sum_by_part, sum_by_within, times_at, times_claimed, times_snoc, each_set, each_snoc, each_one, each_weaker, all_in_one}

abbrev shares : List SeatView → ℕ
shares views = sum_by (λ h. h.share) views

abbrev nones : List SeatView → ℕ
nones views = sum_by (λ h. h.nones) views

pub begins : (o : Opening) → o.total < 2 ^ 32 → o.seats < 2 ^ 32 → Kept o (opening (0 ∷ []) [] (fresh_view o.total o.seats))
begins o total seats = let all = sum_by-cons (λ h. h.share) (fresh_view o.total o.seats) [] in let nil : shares [] ≡ 0 = refl in let none : 0 ≡ min 0 o.total = omega arith in (
  refl,
  record {
    claimed = subst (λ n. HasEachOnce n []) none none_at_first;
    seats = each_one (FitsBoard o.total 0) (fresh_view o.total o.seats) record { told = λ h. absurd (omega arith); few = omega arith; spent = λ _. refl; knows = λ _. refl };
    within = omega arith;
    shares = omega arith;
    small = (total, seats);
  },
)

-- a look changes nothing
looked : (o : Opening) (s : State (Unit {0}) SeatView) (id : ℕ) (me : Me (Unit {0}) SeatView) → Kept o s → get_elem? s.views id ≡ some me.0
    → Kept o (stepped s 0 (get_or s.words 0 0) id me.1 me.0 keeps)
looked o s id me k at = let wide = k.0 in (
  length-set s.words 0 (get_or s.words 0 0) ∙ wide,
  subst (λ (z : ℕ × List SeatView). KeepsRule o z.0 z.1) (λ i. (sym (get_or-set_same s.words 0 (get_or s.words 0 0) 0 (omega arith)) i, sym (set_again s.views id me.0 at) i)) k.1,
)

placed : (o : Opening) (s : State (Unit {0}) SeatView) (word id : ℕ) (me : Me (Unit {0}) SeatView) (h : SeatView) → length s.words ≡ 1 → KeepsRule o word (set s.views id h)
    → Kept o (stepped s 0 word id me.1 h keeps)
placed o s word id me h wide k = (length-set s.words 0 word ∙ wide, subst (λ (w : ℕ). KeepsRule o w (set s.views id h)) (sym (get_or-set_same s.words 0 word 0 (omega arith))) k)

-- the word stays far below 2 ^ 64
word_small : (o : Opening) (word : ℕ) (views : List SeatView) → KeepsRule o word views → word < 2 ^ 33
word_small o word views k = let a = sum_by_within (λ h. h.nones) (λ h. h.share) views (λ id h e. (k.seats id h e).few) in
    let b = k.within in let c = k.shares in let d = k.small.0 in let e = k.small.1 in omega arith

-- a higher word is as fair to each seat
fair_on : (total word word' : ℕ) → word ≤ word' → (h : SeatView) → FitsBoard total word h → FitsBoard total word' h
fair_on total word word' le h f = record { told = λ told. let is = f.told told in omega arith; few = f.few; spent = f.spent; knows = f.knows }

gives : (o : Opening) (word : ℕ) (views : List SeatView) (id : ℕ) (h : SeatView) → KeepsRule o word views → get_elem? views id ≡ some h → h.nones ≡ 0 → 0 < h.share → word < o.total
    → KeepsRule o (word + 1) (set views id (with_number h word))
gives o word views id h k at untold has_share below =
    let after : SeatView = with_number h word in
    let is : min word o.total ≡ word = omega arith in
    let next : min (word + 1) o.total ≡ word + 1 = omega arith in
    let sum = sum_by_at (λ h. h.nones) views id h after at in
    let share = sum_by_at (λ h. h.share) views id h after at in
    let mine = k.seats id h at in
    let within = k.within in
    let all = k.shares in
    record {
      claimed = subst (λ n. HasEachOnce n (all_claimed (set views id after))) (sym next)
          (once_more word (all_claimed views) (all_claimed (set views id after)) (subst (λ n. HasEachOnce n (all_claimed views)) is k.claimed)
          (λ x. let a = times_at x views id h after at in let b = times-append x h.claimed (word ∷ []) in omega arith));
      seats = each_set (FitsBoard o.total (word + 1)) views id after record { told = λ told. absurd (omega arith); few = mine.few; spent = λ none. absurd (omega arith); knows = mine.knows }
          (each_weaker (FitsBoard o.total word) (FitsBoard o.total (word + 1)) views (λ u f. fair_on o.total word (word + 1) (omega arith) u f) k.seats);
      within = omega arith;
      shares = omega arith;
      small = k.small;
    }

refuses : (o : Opening) (word : ℕ) (views : List SeatView) (id : ℕ) (h : SeatView) → KeepsRule o word views → get_elem? views id ≡ some h → h.nones ≡ 0 → 0 < h.share → o.total ≤ word
    → KeepsRule o (word + 1) (set views id (with_none h))
refuses o word views id h k at untold has_share past =
    let after : SeatView = with_none h in
    let is : min word o.total ≡ min (word + 1) o.total = omega arith in
    let sum = sum_by_at (λ h. h.nones) views id h after at in
    let share = sum_by_at (λ h. h.share) views id h after at in
    let mine = k.seats id h at in
    let within = k.within in
    let all = k.shares in
    record {
      claimed = once_again (min (word + 1) o.total) (all_claimed views) (all_claimed (set views id after)) (subst (λ n. HasEachOnce n (all_claimed views)) is k.claimed)
          (λ x. let a = times_at x views id h after at in omega arith);
      seats = each_set (FitsBoard o.total (word + 1)) views id after record { told = λ _. omega arith; few = omega arith; spent = mine.spent; knows = mine.knows }
          (each_weaker (FitsBoard o.total word) (FitsBoard o.total (word + 1)) views (λ u f. fair_on o.total word (word + 1) (omega arith) u f) k.seats);
      within = omega arith;
      shares = omega arith;
      small = k.small;
    }

-- a seat claimed no number more often than all together
part_of_all : (x : ℕ) (views : List SeatView) (id : ℕ) (h : SeatView) → get_elem? views id ≡ some h → times x h.claimed ≤ times x (all_claimed views)
part_of_all x views id h at = let a = times_claimed x views in let b = sum_by_part (λ h. times x h.claimed) views id h at in omega arith

-- what a seat claimed is below the word
below_word : (o : Opening) (word : ℕ) (views : List SeatView) (id : ℕ) (h : SeatView) → KeepsRule o word views → get_elem? views id ≡ some h → All (λ x. x < word) h.claimed
below_word o word views id h k at i d short = let low = once_below (min word o.total) (all_claimed views) h.claimed k.claimed (λ x. part_of_all x views id h at) i d short in omega arith

few_claimed : (o : Opening) (word : ℕ) (views : List SeatView) (id : ℕ) (h : SeatView) → KeepsRule o word views → get_elem? views id ≡ some h → length h.claimed ≤ word
few_claimed o word views id h k at = once_few (min word o.total) word (all_claimed views) h.claimed k.claimed (λ x. part_of_all x views id h at) (below_word o word views id h k at)

pub claims_next : (o : Opening) (slots id : ℕ) (me : Me (Unit {0}) SeatView) → me.0.nones ≡ 0 → 0 < me.0.share
    → Allows (Kept o) slots id me 0 (λ n. (n + 1) % 2 ^ 64) (claims (step slots 0 1 0 none) me)
claims_next o slots id me untold has_share s k _ at _ =
    let word : ℕ = get_or s.words 0 0 in
    let small = word_small o word s.views k.1 in
    let next : word + 1 ≡ (word + 1) % 18446744073709551616 = omega arith in
    let knows : me.0.total ≡ o.total = (k.1.seats id me.0 at).knows has_share in
    dite (dec_lt word o.total)
    (λ below. let after : SeatView = with_number me.0 word in (
      after,
      keeps,
      tt,
      subst (λ n. Kept o (stepped s 0 n id me.1 after keeps)) next (placed o s (word + 1) id me after k.0 (gives o word s.views id me.0 k.1 at untold has_share below)),
      (record { given = λ _. refl; ascending = λ _. below_word o word s.views id me.0 k.1 at; few = λ _. few_claimed o word s.views id me.0 k.1 at; none_left = λ past. absurd (omega arith) }, refl),
    ))
    (λ past. let after : SeatView = with_none me.0 in (
      after,
      keeps,
      tt,
      subst (λ n. Kept o (stepped s 0 n id me.1 after keeps)) next (placed o s (word + 1) id me after k.0 (refuses o word s.views id me.0 k.1 at untold has_share (omega arith))),
      (record { given = λ below. absurd (omega arith); ascending = λ below. absurd (omega arith); few = λ below. absurd (omega arith); none_left = λ _. refl }, refl),
    ))

pub knows_all : (o : Opening) (slots id : ℕ) (me : Me (Unit {0}) SeatView) → me.0.share ≡ o.seats → 0 < me.0.share → 0 < me.0.nones
    → Allows (Kept o) slots id me 0 (λ n. n) (knows (step slots 0 0 0 none) me)
knows_all o slots id me all has_share told s k _ at _ =
    let word : ℕ = get_or s.words 0 0 in
    let mine = k.1.seats id me.0 at in
    let past = mine.told told in
    let is : min word o.total ≡ me.0.total = let e = mine.knows has_share in omega arith in
    let one : all_claimed s.views ≡ me.0.claimed = all_in_one s.views id me.0 (each_weaker (FitsBoard o.total word) _ s.views (λ u f. f.spent) k.1.seats) at (k.1.shares ∙ sym all) in
    (me.0, keeps, tt, looked o s id me k at, subst (λ (z : ℕ × List ℕ). HasEachOnce z.0 z.1) (λ i. (is i, one i)) k.1.claimed)

pub splits_off : (o : Opening) (id : ℕ) (h : SeatView) → 1 < h.share → h.claimed ≡ [] → h.nones ≡ 0 → Splits (Kept o) id h (fresh_view h.total (h.share - 1)) (fresh_view h.total 1)
splits_off o id h more empty untold s k at =
    let total : h.total ≡ o.total = (k.1.seats id h at).knows (omega arith) in
    let word : ℕ = get_or s.words 0 0 in
    let left : SeatView = fresh_view h.total (h.share - 1) in
    let right : SeatView = fresh_view h.total 1 in
    let views : List SeatView = set s.views id left in
    let sum = sum_by_at (λ h. h.nones) s.views id h left at in
    let share = sum_by_at (λ h. h.share) s.views id h left at in
    let sum' = sum_by_push (λ h. h.nones) views right in
    let share' = sum_by_push (λ h. h.share) views right in
    let within = k.1.within in
    let all = k.1.shares in (
      k.0,
      record {
        claimed = once_again (min word o.total) (all_claimed s.views) (all_claimed (views ++ right ∷ [])) k.1.claimed
            (λ x. let a = times_at x s.views id h left at in let b = times_snoc x views right in let none : times x h.claimed ≡ 0 = ap (times x) empty in omega arith);
        seats = each_snoc (FitsBoard o.total word) views right record { told = λ h. absurd (omega arith); few = omega arith; spent = λ _. refl; knows = λ _. total }
            (each_set (FitsBoard o.total word) s.views id left record { told = λ told. absurd (omega arith); few = omega arith; spent = λ _. refl; knows = λ _. total } k.1.seats);
        within = omega arith;
        shares = omega arith;
        small = k.1.small;
      },
    )

fair_both : (total word : ℕ) (h u : SeatView) → 0 < h.share → FitsBoard total word h → FitsBoard total word u → FitsBoard total word (joined_view h u)
fair_both total word h u has_share f g = let few = f.few in let few' = g.few in record {
  told = λ told. dite (dec_lt 0 h.nones) (λ mine. f.told mine) (λ not. g.told (omega arith));
  few = omega arith;
  spent = λ none. absurd (omega arith);
  knows = λ _. f.knows has_share;
}

pub unites : (o : Opening) (id other : ℕ) (h u : SeatView) → 0 < h.share → Joins (Kept o) id h other u (joined_view h u) spent_view
unites o id other h u has_share s k at apart at' =
    let word : ℕ = get_or s.words 0 0 in
    let both : SeatView = joined_view h u in
    let views : List SeatView = set s.views id both in
    let sum = sum_by_at (λ h. h.nones) s.views id h both at in
    let share = sum_by_at (λ h. h.share) s.views id h both at in
    let sum' = sum_by_at (λ h. h.nones) views other u spent_view at' in
    let share' = sum_by_at (λ h. h.share) views other u spent_view at' in
    let within = k.1.within in
    let all = k.1.shares in
    let mine = k.1.seats id h at in
    let its = k.1.seats other u (sym (set_else s.views id other both apart) ∙ at') in (
      k.0,
      record {
        claimed = once_again (min word o.total) (all_claimed s.views) (all_claimed (set views other spent_view)) k.1.claimed
            (λ x. let a = times_at x s.views id h both at in let b = times_at x views other u spent_view at' in let c = times-append x u.claimed h.claimed in omega arith);
        seats = each_set (FitsBoard o.total word) views other spent_view record { told = λ h. absurd (omega arith); few = omega arith; spent = λ _. refl; knows = λ h. absurd (omega arith) }
            (each_set (FitsBoard o.total word) s.views id both (fair_both o.total word h u has_share mine its) k.1.seats);
        within = omega arith;
        shares = omega arith;
        small = k.1.small;
      },
    )
