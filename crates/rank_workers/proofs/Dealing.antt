-- Dealing, rank by rank.
use Rattle.std.proofs.Common.{◌≡◌, ◌≢◌, ℕ, zero, suc, ◌+◌, ◌*◌, ◌/◌, ◌%◌, ◌<◌, ◌≤◌, List, [], ◌∷◌, ◌++◌, Vec, Global, length, get_or, set, inl, inr, sym, ◌∙◌, ap, subst, refl, arith}
use Rattle.std.proofs.Math.Nat.{mod-lt}
use Rattle.std.proofs.Math.Seq.{get_or-append_seam}
use Rattle.std.proofs.lemmas.Bool.{cases_eq, cases_lt}
use Rattle.std.proofs.lemmas.List.{length-set, length-append, get_or-set_same, get_or-set_other, get_or_default, get_or_append_left}
use Rattle.rank_workers.specs.Hands.{HavePlacesFor, AreDealt}
use Rattle.rank_workers.proofs.Places.{its_place, same_hand, same_row, later_row, row_before}

module _ {X : Type 0} (W : ℕ) where
  -- before the first rank
  pub none_dealt : (hands : List (Vec X Global)) → length hands ≡ W → ((w : ℕ) (h : Vec X Global) → w < W → (get_or hands w h).items ≡ []) → AreDealt W [] hands
  none_dealt hands long empty = record {
    places = record {
      one_each = long;
      each = λ w k h lt below. absurd (omega arith);
      no_other = λ w k h lt within. absurd (let none = ap length (empty w h lt) in omega (arith, none));
    };
    each = λ w k h x lt below. absurd (omega arith);
  }

  module _ (xs : List X) (x : X) (hands : List (Vec X Global)) (old new : Vec X Global) (some : 0 < W) (dealt : AreDealt W xs hands)
      (is : old ≡ get_or hands (length xs % W) old) (put : new.items ≡ old.items ++ x ∷ []) where
    abbrev v : ℕ
    v = length xs % W

    abbrev l : ℕ
    l = length xs / W

    in_hands : v < W
    in_hands = mod-lt (length xs) some

    here : l * W + v ≡ length xs
    here = its_place W (length xs)

    within : v < length hands
    within = let long = dealt.places.one_each in let lt = in_hands in omega arith

    old_is : (h : Vec X Global) → get_or hands v h ≡ old
    old_is h = get_or_default hands v h old within ∙ sym is

    not_before : length old.items ≤ l
    not_before =
        elim (cases_lt l (length old.items)) [
          | inl lt ↦
              let lies : l < length (get_or hands v old).items = subst (λ (o : Vec X Global). l < length o.items) is lt in
              absurd (let below = dealt.places.no_other v l old in_hands lies in let e = here in omega arith)
          | inr le ↦ le
        ]

    not_after : l ≤ length old.items
    not_after =
        elim (cases_lt (length old.items) l) [
          | inl lt ↦
              let later = later_row W (length old.items) l v v refl lt in
              let e = here in
              let lies = dealt.places.each v (length old.items) old in_hands (omega arith) in
              absurd (let none : length old.items < length old.items = subst (λ (o : Vec X Global). length old.items < length o.items) (sym is) lies in omega arith)
          | inr le ↦ le
        ]

    long : length new.items ≡ l + 1
    long = let e = ap length put ∙ length-append old.items (x ∷ []) in let a = not_before in let b = not_after in omega (arith, e)

    at_hand : (w : ℕ) (h : Vec X Global) → w ≡ v → get_or (set hands v new) w h ≡ new
    at_hand w h same = ap (λ n. get_or (set hands v new) n h) same ∙ get_or-set_same hands v new h within

    aside : (w : ℕ) (h : Vec X Global) → (w ≡ v → ⊥) → get_or (set hands v new) w h ≡ get_or hands w h
    aside w h other = get_or-set_other hands v w new h other

    more : length (xs ++ x ∷ []) ≡ length xs + 1
    more = length-append xs (x ∷ [])

    places : HavePlacesFor W (length (xs ++ x ∷ [])) (set hands v new)
    places = record {
      one_each = length-set hands v new ∙ dealt.places.one_each;
      each = λ w k h lt below.
          elim (cases_eq w v) [
            | inl same ↦
                let row : k < l + 1 = row_before W k (l + 1) w v same (let e = here in let m = more in omega arith) in
                subst (λ (o : Vec X Global). k < length o.items) (sym (at_hand w h same)) (let e = long in omega arith)
            | inr other ↦
                subst (λ (o : Vec X Global). k < length o.items) (sym (aside w h other))
                (dealt.places.each w k h lt (let apart : k * W + w ≢ l * W + v = λ e. other (same_hand W k w l v lt in_hands e) in let e = here in let m = more in omega arith))
          ];
      no_other = λ w k h lt lies.
          elim (cases_eq w v) [
            | inl same ↦
                let inside : k < length new.items = subst (λ (o : Vec X Global). k < length o.items) (at_hand w h same) lies in
                let row = later_row W k (l + 1) w v same (let e = long in omega arith) in
                let e = here in let m = more in omega arith
            | inr other ↦
                let below = dealt.places.no_other w k h lt (subst (λ (o : Vec X Global). k < length o.items) (aside w h other) lies) in
                let m = more in omega arith
          ];
    }

    earlier : (w k : ℕ) (h : Vec X Global) (y : X) → w < W → k * W + w < length xs → get_or (get_or (set hands v new) w h).items k y ≡ get_or xs (k * W + w) y
    earlier w k h y lt below =
        elim (cases_eq w v) [
          | inl same ↦
              let before : k < l = row_before W k l w v same (let e = here in omega arith) in
              ap (λ (o : Vec X Global). get_or o.items k y) (at_hand w h same) ∙ ap (λ (s : List X). get_or s k y) put
              ∙ get_or_append_left old.items (x ∷ []) y k (let a = not_after in omega arith)
              ∙ ap (λ (o : Vec X Global). get_or o.items k y) (sym (ap (λ n. get_or hands n h) same ∙ old_is h))
              ∙ dealt.each w k h y lt below
          | inr other ↦ ap (λ (o : Vec X Global). get_or o.items k y) (aside w h other) ∙ dealt.each w k h y lt below
        ]

    its_own : (w k : ℕ) (h : Vec X Global) (y : X) → w < W → k * W + w ≡ length xs → get_or (get_or (set hands v new) w h).items k y ≡ x
    its_own w k h y lt e =
        let there = e ∙ sym here in
        let row : k ≡ length old.items = same_row W k w l v lt in_hands there ∙ (let a = not_before in let b = not_after in omega arith) in
        ap (λ (o : Vec X Global). get_or o.items k y) (at_hand w h (same_hand W k w l v lt in_hands there)) ∙ ap (λ (s : List X). get_or s k y) put
        ∙ ap (λ n. get_or (old.items ++ x ∷ []) n y) row ∙ get_or-append_seam old.items x [] y

    pub one_more_dealt : AreDealt W (xs ++ x ∷ []) (set hands v new)
    one_more_dealt = record {
      places = places;
      each = λ w k h y lt below.
          elim (cases_eq (k * W + w) (length xs)) [
            | inl e ↦ its_own w k h y lt e ∙ sym (ap (λ n. get_or (xs ++ x ∷ []) n y) e ∙ get_or-append_seam xs x [] y)
            | inr apart ↦
                let before : k * W + w < length xs = (let m = more in omega arith) in
                earlier w k h y lt before ∙ sym (get_or_append_left xs (x ∷ []) y (k * W + w) before)
          ];
    }
