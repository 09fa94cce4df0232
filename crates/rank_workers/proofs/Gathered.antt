-- Gathering, from the last rank to the first.
use Rattle.std.proofs.Common.{◌≡◌, ◌≢◌, ℕ, zero, suc, ◌+◌, ◌-◌, ◌*◌, ◌/◌, ◌%◌, ◌<◌, ◌≤◌, List, [], ◌∷◌, ◌++◌, Vec, Global, length, get_or, set, reverse, inl, inr, sym, ◌∙◌, ap, subst, refl, arith}
use Rattle.std.proofs.Math.Nat.{mod-lt}
use Rattle.std.proofs.Math.Seq.{get_or-append_seam}
use Rattle.std.proofs.lemmas.Bool.{cases_eq, cases_lt}
use Rattle.std.proofs.lemmas.List.{length-set, length-append, length-reverse, get_or-reverse, get_or-set_same, get_or-set_other, get_or_default, get_or_append_left}
use Rattle.rank_workers.specs.Hands.{HavePlacesFor, AreDealt}
use Rattle.rank_workers.proofs.Places.{its_place, same_hand, same_row, later_row, row_before}

-- so many ranks are still in the hands, and the others are in a list, from the last on
pub record AreBetween {X : Type 0} (W count rank : ℕ) (before hands : List (Vec X Global)) (ranks : List X) : Type 0 where
  pub together : length ranks + rank ≡ count
  pub places : HavePlacesFor W rank hands
  pub left : (w k : ℕ) (h : Vec X Global) (y : X) → w < W → k * W + w < rank → get_or (get_or hands w h).items k y ≡ get_or (get_or before w h).items k y
  pub out : (w k i : ℕ) (h : Vec X Global) (y : X) → w < W → i + (k * W + w) + 1 ≡ count → i < length ranks → get_or ranks i y ≡ get_or (get_or before w h).items k y

module _ {X : Type 0} (W count rank : ℕ) (before hands : List (Vec X Global)) (ranks : List X) (old : Vec X Global) (some : 0 < W)
    (now : AreBetween W count (rank + 1) before hands ranks) (is : old ≡ get_or hands (rank % W) old) where
  abbrev v : ℕ
  v = rank % W

  abbrev l : ℕ
  l = rank / W

  in_hands : v < W
  in_hands = mod-lt rank some

  here : l * W + v ≡ rank
  here = its_place W rank

  within : v < length hands
  within = let long = now.places.one_each in let lt = in_hands in omega arith

  old_is : (h : Vec X Global) → get_or hands v h ≡ old
  old_is h = get_or_default hands v h old within ∙ sym is

  long : length old.items ≡ l + 1
  long =
      let there : l < length old.items = subst (λ (o : Vec X Global). l < length o.items) (sym is) (now.places.each v l old in_hands (let e = here in omega arith)) in
      elim (cases_lt (l + 1) (length old.items)) [
        | inl lt ↦
            let below = now.places.no_other v (l + 1) old in_hands (subst (λ (o : Vec X Global). l + 1 < length o.items) is lt) in
            absurd (let e = here in omega arith)
        | inr le ↦ omega arith
      ]

  pub one_left : 0 < length old.items
  one_left = let e = long in omega arith

  module _ (new : Vec X Global) (x : X) (took : old.items ≡ new.items ++ x ∷ []) where
    shorter : length new.items ≡ l
    shorter = let e = ap length took ∙ length-append new.items (x ∷ []) in let a = long in omega (arith, e)

    at_hand : (w : ℕ) (h : Vec X Global) → w ≡ v → get_or (set hands v new) w h ≡ new
    at_hand w h same = ap (λ n. get_or (set hands v new) n h) same ∙ get_or-set_same hands v new h within

    aside : (w : ℕ) (h : Vec X Global) → (w ≡ v → ⊥) → get_or (set hands v new) w h ≡ get_or hands w h
    aside w h other = get_or-set_other hands v w new h other

    was : (w k : ℕ) (h : Vec X Global) (y : X) → w ≡ v → get_or (new.items ++ x ∷ []) k y ≡ get_or (get_or hands w h).items k y
    was w k h y same = ap (λ (s : List X). get_or s k y) (sym took) ∙ ap (λ (o : Vec X Global). get_or o.items k y) (sym (ap (λ n. get_or hands n h) same ∙ old_is h))

    places : HavePlacesFor W rank (set hands v new)
    places = record {
      one_each = length-set hands v new ∙ now.places.one_each;
      each = λ w k h lt below.
          elim (cases_eq w v) [
            | inl same ↦
                let row : k < l = row_before W k l w v same (let e = here in omega arith) in
                subst (λ (o : Vec X Global). k < length o.items) (sym (at_hand w h same)) (let e = shorter in omega arith)
            | inr other ↦ subst (λ (o : Vec X Global). k < length o.items) (sym (aside w h other)) (now.places.each w k h lt (omega arith))
          ];
      no_other = λ w k h lt lies.
          elim (cases_eq w v) [
            | inl same ↦
                let inside : k < length new.items = subst (λ (o : Vec X Global). k < length o.items) (at_hand w h same) lies in
                let row = later_row W k l w v same (let e = shorter in omega arith) in
                let e = here in omega arith
            | inr other ↦
                let below = now.places.no_other w k h lt (subst (λ (o : Vec X Global). k < length o.items) (aside w h other) lies) in
                let apart : k * W + w ≢ l * W + v = λ e. other (same_hand W k w l v lt in_hands e) in
                let e = here in omega arith
          ];
    }

    left : (w k : ℕ) (h : Vec X Global) (y : X) → w < W → k * W + w < rank → get_or (get_or (set hands v new) w h).items k y ≡ get_or (get_or before w h).items k y
    left w k h y lt below =
        elim (cases_eq w v) [
          | inl same ↦
              let row : k < l = row_before W k l w v same (let e = here in omega arith) in
              ap (λ (o : Vec X Global). get_or o.items k y) (at_hand w h same) ∙ sym (get_or_append_left new.items (x ∷ []) y k (let e = shorter in omega arith))
              ∙ was w k h y same ∙ now.left w k h y lt (omega arith)
          | inr other ↦ ap (λ (o : Vec X Global). get_or o.items k y) (aside w h other) ∙ now.left w k h y lt (omega arith)
        ]

    more : length (ranks ++ x ∷ []) ≡ length ranks + 1
    more = length-append ranks (x ∷ [])

    out : (w k i : ℕ) (h : Vec X Global) (y : X) → w < W → i + (k * W + w) + 1 ≡ count → i < length (ranks ++ x ∷ []) → get_or (ranks ++ x ∷ []) i y ≡ get_or (get_or before w h).items k y
    out w k i h y lt sum inside =
        elim (cases_lt i (length ranks)) [
          | inl less ↦ get_or_append_left ranks (x ∷ []) y i less ∙ now.out w k i h y lt sum less
          | inr le ↦
              let last : i ≡ length ranks = (let m = more in omega arith) in
              let there : k * W + w ≡ l * W + v = (let e = here in let t = now.together in omega arith) in
              let row : k ≡ length new.items = same_row W k w l v lt in_hands there ∙ sym shorter in
              let hand = same_hand W k w l v lt in_hands there in
              ap (λ n. get_or (ranks ++ x ∷ []) n y) last ∙ get_or-append_seam ranks x [] y
              ∙ sym (ap (λ n. get_or (new.items ++ x ∷ []) n y) row ∙ get_or-append_seam new.items x [] y)
              ∙ was w k h y hand ∙ now.left w k h y lt (let e = here in omega arith)
        ]

    pub one_more_out : AreBetween W count rank before (set hands v new) (ranks ++ x ∷ [])
    one_more_out = record {
      together = (let m = more in let t = now.together in omega arith);
      places = places;
      left = left;
      out = out;
    }

-- all are out
pub all_out : {X : Type 0} (W count : ℕ) (before hands : List (Vec X Global)) (ranks : List X) → HavePlacesFor W count before → AreBetween W count 0 before hands ranks → AreDealt W (reverse ranks) before
all_out {X} W count before hands ranks had now =
    let long : length (reverse ranks) ≡ count = length-reverse ranks ∙ (let t = now.together in omega arith) in
    record {
      places = subst (λ n. HavePlacesFor W n before) (sym long) had;
      each = λ w k h y lt below.
          let back = length-reverse ranks in
          sym (get_or-reverse ranks (k * W + w) y (omega arith) ∙ now.out w k (length ranks - 1 - (k * W + w)) h y lt (omega arith) (omega arith));
    }
