-- What was done hand by hand was done rank by rank.
use Rattle.std.proofs.Common.{◌≡◌, ℕ, ◌+◌, ◌*◌, ◌/◌, ◌%◌, ◌<◌, ◌^◌, List, Vec, Global, length, get_or, sym, ◌∙◌, ap, subst, refl, arith}
use denote.Ref.{MutBor}
use denote.Param.Members.{Shared}
use Rattle.std.specs.Fork.{AcceptsAt, ChangesAt, AcceptsEach, ChangesEach}
use Rattle.std.proofs.Math.Nat.{mod-lt}
use Rattle.std.proofs.lemmas.List.{get_or_default}
use Rattle.rank_workers.specs.Hands.{HavePlacesFor, AreDealt, AcceptsHand, ChangesHand}
use Rattle.rank_workers.proofs.Places.{its_place}

module _ {F X : Type 0} (g : Shared F (ℕ × (MutBor X × Unit {0})) (Unit {0} × (MutBor X × Unit {0}))) (f : F) (W : ℕ) (xs : List X) (hands : List (Vec X Global)) (dealt : AreDealt W xs hands) where
  pub hand_is_accepted : length xs < 2 ^ 64 → AcceptsEach g f xs → (w : ℕ) (h : Vec X Global) → w < W → AcceptsHand g f W w (get_or hands w h).items
  hand_is_accepted few each w h lt = record {
    ranks = λ k inside. let below = dealt.places.no_other w k h lt inside in omega arith;
    each = λ k x inside p is.
        let below = dealt.places.no_other w k h lt inside in
        each (k * W + w) p below (is ∙ get_or_default (get_or hands w h).items k x p.now inside ∙ dealt.each w k h p.now lt below);
  }

  pub each_rank_is_driven : (after : List (Vec X Global)) (ys : List X) → Vec X Global → 0 < W → length ys ≡ length xs → AreDealt W ys after →
      ((w : ℕ) (h : Vec X Global) → w < W → ChangesHand g f W w (get_or hands w h).items (get_or after w h).items) → ChangesEach g f xs ys
  each_rank_is_driven after ys h some long again changes i d below =
      let w : ℕ = i % W in
      let k : ℕ = i / W in
      let lt : w < W = mod-lt i some in
      let at : k * W + w ≡ i = its_place W i in
      let change : ChangesAt g f (k * W + w) (get_or (get_or hands w h).items k d) (get_or (get_or after w h).items k d) = (changes w h lt).each k d (dealt.places.each w k h lt (omega arith)) in
      let old = dealt.each w k h d lt (omega arith) ∙ ap (λ n. get_or xs n d) at in
      let new = again.each w k h d lt (omega arith) ∙ ap (λ n. get_or ys n d) at in
      (refl, subst (λ y. ChangesAt g f i (get_or xs i d) y) new (subst (λ x. ChangesAt g f i x (get_or (get_or after w h).items k d)) old (subst (λ n. ChangesAt g f n (get_or (get_or hands w h).items k d) (get_or (get_or after w h).items k d)) at change)))
