-- A list, one particle more.
use Rattle.std.proofs.Common.{◌≡◌, ℕ, zero, suc, ◌+◌, ◌<◌, ◌≤◌, List, [], ◌∷◌, ◌++◌, take, map, length, get_or, inl, inr, sym, ◌∙◌, ap, subst}
use Rattle.std.proofs.lemmas.List.{take_more, take_all, map-append}
use Rattle.pf_geom.specs.Bounds.{Bounds}
use Rattle.order_laws.specs.Order.{placed, in_order_once}
use Rattle.pf_model.specs.Particle.{Particle}
use Rattle.pf_model.specs.Particles.{HaveDistinctIds}
use Rattle.pf_model.specs.Criterion.{Criterion}
use Rattle.pf_model.specs.Interaction.{entry_of, comes_before, list_of}
use Rattle.order_laws.proofs.OrderLemmas.{In, IsConnected, in_order-push}
use Rattle.pf_model.proofs.EntryLemmas.{comes_before-strict, IsConnected-entries}

in_take : {X : Type 0} (n : ℕ) (xs : List X) (x : X) → In x (take n xs) → In x xs
in_take zero xs x i = absurd i
in_take (suc n) [] x i = i
in_take (suc n) (y ∷ ys) x (inl e) = inl e
in_take (suc n) (y ∷ ys) x (inr h) = inr (in_take n ys x h)

-- the entry of one particle more
pub list-more : (t : Criterion) (box : Bounds) (js : List Particle) (k : ℕ) (j : Particle) → HaveDistinctIds js → k < length js → get_or js k j ≡ j → placed comes_before (entry_of t box js j) (in_order_once comes_before (map (entry_of t box js) (take k js))) ≡ in_order_once comes_before (map (entry_of t box js) (take (k + 1) js))
list-more t box js k j distinct within at =
    let f = entry_of t box js in
    let one_more : take (k + 1) js ≡ take k js ++ j ∷ [] = take_more js k j within ∙ ap (λ (v : Particle). take k js ++ v ∷ []) at in
    let entries : map f (take (k + 1) js) ≡ map f (take k js) ++ f j ∷ [] = ap (map f) one_more ∙ map-append f (take k js) (j ∷ []) in
    let connected = subst (IsConnected comes_before) entries (IsConnected-entries t box js (take (k + 1) js) distinct (in_take (k + 1) js)) in
    in_order-push comes_before comes_before-strict (f j) (map f (take k js)) connected ∙ ap (in_order_once comes_before) (sym entries)

pub list-whole : (t : Criterion) (box : Bounds) (js : List Particle) (k : ℕ) → length js ≤ k → in_order_once comes_before (map (entry_of t box js) (take k js)) ≡ list_of t box js
unfolding list_of
list-whole t box js k h = ap (λ l. in_order_once comes_before (map (entry_of t box js) l)) (take_all k js h)
