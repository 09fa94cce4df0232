-- Maps that keep an order.
use Rattle.std.proofs.Common.{◌≡◌, Bool, true, false, cond, List, [], ◌∷◌, map, refl, sym, ◌∙◌, ap}
use Rattle.order_laws.specs.Order.{placed, in_order_once}
use Rattle.order_laws.specs.OrderLaws.{MapsKeepOrders}

map-cond : {X Y : Type 0} (f : X → Y) (b : Bool) (xs ys : List X) → map f (cond b xs ys) ≡ cond b (map f xs) (map f ys)
map-cond f true xs ys = refl
map-cond f false xs ys = refl

module _ {X Y : Type 0} (f : X → Y) (before : X → X → Bool) (other : Y → Y → Bool) (same : (x y : X) → other (f x) (f y) ≡ before x y) where
  placed-map : (x : X) (ys : List X) → placed other (f x) (map f ys) ≡ map f (placed before x ys)
  placed-map x [] = refl
  placed-map x (y ∷ ys) =
      let rest = placed-map x ys in
      let first = same x y in
      let second = same y x in
      (λ i. cond (first i) (f x ∷ f y ∷ map f ys) (cond (second i) (f y ∷ rest i) (f y ∷ map f ys)))
      ∙ ap (cond (before x y) (f x ∷ f y ∷ map f ys)) (sym (map-cond f (before y x) (y ∷ placed before x ys) (y ∷ ys)))
      ∙ sym (map-cond f (before x y) (x ∷ y ∷ ys) (cond (before y x) (y ∷ placed before x ys) (y ∷ ys)))

  in_order-map : (xs : List X) → in_order_once other (map f xs) ≡ map f (in_order_once before xs)
  in_order-map [] = refl
  in_order-map (x ∷ xs) = ap (placed other (f x)) (in_order-map xs) ∙ placed-map x (in_order_once before xs)

pub maps_keep_orders : {X Y : Type 0} → MapsKeepOrders X Y
maps_keep_orders f before other xs same = in_order-map f before other same xs
