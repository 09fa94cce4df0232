-- Items that were put in key order, and the places at which they were sent.
use Rattle.std.proofs.Common.{◌≡◌, ◌≢◌, ℕ, suc, ◌+◌, ◌<◌, Bool, true, false, List, [], ◌∷◌, ◌++◌, length, get_or, map, take, inl, inr, Some, slice_get, refl, sym, ◌∙◌, ap, subst, arith, nat_eq}
use Rattle.std.specs.List.{All, IsDistinct, range_with_len}
use Rattle.std.specs.List.Sorted.{IsNonDecreasing, IsNonDecreasingBy, IsPermutation}
use Rattle.std.proofs.lemmas.Bool.{cases_order, ltb-true, ne_eqb, eq-eqb, true≢false}
use Rattle.std.proofs.lemmas.List.{length-map, get_or-map, get_or_default, take_more, map-append}
use Rattle.std.proofs.lemmas.List.Elements.{All-push}
use Rattle.std.proofs.lemmas.List.FromFn.{map-range_with_len_more, fill_by_all}
use Rattle.std.proofs.lemmas.List.Sorted.{IsPermutation-map}
use Rattle.std.proofs.lemmas.Map.Keys.{IsDistinct-from_apart, IsDistinct-IsPermutation, apart_from_distinct}
use Rattle.std.proofs.lemmas.Option.{slice_get_within, get_or_from_slice_get}
use Rattle.pf_model.specs.declared.entry.Entry.{Entry}
use Rattle.pf_model.specs.declared.entry.Entry.TheVariants.{Cell, One}
use Rattle.pf_model.specs.Particle.{Particle}
use Rattle.pf_model.specs.Particles.{AreBodies}
use Rattle.pf_model.specs.Criterion.{Criterion}
use Rattle.pf_model.specs.Division.{Division}
use Rattle.pf_model.specs.Domains.{particles_of, domain_box}
use Rattle.pf_model.specs.Sums.{moment_of}
use Rattle.pf_model.specs.Interaction.{comes_before, IsInListOrder, list_of}
use Rattle.model_laws.specs.ListLaws.{ListsHoldTheirEntries}
use Rattle.model_laws.specs.ParticleLaws.{SomeHaveDistinctIds}
use Rattle.pf_model.specs.EssentialTree.{tree_for, essential_tree}
use Rattle.group_lists.specs.declared.key_order.KeyPlace.{KeyPlace}
use Rattle.group_lists.specs.Keyed.{item_key, ArePlaced}
use Rattle.group_lists.specs.Indexed.{HaveDistinctPlaces}
use Rattle.group_lists.proofs.ElementLemmas.{map-map}

abbrev pub order_place : KeyPlace → ℕ
order_place o = o.place

abbrev pub order_key : KeyPlace → ℕ
order_key o = o.key

-- the key of the item at its place
abbrev pub HasItsKey : List Entry → KeyPlace → Type 0
HasItsKey items o = (item : Entry) → o.key ≡ item_key (get_or items o.place item)

-- the keys and places of the first items
pub record AreFirst (items : List Entry) (n : ℕ) (order : List KeyPlace) : Type 0 where
  pub places : map order_place order ≡ range_with_len 0 n
  pub within : All (λ o. o.place < length items) order
  pub keyed : All (HasItsKey items) order

pub none_first : (items : List Entry) (order : List KeyPlace) → order ≡ [] → AreFirst items 0 order
none_first items order e = subst (AreFirst items 0) (sym e) (record { places = refl; within = λ k d less. absurd (omega arith); keyed = λ k d less. absurd (omega arith) })

map_same : (ns : List ℕ) → map (λ (n : ℕ). n) ns ≡ ns
map_same [] = refl
map_same (n ∷ ns) = ap (λ l. n ∷ l) (map_same ns)

range_more : (n : ℕ) → range_with_len 0 (n + 1) ≡ range_with_len 0 n ++ n ∷ []
range_more n =
    sym (map_same (range_with_len 0 (n + 1))) ∙ map-range_with_len_more (λ (k : ℕ). k) 0 n n (omega arith) ∙ ap (λ (l : List ℕ). l ++ n ∷ []) (map_same (range_with_len 0 n))

pub first_more : (items : List Entry) (n : ℕ) (order more : List KeyPlace) (o : KeyPlace) (item : Entry) → n < length items → item ≡ get_or items n item → o ≡ record { key = item_key item; place = n } → AreFirst items n order → more ≡ order ++ o ∷ [] → AreFirst items (n + 1) more
first_more items n order more o item less at is h pushed =
    let place : o.place ≡ n = ap order_place is in
    subst (AreFirst items (n + 1)) (sym pushed) (record {
      places = map-append order_place order (o ∷ []) ∙ (λ i. h.places i ++ place i ∷ []) ∙ sym (range_more n);
      within = All-push (λ (q : KeyPlace). q.place < length items) order o h.within (omega arith);
      keyed = All-push (HasItsKey items) order o h.keyed (λ other. ap order_key is ∙ ap item_key (at ∙ get_or_default items n item other less ∙ ap (λ (k : ℕ). get_or items k other) (sym place)));
    })

-- keys of elements in their order ascend
pub rise_along : {X : Type 0} (key : X → ℕ) (xs : List X) (keys : List ℕ) → keys ≡ map key xs → IsNonDecreasingBy key xs → IsNonDecreasing keys
rise_along key [] keys is up i j d least within = absurd (let none = ap length is in omega arith)
rise_along key (x ∷ xs) keys is up i j d least within =
    let long = ap length is ∙ length-map (x ∷ xs) key in
    let at : (k : ℕ) → k < length (x ∷ xs) → get_or keys k d ≡ key (get_or (x ∷ xs) k x) = λ k less.
    ap (λ (ks : List ℕ). get_or ks k d) is ∙ get_or-map key (x ∷ xs) k x d less in
    let rise = up i j x least (omega arith) in
    let low = at i (omega arith) in
    let high = at j (omega arith) in
    omega arith

map_agree : {X Y : Type 0} (f g : X → Y) (xs : List X) → All (λ x. f x ≡ g x) xs → map f xs ≡ map g xs
map_agree f g [] h = refl
map_agree f g (x ∷ xs) h =
    let here : f x ≡ g x = h 0 x (omega arith) in
    let rest = map_agree f g xs (λ k d less. h (suc k) d (omega arith)) in
    λ i. here i ∷ rest i

-- some entry
abbrev pub any_entry : Entry
any_entry = Cell (record { level = 0; key = 0 }) (moment_of [])

-- the items of an order have their keys
pub keys_of_order : (sent items : List Entry) (order : List KeyPlace) → ((item : Entry) → items ≡ map (λ o. get_or sent o.place item) order) → All (HasItsKey sent) order → map item_key items ≡ map order_key order
keys_of_order sent items order moved keyed =
    ap (map item_key) (moved any_entry) ∙ map-map item_key (λ (o : KeyPlace). get_or sent o.place any_entry) order
    ∙ sym (map_agree order_key (λ (o : KeyPlace). item_key (get_or sent o.place any_entry)) order (λ k d less. keyed k d less any_entry))

-- items in an order, with one more
pub moved_more : (sent moved more : List Entry) (order : List KeyPlace) (n : ℕ) (o : KeyPlace) (item other : Entry) → n < length order → o ≡ get_or order n o → o.place < length sent → item ≡ get_or sent o.place item → moved ≡ map (λ o. get_or sent o.place other) (take n order) → more ≡ moved ++ item ∷ [] → more ≡ map (λ o. get_or sent o.place other) (take (n + 1) order)
moved_more sent moved more order n o item other less at inside read before pushed =
    let f : KeyPlace → Entry = λ o. get_or sent o.place other in
    let value : item ≡ f o = read ∙ get_or_default sent o.place item other inside in
    pushed ∙ (λ i. before i ++ value i ∷ []) ∙ sym (map-append f (take n order) (o ∷ []))
    ∙ ap (map f) ((λ i. take n order ++ at i ∷ []) ∙ sym (take_more order n o less))

-- placed items are those that were sent, in another order
pub placed_permutation : (sent items : List Entry) (places : List ℕ) → ArePlaced sent places items → IsPermutation sent items
placed_permutation sent items places h =
    let f : ℕ → Entry = λ k. get_or sent k any_entry in
    let all : sent ≡ map f (range_with_len 0 (length sent)) = fill_by_all f sent (length sent) any_entry refl (λ k less. refl) in
    subst (λ (es : List Entry). IsPermutation es items) (sym all)
    (subst (IsPermutation (map f (range_with_len 0 (length sent)))) (sym (h.items_are any_entry)) (IsPermutation-map f (range_with_len 0 (length sent)) places h.each_once))

-- the places of an order of all items
pub placed_by_order : (sent items : List Entry) (order : List KeyPlace) (places : List ℕ) → places ≡ map order_place order → IsPermutation (range_with_len 0 (length sent)) (map order_place order) → ((item : Entry) → items ≡ map (λ o. get_or sent o.place item) order) → ArePlaced sent places items
placed_by_order sent items order places is each moved = record {
  each_once = subst (IsPermutation (range_with_len 0 (length sent))) (sym is) each;
  items_are = λ item. moved item ∙ sym (map-map (λ (k : ℕ). get_or sent k item) order_place order) ∙ ap (map (λ k. get_or sent k item)) (sym is);
}

-- whether two items are one particle
abbrev same_one : Entry → Entry → Bool
same_one (One p) (One q) = nat_eq p.id q.id
same_one (One p) (Cell d n) = false
same_one (Cell c m) f = false

flipped : (m n : ℕ) → nat_eq m n ≡ nat_eq n m
flipped m n = elim (cases_order m n) [
  | inl e ↦ eq-eqb m n e ∙ sym (eq-eqb n m (sym e))
  | inr h ↦
      let apart : m ≢ n = λ e. elim h [ inl less ↦ omega arith | inr more ↦ omega arith ] in
      ne_eqb m n apart ∙ sym (ne_eqb n m (λ e. apart (sym e)))
]

same_one-flips : (e f : Entry) → same_one e f ≡ same_one f e
same_one-flips (One p) (One q) = flipped p.id q.id
same_one-flips (One p) (Cell d n) = refl
same_one-flips (Cell c m) (One q) = refl
same_one-flips (Cell c m) (Cell d n) = refl

apart_before : (e f : Entry) → comes_before e f ≡ true → same_one e f ≡ false
apart_before (One p) (One q) h = (let less = ltb-true p.id q.id h in ne_eqb p.id q.id (λ e. omega arith))
apart_before (One p) (Cell d n) h = refl
apart_before (Cell c m) f h = refl

ordered_apart : (es : List Entry) → IsInListOrder es → IsDistinct same_one es
ordered_apart es order = IsDistinct-from_apart same_one es (λ i j d less within. apart_before (get_or es i d) (get_or es j d) (order i j d less within))

places_apart : (es : List Entry) → IsDistinct same_one es → (k l : ℕ) (p q : Particle) → slice_get es k ≡ Some (One p) → slice_get es l ≡ Some (One q) → p.id ≡ q.id → k < l → ⊥
places_apart es apart k l p q at_k at_l same less =
    let within = slice_get_within es l (One q) at_l in
    let other = apart_from_distinct same_one es k l (One p) apart less within in
    let one = get_or_from_slice_get es k (One p) (One p) at_k in
    let two = get_or_from_slice_get es l (One q) (One p) at_l in
    true≢false (sym (eq-eqb p.id q.id same) ∙ (λ i. same_one (sym one i) (sym two i)) ∙ other)

pub places_distinct : (es items : List Entry) → IsInListOrder es → IsPermutation es items → HaveDistinctPlaces items
places_distinct es items order same k l p q at_k at_l id =
    let apart = IsDistinct-IsPermutation same_one same_one-flips es items same (ordered_apart es order) in
    elim (cases_order k l) [
      | inl e ↦ e
      | inr h ↦ elim h [
        | inl less ↦ absurd (places_apart items apart k l p q at_k at_l id less)
        | inr more ↦ absurd (places_apart items apart l k q p at_l at_k (sym id) more)
      ]
    ]

tree_ordered : (is : List Particle) (es : List Entry) → IsInListOrder es → IsInListOrder (tree_for is es)
tree_ordered [] es order = λ i j d less within. absurd (omega arith)
tree_ordered (p ∷ is) es order = order

pub essential_ordered : ListsHoldTheirEntries → SomeHaveDistinctIds → (t : Criterion) (g : Division) (js : List Particle) (src dst : ℕ) → AreBodies js → IsInListOrder (essential_tree t g js src dst)
unfolding essential_tree
essential_ordered laws some t g js src dst bodies =
    let mine = particles_of g js src in
    let box = domain_box g js dst in
    tree_ordered (particles_of g js dst) (list_of t box mine) ((laws t box mine (list_of t box mine) (some _ js bodies.distinct)).1 refl).ordered

-- the same, where lists are read through others
pub moved_along : (sent from items : List Entry) (order by : List KeyPlace) → from ≡ sent → by ≡ order → ((item : Entry) → items ≡ map (λ o. get_or from o.place item) by) → (item : Entry) → items ≡ map (λ o. get_or sent o.place item) order
moved_along sent from items order by sent_is order_is moved item = moved item ∙ (λ i. map (λ (o : KeyPlace). get_or (sent_is i) o.place item) (order_is i))

pub placed_along : (sent first from items : List Entry) (order by through : List KeyPlace) (places : List ℕ) → first ≡ sent → from ≡ sent → by ≡ order → through ≡ order → places ≡ map order_place through → IsPermutation (range_with_len 0 (length first)) (map order_place order) → ((item : Entry) → items ≡ map (λ o. get_or from o.place item) by) → ArePlaced sent places items
placed_along sent first from items order by through places first_is from_is by_is through_is places_are each moved =
    placed_by_order sent items order places (places_are ∙ ap (map order_place) through_is) (subst (λ (es : List Entry). IsPermutation (range_with_len 0 (length es)) (map order_place order)) first_is each)
    (moved_along sent from items order by from_is by_is moved)
