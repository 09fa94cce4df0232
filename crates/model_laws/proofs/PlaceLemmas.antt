-- The places of entries in lists, and lists without cells.
use Rattle.std.proofs.Common.{◌≡◌, ℕ, true, List, [], ◌∷◌, map, inl, inr, Option, Some, None, refl, sym, ◌∙◌, ap, arith}
use Rattle.std.specs.List.{All}
use Rattle.std.specs.Prelude.{nat_lt}
use Rattle.std.proofs.lemmas.Bool.{ltb-true, lt-ltb, false≢true, false_from_ne_true}
use Rattle.std.proofs.lemmas.List.Elements.{All-head, All-tail}
use Rattle.pf_geom.specs.Bounds.{Bounds}
use Rattle.order_laws.specs.Order.{in_order_once}
use Rattle.order_laws.specs.OrderLaws.{MapsKeepOrders}
use Rattle.pf_model.specs.declared.entry.Entry.{Entry}
use Rattle.pf_model.specs.declared.entry.Entry.TheVariants.{Cell, One}
use Rattle.pf_model.specs.Particle.{Particle}
use Rattle.pf_model.specs.Criterion.{Criterion}
use Rattle.pf_model.specs.Interaction.{level_of, entry_at, entry_of, comes_before, entry_place, list_of}
use Rattle.model_laws.specs.ListLaws.{NonePasses, ListsOfNearAreParticles, EntryOrderIsStrict, HasLevel, IsLowerPlace, EntriesHaveLevels, EntriesStandByPlace, EntriesAtOnePlaceAreOne}
use Rattle.order_laws.proofs.ElementLemmas.{in_from_contains}
use Rattle.pf_model.proofs.EntryLemmas.{comes_before-strict, pair_below, pair_before_from, entries-connected}
use Rattle.model_laws.proofs.LevelLemmas.{level_from_none, first_from_level}

-- ---- places

pub entry_order_is_strict : EntryOrderIsStrict
entry_order_is_strict = record { irreflexive = comes_before-strict.irreflexive; transitive = comes_before-strict.transitive }

has_level_at : (t : Criterion) (box : Bounds) (js : List Particle) (j : Particle) (o : Option ℕ) → level_of t box j.at ≡ o → HasLevel (entry_at t box js j o)
has_level_at t box js j None e = tt
has_level_at t box js j (Some level) e = (first_from_level t box j.at level e).within

pub entries_have_levels : EntriesHaveLevels
entries_have_levels t box js j = has_level_at t box js j (level_of t box j.at) refl

place_from_before : (e f : Entry) → HasLevel e → HasLevel f → comes_before e f ≡ true → IsLowerPlace (entry_place e) (entry_place f)
place_from_before (Cell c m) (Cell d n) low high h = pair_below c.level c.key d.level d.key h
place_from_before (Cell c m) (One q) low high h = inl (omega arith)
place_from_before (One p) (Cell d n) low high h = absurd (false≢true h)
place_from_before (One p) (One q) low high h = inr (refl, ltb-true p.id q.id h)

before_from_place : (e f : Entry) → HasLevel e → HasLevel f → IsLowerPlace (entry_place e) (entry_place f) → comes_before e f ≡ true
before_from_place (Cell c m) (Cell d n) low high h = pair_before_from c.level c.key d.level d.key h
before_from_place (Cell c m) (One q) low high h = refl
before_from_place (One p) (Cell d n) low high (inl less) = absurd (omega arith)
before_from_place (One p) (Cell d n) low high (inr both) = absurd (let same : 31 ≡ d.level = both.0 in omega arith)
before_from_place (One p) (One q) low high (inl less) = absurd (omega arith)
before_from_place (One p) (One q) low high (inr both) = lt-ltb p.id q.id both.1

pub entries_stand_by_place : EntriesStandByPlace
entries_stand_by_place e f low high = (place_from_before e f low high, before_from_place e f low high)

not_lower : (a b : ℕ × ℕ) → a ≡ b → IsLowerPlace a b → ⊥
not_lower a b same (inl less) = (let level = ap (λ (v : ℕ × ℕ). v.0) same in absurd (omega arith))
not_lower a b same (inr both) = (let key = ap (λ (v : ℕ × ℕ). v.1) same in let less = both.1 in absurd (omega arith))

pub entries_at_one_place_are_one : EntriesAtOnePlaceAreOne
entries_at_one_place_are_one t box js i j distinct h k same =
    let e = entry_of t box js i in
    let f = entry_of t box js j in
    let low = entries_have_levels t box js i in
    let high = entries_have_levels t box js j in
    let not_before = false_from_ne_true (comes_before e f) (λ b. not_lower (entry_place e) (entry_place f) same (place_from_before e f low high b)) in
    let not_after = false_from_ne_true (comes_before f e) (λ b. not_lower (entry_place f) (entry_place e) (sym same) (place_from_before f e high low b)) in
    sym (entries-connected t box js distinct i j (level_of t box i.at) (level_of t box j.at) (in_from_contains js i h) (in_from_contains js j k) not_before not_after)

-- ---- lists without cells

all_near : (t : Criterion) (box : Bounds) (js ks : List Particle) → All (λ k. NonePasses t box k.at) ks → map (entry_of t box js) ks ≡ map One ks
all_near t box js [] near = refl
all_near t box js (k ∷ ks) near =
    let P : Particle → Type 0 = λ q. NonePasses t box q.at in
    let head = level_from_none t box k.at (All-head P k ks near) in
    let tail = all_near t box js ks (All-tail P k ks near) in
    λ i. entry_at t box js k (head i) ∷ tail i

pub lists_of_near_are_particles : MapsKeepOrders Particle Entry → ListsOfNearAreParticles
unfolding list_of
lists_of_near_are_particles keep t box js near =
    ap (in_order_once comes_before) (all_near t box js js near) ∙ keep One (λ p q. nat_lt p.id q.id) comes_before js (λ p q. refl)
