-- How many particles the entries of a list stand for together.
use Rattle.std.proofs.Common.{◌≡◌, ℕ, ◌+◌, ◌≤◌, Bool, true, false, cond, List, [], ◌∷◌, length, Option, Some, None, refl, sym, ◌∙◌, ap, arith}
use Rattle.std.specs.List.{filter, sum_by, IsDistinct}
use Rattle.std.specs.List.Sorted.{IsPermutation}
use Rattle.std.proofs.lemmas.Bool.{cond_both}
use Rattle.std.proofs.lemmas.List.Sums.{sum_by-cons}
use Rattle.std.proofs.lemmas.List.Sorted.{sum_by-IsPermutation, length_permutation}
use Rattle.pf_geom.specs.Bounds.{Bounds}
use Rattle.pf_geom.specs.Octant.{cell_at}
use Rattle.pf_model.specs.declared.entry.Entry.{Entry}
use Rattle.pf_model.specs.declared.entry.Entry.TheVariants.{Cell, One}
use Rattle.pf_model.specs.Particle.{Particle}
use Rattle.pf_model.specs.Particles.{AreBodies, HaveDistinctIds}
use Rattle.pf_model.specs.Criterion.{Criterion}
use Rattle.pf_model.specs.Division.{Division}
use Rattle.pf_model.specs.Domains.{particles_of, domain_box}
use Rattle.pf_model.specs.Sums.{moment_of}
use Rattle.pf_model.specs.Interaction.{level_of, leads_to_cell, entry_at, entry_of, comes_before, list_of}
use Rattle.pf_model.specs.Merging.{joined, with_entry, merged}
use Rattle.model_laws.specs.MergingLaws.{ListsMerge}
use Rattle.model_laws.specs.ListLaws.{ListsAreShort}
use Rattle.model_laws.specs.ParticleLaws.{SomeHaveDistinctIds}
use Rattle.pf_model.specs.EssentialTree.{tree_for, essential_tree}
use Rattle.pf_model.specs.Sufficiency.{entry_moment, moment_together}

-- how many particles an entry stands for
abbrev pub entry_count : Entry → ℕ
entry_count e = (entry_moment e).count

pub counted_by : (js : List Particle) → (moment_of js).count ≡ length js
unfolding moment_of
counted_by js = refl

pub count_together : (es : List Entry) → (moment_together es).count ≡ sum_by entry_count es
count_together [] = counted_by []
count_together (e ∷ es) = ap (λ (n : ℕ). entry_count e + n) (count_together es) ∙ sym (sum_by-cons entry_count e es)

count_joined : (e f : Entry) → entry_count (joined e f) ≤ entry_count e + entry_count f
count_joined (Cell c m) (Cell d n) = omega arith
count_joined (Cell c m) (One q) = omega arith
count_joined (One p) f = omega arith

count_with : (e : Entry) (fs : List Entry) → sum_by entry_count (with_entry e fs) ≤ entry_count e + sum_by entry_count fs
count_with e [] = omega arith
count_with e (f ∷ fs) =
    let P : List Entry → Type 0 = λ l. sum_by entry_count l ≤ entry_count e + sum_by entry_count (f ∷ fs) in
    let all = sum_by-cons entry_count f fs in
    cond_both (comes_before e f) (e ∷ f ∷ fs) _ P (λ _. let sum = sum_by-cons entry_count e (f ∷ fs) in omega arith) (λ _.
    cond_both (comes_before f e) (f ∷ with_entry e fs) (joined e f ∷ fs) P (λ _. let rest = count_with e fs in let sum = sum_by-cons entry_count f (with_entry e fs) in omega arith)
    (λ _. let one = count_joined e f in let sum = sum_by-cons entry_count (joined e f) fs in omega arith))

kept_one : (b : Bool) (j : Particle) → length (cond b (j ∷ []) []) ≤ 1
kept_one true j = omega arith
kept_one false j = omega arith

count_alone : (t : Criterion) (box : Bounds) (j : Particle) (o : Option ℕ) → entry_count (entry_at t box (j ∷ []) j o) ≤ 1
count_alone t box j None = omega (arith, counted_by (j ∷ []))
count_alone t box j (Some level) =
    let test = leads_to_cell t box (cell_at j.at level) in
    let kept = kept_one (test j) j in
    omega (arith, counted_by (filter test (j ∷ [])))

distinct_rest : (j : Particle) (js : List Particle) → HaveDistinctIds (j ∷ js) → HaveDistinctIds js
unfolding IsDistinct
distinct_rest j js h = h.1

list_more : ListsMerge → (t : Criterion) (box : Bounds) (j : Particle) (js : List Particle) → HaveDistinctIds (j ∷ js) → list_of t box (j ∷ js) ≡ with_entry (entry_of t box (j ∷ []) j) (list_of t box js)
unfolding list_of merged
list_more merge t box j js distinct = merge t box (j ∷ []) js distinct

list_none : (t : Criterion) (box : Bounds) → list_of t box [] ≡ []
unfolding list_of
list_none t box = refl

-- no more than there are
pub list_total : ListsMerge → (t : Criterion) (box : Bounds) (js : List Particle) → HaveDistinctIds js → sum_by entry_count (list_of t box js) ≤ length js
list_total merge t box [] distinct = let none = ap (sum_by entry_count) (list_none t box) in omega arith
list_total merge t box (j ∷ js) distinct =
    let more = ap (sum_by entry_count) (list_more merge t box j js distinct) in
    let with = count_with (entry_of t box (j ∷ []) j) (list_of t box js) in
    let one = count_alone t box j (level_of t box j.at) in
    let rest = list_total merge t box js (distinct_rest j js distinct) in
    omega arith

pub length-filter-le : (test : Particle → Bool) (js : List Particle) → length (filter test js) ≤ length js
length-filter-le test [] = omega arith
length-filter-le test (j ∷ js) =
    let rest = length-filter-le test js in
    cond_both (test j) _ _ (λ l. length l ≤ length (j ∷ js)) (λ _. omega arith) (λ _. omega arith)

-- so it is of an essential tree, whose items are few
tree_total : (is : List Particle) (es : List Entry) → sum_by entry_count es ≤ 65536 → sum_by entry_count (tree_for is es) ≤ 65536
tree_total [] es few = omega arith
tree_total (i ∷ is) es few = few

tree_short : (is : List Particle) (es : List Entry) → length es ≤ 65536 → length (tree_for is es) ≤ 65536
tree_short [] es few = omega arith
tree_short (i ∷ is) es few = few

pub essential_total : ListsMerge → SomeHaveDistinctIds → (t : Criterion) (g : Division) (js : List Particle) (src dst : ℕ) → AreBodies js → sum_by entry_count (essential_tree t g js src dst) ≤ 65536
unfolding essential_tree
essential_total merge some t g js src dst bodies =
    let own = particles_of g js src in
    let total = list_total merge t (domain_box g js dst) own (some _ js bodies.distinct) in
    let kept : length own ≤ length js = length-filter-le _ js in
    let few = bodies.few in
    tree_total (particles_of g js dst) (list_of t (domain_box g js dst) own) (omega arith)

pub essential_short : ListsAreShort → (t : Criterion) (g : Division) (js : List Particle) (src dst : ℕ) → AreBodies js → length (essential_tree t g js src dst) ≤ 65536
unfolding essential_tree
essential_short short t g js src dst bodies =
    let own = particles_of g js src in
    let long = short t (domain_box g js dst) own in
    let kept : length own ≤ length js = length-filter-le _ js in
    let few = bodies.few in
    tree_short (particles_of g js dst) (list_of t (domain_box g js dst) own) (omega arith)

-- also in another order
pub few_together : (es fs : List Entry) → IsPermutation es fs → sum_by entry_count es ≤ 65536 → (moment_together fs).count ≤ 65536
few_together es fs same few = let sum = sum_by-IsPermutation entry_count es fs same in let count = count_together fs in omega arith

pub short_together : (es fs : List Entry) → IsPermutation es fs → length es ≤ 65536 → length fs ≤ 65536
short_together es fs same few = let long = length_permutation es fs same in omega arith
