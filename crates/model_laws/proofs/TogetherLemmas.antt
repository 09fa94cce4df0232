-- Moments joined, in any order.
use Rattle.std.proofs.Common.{◌≡◌, ℕ, ◌+◌, ℤ, ◌+ℤ◌, List, [], ◌∷◌, get_or, refl, sym, ◌∙◌, ap, arith}
use Rattle.std.proofs.lemmas.Int.{ints}
use Rattle.pf_model.specs.declared.entry.Entry.{Entry}
use Rattle.pf_model.specs.Totals.{Totals}
use Rattle.pf_model.specs.Sums.{moment_of, pairwise_sums, together}
use Rattle.pf_model.specs.Sufficiency.{entry_moment, moment_together}
use Rattle.model_laws.specs.MomentLaws.{MomentsJoinInAnyOrder, EntriesJoinTheirMoments, EntriesJoinInAnyOrder}
use Rattle.order_laws.proofs.PermutationLemmas.{along_permutation}

sums_comm : (xs ys : List ℤ) → pairwise_sums xs ys ≡ pairwise_sums ys xs
sums_comm [] [] = refl
sums_comm [] (y ∷ ys) = refl
sums_comm (x ∷ xs) [] = refl
sums_comm (x ∷ xs) (y ∷ ys) =
    let head : x +ℤ y ≡ y +ℤ x = omega (arith, ints) in
    let rest = sums_comm xs ys in
    λ i. head i ∷ rest i

sums_assoc : (xs ys zs : List ℤ) → pairwise_sums (pairwise_sums xs ys) zs ≡ pairwise_sums xs (pairwise_sums ys zs)
sums_assoc [] ys zs = refl
sums_assoc (x ∷ xs) [] zs = refl
sums_assoc (x ∷ xs) (y ∷ ys) [] = refl
sums_assoc (x ∷ xs) (y ∷ ys) (z ∷ zs) =
    let head : (x +ℤ y) +ℤ z ≡ x +ℤ (y +ℤ z) = omega (arith, ints) in
    let rest = sums_assoc xs ys zs in
    λ i. head i ∷ rest i

together-comm : (m n : Totals) → together m n ≡ together n m
together-comm m n =
    let count : m.count + n.count ≡ n.count + m.count = omega arith in
    let mass : m.mass + n.mass ≡ n.mass + m.mass = omega arith in
    let each : (k : ℕ) → get_or m.weighted k 0 + get_or n.weighted k 0 ≡ get_or n.weighted k 0 + get_or m.weighted k 0 = λ k. omega arith in
    λ i. record { count = count i; mass = mass i; weighted = each 0 i ∷ each 1 i ∷ each 2 i ∷ []; attr = sums_comm m.attr n.attr i }

together-assoc : (m n o : Totals) → together (together m n) o ≡ together m (together n o)
together-assoc m n o =
    let count : (m.count + n.count) + o.count ≡ m.count + (n.count + o.count) = omega arith in
    let mass : (m.mass + n.mass) + o.mass ≡ m.mass + (n.mass + o.mass) = omega arith in
    let each : (k : ℕ) → (get_or m.weighted k 0 + get_or n.weighted k 0) + get_or o.weighted k 0 ≡ get_or m.weighted k 0 + (get_or n.weighted k 0 + get_or o.weighted k 0) = λ k. omega arith in
    λ i. record { count = count i; mass = mass i; weighted = each 0 i ∷ each 1 i ∷ each 2 i ∷ []; attr = sums_assoc m.attr n.attr o.attr i }

pub moments_join_in_any_order : MomentsJoinInAnyOrder
moments_join_in_any_order = (together-comm, together-assoc)

-- two of three exchanged
together-turn : (m n o : Totals) → together m (together n o) ≡ together n (together m o)
together-turn m n o = sym (together-assoc m n o) ∙ ap (λ (x : Totals). together x o) (together-comm m n) ∙ together-assoc n m o

none_together : together (moment_of []) (moment_of []) ≡ moment_of []
unfolding moment_of
none_together = refl

with_none : (es : List Entry) → together (moment_of []) (moment_together es) ≡ moment_together es
with_none [] = none_together
with_none (e ∷ es) = together-turn (moment_of []) (entry_moment e) (moment_together es) ∙ ap (together (entry_moment e)) (with_none es)

pub entries_join_their_moments : EntriesJoinTheirMoments
entries_join_their_moments [] fs = sym (with_none fs)
entries_join_their_moments (e ∷ es) fs =
    ap (together (entry_moment e)) (entries_join_their_moments es fs) ∙ sym (together-assoc (entry_moment e) (moment_together es) (moment_together fs))

pub entries_join_in_any_order : EntriesJoinInAnyOrder
entries_join_in_any_order es fs h =
    along_permutation (λ (us vs : List Entry). moment_together us ≡ moment_together vs)
    (λ us. refl)
    (λ e us vs same. ap (together (entry_moment e)) same)
    (λ e f us. together-turn (entry_moment e) (entry_moment f) (moment_together us))
    (λ us vs ws p q. p ∙ q)
    es fs h
