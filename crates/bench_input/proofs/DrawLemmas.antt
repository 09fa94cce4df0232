-- The generator's states, and the particles that stand at its draws.
use Rattle.std.proofs.Common.{◌≡◌, ℕ, zero, suc, ◌+◌, ◌≤◌, ◌∷◌, map, refl, sym, ap, subst, arith}
use Rattle.std.specs.List.{IsDistinct, range_with_len}
use Rattle.std.specs.Prelude.{nat_eq}
use Rattle.std.proofs.lemmas.Bool.Decides.{Decides-eqb}
use Rattle.std.proofs.lemmas.List.FromFn.{length-range_with_len, get_or-range_with_len, length-map-range_with_len}
use Rattle.std.proofs.lemmas.Map.Made.{IsDistinct-from_AllPairs}
use Rattle.pf_model.specs.Particles.{AreBodies}
use Rattle.bench_input.specs.Generator.{next_state, state_after, particle, particles}

pub state_after_none : (seed : ℕ) → seed ≡ state_after seed 0
unfolding state_after
state_after_none seed = refl

pub state_after_more : (seed before after : ℕ) → after ≡ suc before → state_after seed after ≡ next_state (state_after seed before)
unfolding state_after
state_after_more seed before after more = ap (state_after seed) more

numbers_differ : (start len : ℕ) → IsDistinct nat_eq (range_with_len start len)
numbers_differ start len =
    IsDistinct-from_AllPairs Decides-eqb (range_with_len start len)
    (λ i j d less within.
    let long = length-range_with_len start len in
    let a = get_or-range_with_len start len i d (omega arith) in
    let b = get_or-range_with_len start len j d (omega arith) in
    λ same. omega arith)

ids_are_numbers : (seed start len : ℕ) → map (λ j. j.id) (map (particle seed) (range_with_len start len)) ≡ range_with_len start len
ids_are_numbers seed start zero = refl
ids_are_numbers seed start (suc len) = ap (λ ids. start ∷ ids) (ids_are_numbers seed (start + 1) len)

pub AreBodies-particles : (seed count : ℕ) → count ≤ 65536 → AreBodies (particles seed count)
AreBodies-particles seed count few = record {
  few = (let long = length-map-range_with_len (particle seed) 1 count in omega arith);
  distinct = subst (IsDistinct nat_eq) (sym (ids_are_numbers seed 1 count)) (numbers_differ 1 count);
}
