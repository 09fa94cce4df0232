use Rattle.std.proofs.Common.{◌≡◌, ℕ, arith, rules, of_calls}
use Rattle.std.proofs.lemmas.Bool.Decides.{nat_tests}
use Rattle.std.specs.Prelude.{nat_eq}
use Rattle.std.proofs.lemmas.List.Sorted.{IsPermutation-map, IsNonDecreasingBy-from_sort_by_key}
use Rattle.std.proofs.lemmas.Map.Keys.{IsDistinct-IsPermutation}
use Rattle.force_phase.specs.declared.phase.IdRow.{IdRow}
use Rattle.force_phase.proofs.found.sort_by_id.Goals as goal

either_way : (x y : ℕ) → nat_eq x y ≡ nat_eq y x
either_way x y = grind (arith, nat_tests)

pub returns : goal.returns
returns c =
    let sorted = c.sort_unstable_by_key.new.self in
    let moved = c.sort_unstable_by_key.ensures.permutation in
    record {
      same = moved;
      in_order =
          c.distinct_keys_rise.ensures (λ r. r.id) sorted (IsDistinct-IsPermutation nat_eq either_way _ _ (IsPermutation-map (λ r. r.id) _ sorted moved) c.requires)
          (IsNonDecreasingBy-from_sort_by_key (λ (r : IdRow). r.id) sorted c.sort_unstable_by_key.ensures.sorted (λ a r f k. search (rules, of_calls)));
    }
