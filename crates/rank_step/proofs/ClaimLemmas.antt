-- The groups that the lines of ranks tell are those of their lists.
use Rattle.std.proofs.Common.{◌≡◌, ℕ, suc, ◌+◌, ◌<◌, List, [], ◌∷◌, ◌++◌, length, get_or, map, flat_map, refl, arith}
use Rattle.std.proofs.lemmas.List.{length-append}
use Rattle.std.proofs.lemmas.List.Sums.{sum_by-cons}
use Rattle.group_lists.specs.Whole.{GroupList}
use Rattle.run_model.specs.declared.step_text.RankLine.{RankLine}
use Rattle.rank_step.specs.Told.{groups_told}

module _ {R : Type 0} (line : R → RankLine) (groups : R → List GroupList) where
  pub groups_counted : (rs : List R) → ((k : ℕ) (d : R) → k < length rs → (line (get_or rs k d)).groups ≡ length (groups (get_or rs k d))) → groups_told (map line rs) ≡ length (flat_map groups rs)
  groups_counted [] each = refl
  groups_counted (r ∷ rs) each =
      let split : groups_told (line r ∷ map line rs) ≡ (line r).groups + groups_told (map line rs) = sum_by-cons (λ (l : RankLine). l.groups) (line r) (map line rs) in
      let joined : length (groups r ++ flat_map groups rs) ≡ length (groups r) + length (flat_map groups rs) = length-append (groups r) (flat_map groups rs) in
      let rest : groups_told (map line rs) ≡ length (flat_map groups rs) = groups_counted rs (λ k d within. each (suc k) d (omega arith)) in
      let own : (line r).groups ≡ length (groups r) = each 0 r (omega arith) in
      omega (arith, split, joined, rest, own)
