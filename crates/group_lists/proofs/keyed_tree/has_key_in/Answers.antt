use Rattle.std.proofs.Common.{◌≡◌, ℕ, ◌-◌, ◌/◌, ◌^◌, ◌<◌, ◌≤◌, true, false, length, rules, of_calls, sym, ◌∙◌, ap, eqb}
use Rattle.std.specs.List.Sorted.{IsPartitionPoint}
use Rattle.std.proofs.lemmas.Bool.{ltb-true, ltb-false}
use Rattle.std.proofs.lemmas.List.Sorted.{IsPartitionedBy-ltb}
use Rattle.std.proofs.lemmas.Fn.{always_returns_same}
use Rattle.pf_geom.specs.Octant.{Octant}
use Rattle.group_lists.proofs.SearchLemmas.{found_at, found_none}
use Rattle.group_lists.proofs.KeyedLemmas.{cells_ascend, is_cell_of, is_lower, is_cell_by_key, cell_stands_first}
use Rattle.group_lists.proofs.keyed_tree.has_key_in.Goals as goal

abbrev itself : ℕ → ℕ
itself n = n

pub returns-in-Some : goal.returns-in-Some
returns-in-Some c =
    let cell = c.args.cell in
    let ks = c.args.keys.now in
    let k : ℕ = c.in-Some.key.now in
    let place = c.partition_point-place.result in
    let point : IsPartitionPoint (λ i. is_lower itself cell i ≡ true) (λ i. is_lower itself cell i ≡ false) ks place =
    c.partition_point-place.ensures.partitioned (is_lower itself cell) (always_returns_same _ _ _ (λ a r f k. search (rules, of_calls)))
    (IsPartitionedBy-ltb (λ (i : ℕ). i / 8 ^ (30 - cell.level)) ks cell.key (cells_ascend itself cell.level ks c.requires)) in
    let look = c.in-Some.ensures.lookup in
    let within : place < length ks = ltb-true place (length ks) (sym look.0) in
    let key : c.cell_key.result ≡ k / 8 ^ (30 - cell.level) = c.cell_key.ensures ∙ (λ i. k / 8 ^ (30 - (c.cell.view_is i).level)) in
    let own : c.cell.inside.key ≡ cell.key = ap (λ (o : Octant). o.key) c.cell.view_is in
    let test = is_cell_by_key cell (k / 8 ^ (30 - cell.level)) (eqb c.cell_key.result c.cell.inside.key) (λ i. eqb (key i) (own i)) in
    sym (found_at (is_lower itself cell) (is_cell_of itself cell) ks place k _ (cell_stands_first itself cell ks c.requires) point within (sym look.1) test)

pub returns-in-None : goal.returns-in-None
returns-in-None c =
    let cell = c.args.cell in
    let ks = c.args.keys.now in
    let place = c.partition_point-place.result in
    let point : IsPartitionPoint (λ i. is_lower itself cell i ≡ true) (λ i. is_lower itself cell i ≡ false) ks place =
    c.partition_point-place.ensures.partitioned (is_lower itself cell) (always_returns_same _ _ _ (λ a r f k. search (rules, of_calls)))
    (IsPartitionedBy-ltb (λ (i : ℕ). i / 8 ^ (30 - cell.level)) ks cell.key (cells_ascend itself cell.level ks c.requires)) in
    let look = c.in-None.ensures.lookup in
    let none : length ks ≤ place = ltb-false place (length ks) (sym look.0) in
    sym (found_none (is_lower itself cell) (is_cell_of itself cell) ks place (cell_stands_first itself cell ks c.requires) point none)
