use Rattle.std.proofs.Common.{◌≡◌, ◌-◌, ◌/◌, ◌^◌, ◌<◌, ◌≤◌, true, false, length, rules, of_calls, sym, ◌∙◌, ap, eqb}
use Rattle.std.specs.List.Sorted.{IsPartitionPoint}
use Rattle.std.proofs.lemmas.Bool.{ltb-true, ltb-false}
use Rattle.std.proofs.lemmas.List.Sorted.{IsPartitionedBy-ltb}
use Rattle.std.proofs.lemmas.Fn.{always_returns_same}
use Rattle.pf_geom.specs.Key.{morton_key}
use Rattle.pf_geom.specs.Octant.{Octant}
use Rattle.pf_model.specs.Particle.{Particle}
use Rattle.group_lists.proofs.SearchLemmas.{found_at, found_none}
use Rattle.group_lists.proofs.KeyedLemmas.{place_key, keys_rise, cells_ascend, is_cell_of, is_lower, is_cell_by_key, cell_stands_first}
use Rattle.group_lists.proofs.occupied.has_bodies_in.Goals as goal

pub returns-in-Some : goal.returns-in-Some
returns-in-Some c =
    let cell = c.args.cell in
    let js = c.args.bodies.now in
    let j : Particle = c.in-Some.body.now in
    let place = c.partition_point-place.result in
    let rise = keys_rise js c.requires in
    let point : IsPartitionPoint (λ i. is_lower place_key cell i ≡ true) (λ i. is_lower place_key cell i ≡ false) js place =
    c.partition_point-place.ensures.partitioned (is_lower place_key cell) (always_returns_same _ _ _ (λ a r f k. search (rules, of_calls)))
    (IsPartitionedBy-ltb (λ (i : Particle). place_key i / 8 ^ (30 - cell.level)) js cell.key (cells_ascend place_key cell.level js rise)) in
    let look = c.in-Some.ensures.lookup in
    let within : place < length js = ltb-true place (length js) (sym look.0) in
    let key : c.result.inside.key ≡ place_key j / 8 ^ (30 - cell.level) =
    ap (λ (o : Octant). o.key) (c.result.view_is ∙ c.cell_of.ensures) ∙ (λ i. morton_key (c.body.view_is i).at / 8 ^ (30 - (c.cell.view_is i).level)) in
    let own : c.cell.inside.key ≡ cell.key = ap (λ (o : Octant). o.key) c.cell.view_is in
    let test = is_cell_by_key cell (place_key j / 8 ^ (30 - cell.level)) (eqb c.result.inside.key c.cell.inside.key) (λ i. eqb (key i) (own i)) in
    sym (found_at (is_lower place_key cell) (is_cell_of place_key cell) js place j _ (cell_stands_first place_key cell js rise) point within (sym look.1) test)

pub returns-in-None : goal.returns-in-None
returns-in-None c =
    let cell = c.args.cell in
    let js = c.args.bodies.now in
    let place = c.partition_point-place.result in
    let rise = keys_rise js c.requires in
    let point : IsPartitionPoint (λ i. is_lower place_key cell i ≡ true) (λ i. is_lower place_key cell i ≡ false) js place =
    c.partition_point-place.ensures.partitioned (is_lower place_key cell) (always_returns_same _ _ _ (λ a r f k. search (rules, of_calls)))
    (IsPartitionedBy-ltb (λ (i : Particle). place_key i / 8 ^ (30 - cell.level)) js cell.key (cells_ascend place_key cell.level js rise)) in
    let look = c.in-None.ensures.lookup in
    let none : length js ≤ place = ltb-false place (length js) (sym look.0) in
    sym (found_none (is_lower place_key cell) (is_cell_of place_key cell) js place (cell_stands_first place_key cell js rise) point none)
