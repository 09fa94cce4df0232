use Rattle.std.proofs.Common.{◌≡◌, ℕ, ◌+◌, ◌-◌, ◌≤◌, List, length, take, drop, refl, ◌∙◌, ap, arith}
use Rattle.pf_geom.specs.Octant.{Octant}
use Rattle.pf_model.specs.Particle.{Particle}
use Rattle.pf_model.specs.Group.{particles_in, group_cell, box_of}
use Rattle.morton_tree.specs.Groups.{group_in}
use Rattle.morton_tree.proofs.SpanLemmas.{some_members}
use Rattle.morton_tree.proofs.tree.Tree.group_at.Goals as goal

members_are : (c : goal.After-members-1) → take (c.group_cell-cell.result.1.first + c.group_cell-cell.result.1.len - c.group_cell-cell.result.1.first) (drop c.group_cell-cell.result.1.first c.bodies.result.now) ≡ particles_in c.group_cell-cell.result.0 c.args.self.now.built
members_are c =
    let first = c.group_cell-cell.result.1.first in
    let len = c.group_cell-cell.result.1.len in
    let same : c.bodies.result.now ≡ c.args.self.now.built = c.bodies.ensures.value ∙ c.requires.unmoved in
    let long : first + len - first ≡ len = omega arith in
    ap (λ (n : ℕ). take n (drop first c.bodies.result.now)) long ∙ ap (λ (js : List Particle). take len (drop first js)) same ∙ c.group_cell-cell.ensures.members

pub box_of-requires : goal.box_of-requires
box_of-requires c =
    let own = c.args.self.now.built in
    let cell = group_cell c.args.limit own c.args.body.now.at in
    let at = ap (λ (j : Particle). group_cell c.args.limit own j.at) c.body.view_is in
    let some : 1 ≤ length (particles_in cell own) = some_members cell own c.args.body.now c.requires.own refl in
    let count = ap length (members_are c) ∙ ap (λ (o : Octant). length (particles_in o own)) (c.group_cell-cell.ensures.cell ∙ at) in
    omega arith

pub returns : goal.returns
returns c =
    let own = c.args.self.now.built in
    let at = ap (λ (j : Particle). group_cell c.args.limit own j.at) c.body.view_is in
    let span = c.group_cell-cell.ensures.span in
    let around = c.box_of.ensures ∙ ap box_of (members_are c.before) in
    (λ i. record { cell = c.group_cell-cell.result.0; span = span i; around = around i }) ∙ ap (group_in own) (c.group_cell-cell.ensures.cell ∙ at)
