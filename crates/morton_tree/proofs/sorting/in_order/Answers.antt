use Rattle.std.proofs.Common.{◌≡◌, ◌<◌, List, length, map, sym, ◌∙◌, ap, subst, arith}
use Rattle.std.specs.List.{All}
use Rattle.std.specs.List.Sorted.{IsPermutation}
use Rattle.std.proofs.lemmas.List.Sorted.{length_permutation}
use Rattle.pf_geom.specs.Key.{morton_key}
use Rattle.pf_model.specs.Particle.{Particle}
use Rattle.morton_tree.specs.declared.placed.Placed.{Placed}
use Rattle.morton_tree.specs.Tree.{IsOctree, unmoved_tree}
use Rattle.morton_tree.specs.Sorting.{all_placed, particle_at}
use Rattle.morton_tree.proofs.TreeLemmas.{octree_from_sort}
use Rattle.morton_tree.proofs.SortingLemmas.{put_back, placed_permutation, read_permutation, keys_are, sorted_particles}
use Rattle.morton_tree.proofs.sorting.in_order.Given as given
use Rattle.morton_tree.proofs.sorting.in_order.Goals as goal
use Rattle.morton_tree.proofs.sorting.in_order.Goals.{After-deref-2}

-- what was sorted is what was made
same : (g : given.Over) (c : After-deref-2 g) → IsPermutation (all_placed c.args.bodies.now) c.put_in_order.new.placed
same g c = subst (λ (l : List Placed). IsPermutation l c.put_in_order.new.placed) (c.deref_mut.ensures.value ∙ c.in_ok-placed.ensures) c.put_in_order.ensures.same

-- and what is read
seen : (g : given.Over) (c : After-deref-2 g) → c.deref-2.result.now ≡ c.put_in_order.new.placed
seen g c =
    put_back c.in_ok-placed.placed.len c.in_ok-placed.placed.items c.put_in_order.new.placed c.deref-2.result.now
    (let whole = c.in_ok-placed.placed.ok in omega arith)
    (length_permutation c.deref_mut.result.now c.put_in_order.new.placed c.put_in_order.ensures.same ∙ ap length c.deref_mut.ensures.value) c.deref-2.ensures.value

pub at_places-requires : goal.at_places-requires
at_places-requires g c =
    let js = c.args.bodies.now in
    let each = placed_permutation js c.put_in_order.new.placed (same g c) in
    subst (All (λ (p : Placed). p.place < length js)) (sym (seen g c)) (λ k d within. (each k d within).within)

-- the bodies are those at the places
sorted : (g : given.Over) (c : goal.After-drop-placed-2 g) → c.in_ok-sorted.sorted.items ≡ map (particle_at c.args.bodies.now) c.put_in_order.new.placed
sorted g c = c.in_ok-sorted.ensures ∙ ap (map (particle_at c.args.bodies.now)) (seen g c.before.before.before.before)

pub returns-clause-same_bodies : goal.returns-clause-same_bodies
returns-clause-same_bodies g c = subst (IsPermutation c.args.bodies.now) (sym (sorted g c)) (read_permutation c.args.bodies.now c.put_in_order.new.placed (same g c.before.before.before.before))

pub returns-clause-tree : goal.returns-clause-tree
returns-clause-tree g c =
    let js = c.args.bodies.now in
    let ps = c.put_in_order.new.placed in
    let each = placed_permutation js ps (same g c.before.before.before.before) in
    subst (λ (l : List Particle). IsOctree (unmoved_tree l)) (sym (sorted g c))
    (octree_from_sort js (map (particle_at js) ps) c.requires (read_permutation js ps (same g c.before.before.before.before)) (sorted_particles js ps each c.put_in_order.ensures.ordered))

pub returns-clause-keys : goal.returns-clause-keys
returns-clause-keys g c =
    let js = c.args.bodies.now in
    let ps = c.put_in_order.new.placed in
    let each = placed_permutation js ps (same g c.before.before.before.before) in
    c.in_ok-keys.ensures ∙ ap (map (λ (p : Placed). p.key)) (c.deref.ensures.value ∙ sym c.deref-2.ensures.value ∙ seen g c.before.before.before.before)
    ∙ keys_are js ps each ∙ ap (map (λ (j : Particle). morton_key j.at)) (sym (sorted g c))
