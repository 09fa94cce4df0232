-- Essential trees by whether the receiver has a particle.
use Rattle.std.proofs.Common.{◌≡◌, ℕ, ◌≤◌, List, [], ◌∷◌, length, refl, arith}
use Rattle.pf_model.specs.declared.entry.Entry.{Entry}
use Rattle.pf_model.specs.Particle.{Particle}
use Rattle.pf_model.specs.Criterion.{Criterion}
use Rattle.pf_model.specs.Division.{Division}
use Rattle.pf_model.specs.Domains.{particles_of, domain_box}
use Rattle.pf_model.specs.Interaction.{list_of}
use Rattle.pf_model.specs.EssentialTree.{tree_for, essential_tree}

for_some : (is : List Particle) (items : List Entry) → 1 ≤ length is → items ≡ tree_for is items
for_some [] items some = absurd (omega arith)
for_some (i ∷ is) items some = refl

pub tree_for_some : (t : Criterion) (g : Division) (js : List Particle) (src dst : ℕ) → 1 ≤ length (particles_of g js dst) → list_of t (domain_box g js dst) (particles_of g js src) ≡ essential_tree t g js src dst
unfolding essential_tree
tree_for_some t g js src dst some = for_some (particles_of g js dst) (list_of t (domain_box g js dst) (particles_of g js src)) some

pub tree_for_none : (t : Criterion) (g : Division) (js : List Particle) (src dst : ℕ) → particles_of g js dst ≡ [] → [] ≡ essential_tree t g js src dst
unfolding essential_tree
tree_for_none t g js src dst none = rw none refl
