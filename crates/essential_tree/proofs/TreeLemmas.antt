-- Essential trees of ranks with a particle, and of those without.
use Rattle.std.proofs.Common.{◌≡◌, ℕ, ◌≤◌, List, [], ◌∷◌, length, refl, sym, ◌∙◌, ap, arith}
use Rattle.std.specs.List.Sorted.{IsPermutation}
use Rattle.pf_model.specs.declared.entry.Entry.{Entry}
use Rattle.pf_model.specs.Particle.{Particle}
use Rattle.pf_model.specs.Particles.{HaveDistinctIds}
use Rattle.pf_model.specs.Criterion.{Criterion}
use Rattle.pf_model.specs.Division.{Division}
use Rattle.pf_model.specs.Domains.{particles_of, domain_box}
use Rattle.pf_model.specs.Interaction.{list_of}
use Rattle.model_laws.specs.ListLaws.{ListsIgnoreOrder}
use Rattle.pf_model.specs.EssentialTree.{tree_for, essential_tree}

tree_for_some : (is : List Particle) (items : List Entry) → 1 ≤ length is → tree_for is items ≡ items
tree_for_some [] items some = absurd (omega arith)
tree_for_some (i ∷ is) items some = refl

-- a receiver with a particle gets the list of its domain box
pub tree_of_list : ListsIgnoreOrder → (t : Criterion) (g : Division) (js own : List Particle) (src dst : ℕ) → HaveDistinctIds own → IsPermutation own (particles_of g js src) → 1 ≤ length (particles_of g js dst) → list_of t (domain_box g js dst) own ≡ essential_tree t g js src dst
unfolding essential_tree
tree_of_list laws t g js own src dst distinct same some =
    laws t (domain_box g js dst) own (particles_of g js src) distinct same
    ∙ sym (tree_for_some (particles_of g js dst) (list_of t (domain_box g js dst) (particles_of g js src)) some)

-- one without gets nothing
pub tree_of_none : (t : Criterion) (g : Division) (js : List Particle) (src dst : ℕ) → particles_of g js dst ≡ [] → [] ≡ essential_tree t g js src dst
unfolding essential_tree
tree_of_none t g js src dst none = sym (ap (λ (is : List Particle). tree_for is (list_of t (domain_box g js dst) (particles_of g js src))) none)
