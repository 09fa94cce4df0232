-- What one rank sends another for its interaction lists.
use Rattle.std.specs.Prelude.{ℕ, List, [], ◌∷◌, filter, nat_eq}
use Rattle.std.specs.List.{list_any}
use Rattle.pf_geom.specs.Bounds.{Bounds}
use Rattle.pf_model.specs.declared.entry.Entry.{Entry}
use Rattle.pf_model.specs.Particle.{Particle}
use Rattle.pf_model.specs.Criterion.{Criterion}
use Rattle.pf_model.specs.Division.{Division}
use Rattle.pf_model.specs.Domains.{owner, particles_of, domain_box}
use Rattle.pf_model.specs.Interaction.{list_of}

-- the list of the receiver's domain box over the sender's particles, if the receiver has a particle
abbrev pub tree_for : List Particle → List Entry → List Entry
tree_for [] items = []
tree_for (i ∷ is) items = items

-- the essential tree that rank src sends rank dst
unfoldable pub essential_tree : Criterion → Division → List Particle → ℕ → ℕ → List Entry
essential_tree t g js src dst =
    tree_for (particles_of g js dst) (list_of t (domain_box g js dst) (particles_of g js src))

-- an essential tree as clauses see it
pub record Essential : Type 0 where
  pub src : ℕ
  pub dst : ℕ
  pub items : List Entry

-- the particles of some ranks
abbrev pub particles_of_ranks : Division → List Particle → List ℕ → List Particle
particles_of_ranks g js ranks = filter (λ j. list_any (nat_eq (owner g js j.at)) ranks) js

-- the list of a box limited to some ranks
abbrev pub limited_list : Criterion → Bounds → Division → List Particle → List ℕ → List Entry
limited_list t box g js ranks = list_of t box (particles_of_ranks g js ranks)
