-- What a rank owns, and the essential trees that it sends.
use Rattle.std.proofs.Common.{◌≡◌, ℕ, ◌<◌, List, [], ◌∷◌, ◌++◌, length, get_or, map, nat_eq, refl, sym, ◌∙◌, ap, subst, arith}
use Rattle.std.proofs.lemmas.List.{get_or-map, map-append}
use Rattle.std.proofs.lemmas.List.Elements.{All-push}
use Rattle.std.proofs.lemmas.List.Sums.{count_by-le-length, length-filter}
use Rattle.pf_model.specs.declared.entry.Entry.{Entry}
use Rattle.pf_model.specs.Criterion.{Criterion}
use Rattle.pf_model.specs.Division.{Division}
use Rattle.pf_model.specs.Domains.{owner, particles_of, domain_box}
use Rattle.pf_model.specs.EssentialTree.{essential_tree}
use Rattle.pf_model.specs.Particle.{Particle}
use Rattle.pf_model.specs.Particles.{AreBodies}
use Rattle.model_laws.specs.ParticleLaws.{SomeHaveDistinctIds}
use Rattle.let_inbox.specs.Sources.{others}
use Rattle.essential_tree.specs.declared.sent.Sent.{Sent}
use Rattle.essential_tree.specs.declared.tree_parcel.TreeParcel.{TreeParcel}
use Rattle.essential_tree.specs.Sending.{IsSentOf}
use Rattle.tree_phase.specs.Exchange.{tree_target}
use Rattle.tree_phase.specs.Parcels.{tree_sent, trees_sent, AreSentTo}

pub owned_are_bodies : SomeHaveDistinctIds → (g : Division) (js : List Particle) (rank : ℕ) → AreBodies js → AreBodies (particles_of g js rank)
owned_are_bodies some g js rank bodies =
    let test = λ (j : Particle). nat_eq (owner g js j.at) rank in
    record {
      few = (let kept = length-filter test js in let fewer = count_by-le-length test js in let few = bodies.few in omega arith);
      distinct = some test js bodies.distinct;
    }

module _ (X : Type 0) (t : Criterion) (g : Division) (js : List Particle) (rank : ℕ) where
  targets_of : (xs : List ℕ) → map (tree_target {X = X}) (map (tree_sent {X = X} t g js rank) xs) ≡ xs
  targets_of [] = refl
  targets_of (x ∷ xs) = ap (λ (l : List ℕ). x ∷ l) (targets_of xs)

  pub targets_sent : (ranks : ℕ) → map (tree_target {X = X}) (trees_sent {X = X} t g js rank ranks) ≡ others rank ranks
  targets_sent ranks = targets_of (others rank ranks)

  pub sent_at : (ranks k : ℕ) (d : TreeParcel X) → k < length (others rank ranks) → get_or (trees_sent t g js rank ranks) k d ≡ tree_sent t g js rank (get_or (others rank ranks) k 0)
  sent_at ranks k d within = get_or-map (tree_sent {X = X} t g js rank) (others rank ranks) k 0 d within

-- what is kept of the trees that were sent, and of one more
module _ (t : Criterion) (g : Division) (js : List Particle) (rank : ℕ) (built : List Particle) where
  pub sent_more : (dsts : List ℕ) (sent : List Sent) (dst : ℕ) (s : Sent) (items : List Entry) → AreSentTo t g js rank built dsts sent → s.dst ≡ dst → items ≡ essential_tree t g js rank dst → IsSentOf t (domain_box g js dst) built items s → AreSentTo t g js rank built (dsts ++ dst ∷ []) (sent ++ s ∷ [])
  sent_more dsts sent dst s items before to tree kept =
      let here : IsSentOf t (domain_box g js s.dst) built (essential_tree t g js rank s.dst) s =
      subst (λ (n : ℕ). IsSentOf t (domain_box g js n) built (essential_tree t g js rank n) s) (sym to) (subst (λ (es : List Entry). IsSentOf t (domain_box g js dst) built es s) tree kept) in
      record {
        dsts_are = map-append (λ (x : Sent). x.dst) sent (s ∷ []) ∙ (λ i. before.dsts_are i ++ to i ∷ []);
        each = All-push (λ (x : Sent). IsSentOf t (domain_box g js x.dst) built (essential_tree t g js rank x.dst) x) sent s before.each here;
      }
