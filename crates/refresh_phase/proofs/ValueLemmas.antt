-- The present values of what a rank sent, from its octree that is moved.
use Rattle.std.proofs.Common.{◌≡◌, ℕ, ◌+◌, ◌<◌, List, [], ◌∷◌, ◌++◌, length, get_or, map, take, nat_eq, inl, inr, ◌⊎◌, refl, sym, ◌∙◌, ap, subst, arith}
use Rattle.std.specs.List.Sorted.{IsPermutation}
use Rattle.std.proofs.Math.Seq.{take-length}
use Rattle.std.proofs.lemmas.List.{length-map, get_or-map, take_more}
use Rattle.std.proofs.lemmas.List.Sorted.{IsPermutation-sym}
use Rattle.pf_model.specs.declared.entry.Entry.{Entry}
use Rattle.pf_model.specs.Criterion.{Criterion}
use Rattle.pf_model.specs.Division.{Division}
use Rattle.pf_model.specs.Domains.{owner, particles_of, domain_box}
use Rattle.pf_model.specs.EssentialTree.{essential_tree, tree_for}
use Rattle.pf_model.specs.Interaction.{list_of}
use Rattle.pf_model.specs.Particle.{Particle}
use Rattle.pf_model.specs.Reuse.{as_in}
use Rattle.essential_tree.specs.declared.sent.Sent.{Sent}
use Rattle.essential_tree.specs.Sending.{IsSentOf}
use Rattle.list_reuse.specs.Keeping.{IsMotion}
use Rattle.list_reuse.specs.Refreshing.{IsKeptOf, Renewal, present_items}
use Rattle.tree_phase.specs.Parcels.{AreSentTo}
use Rattle.refresh_phase.specs.Exchange.{refresh_sent}
use Rattle.refresh_phase.specs.Kept.{seen_from}
use Rattle.refresh_phase.specs.Values.{ValueLaws}

of_some : (is : List Particle) (items : List Entry) → (tree_for is items ≡ items) ⊎ (tree_for is items ≡ [])
of_some [] items = inr refl
of_some (i ∷ is) items = inl refl

-- an essential tree is the list of the domain box, or empty
whole_or_empty : (t : Criterion) (g : Division) (js : List Particle) (src dst : ℕ) → (essential_tree t g js src dst ≡ list_of t (domain_box g js dst) (particles_of g js src)) ⊎ (essential_tree t g js src dst ≡ [])
unfolding essential_tree
whole_or_empty t g js src dst = of_some (particles_of g js dst) (list_of t (domain_box g js dst) (particles_of g js src))

module _ (laws : ValueLaws) (t : Criterion) (g : Division) (js now : List Particle) (rank : ℕ) (built bodies : List Particle) (dsts : List ℕ) (sent : List Sent)
    (motion : (dst : ℕ) → IsMotion (seen_from t g js now dst)) (perm : IsPermutation (particles_of g js rank) built)
    (moved : bodies ≡ map (as_in now) built) (are : AreSentTo t g js rank built dsts sent) where
  sent_long : length sent ≡ length (map (refresh_sent t g js now rank) dsts)
  sent_long = sym (length-map sent (λ (s : Sent). s.dst)) ∙ ap length are.dsts_are ∙ sym (length-map dsts (refresh_sent t g js now rank))

  module _ (k : ℕ) (s : Sent) (within : k < length sent) (here : s ≡ get_or sent k s) where
    -- it was kept as a refresh asks
    pub kept_at : IsKeptOf t (domain_box g js s.dst) built (essential_tree t g js rank s.dst) s
    kept_at = record {
      sent = subst (λ (v : Sent). IsSentOf t (domain_box g js v.dst) built (essential_tree t g js rank v.dst) v) (sym here) (are.each k s within);
      whole = elim (whole_or_empty t g js rank s.dst) [
        | inl whole ↦
            inl (whole ∙ laws.lists t (domain_box g js s.dst) (particles_of g js rank) built (laws.some (λ (j : Particle). nat_eq (owner g js j.at) rank) js (motion rank).are_bodies.distinct) perm)
        | inr none ↦ inr none
      ];
    }

    -- and its values are those of now
    pub refresh_is : (r : Renewal) → r.src ≡ rank → r.dst ≡ s.dst → r.values ≡ present_items t (domain_box g js s.dst) built bodies (essential_tree t g js rank s.dst) → r ≡ refresh_sent t g js now rank s.dst
    refresh_is r src dst values =
        let same = values ∙ laws.refreshed (seen_from t g js now s.dst) rank built bodies (motion s.dst) (IsPermutation-sym (particles_of g js rank) built perm) moved in
        (λ i. record { src = src i; dst = dst i; values = same i })

    -- so they are one more
    pub next_sent : (r : Renewal) (before : List Renewal) → r ≡ refresh_sent t g js now rank s.dst → before ≡ take k (map (refresh_sent t g js now rank) dsts) → before ++ r ∷ [] ≡ take (k + 1) (map (refresh_sent t g js now rank) dsts)
    next_sent r before is so_far =
        let long = sent_long in
        let many = length-map dsts (refresh_sent t g js now rank) in
        let to : get_or dsts k 0 ≡ s.dst = ap (λ (l : List ℕ). get_or l k 0) (sym are.dsts_are) ∙ get_or-map (λ (s : Sent). s.dst) sent k s 0 within ∙ ap (λ (v : Sent). v.dst) (sym here) in
        let at : get_or (map (refresh_sent t g js now rank) dsts) k r ≡ r =
        get_or-map (refresh_sent t g js now rank) dsts k 0 r (omega arith) ∙ ap (refresh_sent t g js now rank) to ∙ sym is in
        (λ i. so_far i ++ sym at i ∷ []) ∙ sym (take_more (map (refresh_sent t g js now rank) dsts) k r (omega arith))

  -- and all
  pub all_sent : take (length sent) (map (refresh_sent t g js now rank) dsts) ≡ map (refresh_sent t g js now rank) dsts
  all_sent = ap (λ (n : ℕ). take n (map (refresh_sent t g js now rank) dsts)) sent_long ∙ take-length (map (refresh_sent t g js now rank) dsts)
