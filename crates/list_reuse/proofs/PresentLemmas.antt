-- What a rank sends again, among all particles.
use Rattle.std.proofs.Common.{◌≡◌, ℕ, List, [], ◌∷◌, map, refl, sym, ◌∙◌, ap, subst, arith}
use Rattle.std.specs.List.{filter, Contains, IsDistinct}
use Rattle.std.specs.List.Sorted.{IsPermutation}
use Rattle.std.specs.Prelude.{nat_eq}
use Rattle.std.proofs.lemmas.List.{length-map, get_or-map}
use Rattle.std.proofs.lemmas.List.Elements.{Contains-append_right}
use Rattle.std.proofs.lemmas.List.Sorted.{IsPermutation-refl, IsPermutation-sym, IsPermutation-trans, Contains-permutation}
use Rattle.pf_geom.specs.Bounds.{Bounds}
use Rattle.pf_model.specs.declared.entry.Entry.{Entry}
use Rattle.pf_model.specs.declared.entry.Entry.TheVariants.{Cell, One}
use Rattle.pf_model.specs.Particle.{Particle}
use Rattle.pf_model.specs.Particles.{HaveDistinctIds}
use Rattle.pf_model.specs.Domains.{owner, particles_of, domain_box}
use Rattle.pf_model.specs.Sums.{moment_of}
use Rattle.model_laws.specs.ListLaws.{IsListOf}
use Rattle.pf_model.specs.Interaction.{level_of, list_of, leads_to, members_of}
use Rattle.pf_model.specs.EssentialTree.{tree_for, essential_tree}
use Rattle.pf_model.specs.Reuse.{present, as_in, present_entry}
use Rattle.model_laws.specs.ReuseLaws.{PresentOfSomeStaySome, PresentEntriesAreFound}
use Rattle.list_reuse.specs.Refreshing.{present_items}
use Rattle.list_reuse.specs.Keeping.{Motion, IsMotion, sent_from, values_from}
use Rattle.list_reuse.specs.KeepLaws.{Laws}
use Rattle.list_reuse.specs.KeepingLaws.{RefreshedValuesArePresent}
use Rattle.list_reuse.proofs.OneLemmas.{from_entry}
use Rattle.list_reuse.proofs.GroupLemmas.{as_in_id}
use Rattle.list_reuse.proofs.KeptLemmas.{ids_as_in}

map_agree : {X Y : Type 0} (f g : X → Y) (xs : List X) → ((x : X) → Contains xs x → f x ≡ g x) → map f xs ≡ map g xs
map_agree f g [] h = refl
map_agree f g (x ∷ xs) h =
    let head = h x (0, omega arith, refl) in
    let tail = map_agree f g xs (λ y i. h y (Contains-append_right (x ∷ []) xs y i)) in
    λ i. head i ∷ tail i

from_tree : (is : List Particle) (items : List Entry) (f : Entry) → Contains (tree_for is items) f → Contains items f
from_tree [] items f h = absurd (omega (arith, h.1))
from_tree (i ∷ is) items f h = h

map_there : (f : Particle → Particle) (js : List Particle) (j : Particle) → Contains js j → Contains (map f js) (f j)
map_there f js j h =
    let long = length-map js f in
    (h.0, omega (arith, h.1), get_or-map f js h.0 j (f j) h.1 ∙ ap f h.2)

module _ (laws : Laws) (stay : PresentOfSomeStaySome) (found : PresentEntriesAreFound) (m : Motion) (src : ℕ) (built bodies : List Particle) (motion : IsMotion m) (theirs : IsPermutation built (particles_of m.grid m.particles src)) (are : bodies ≡ map (as_in m.now) built) where
  abbrev box : Bounds
  box = domain_box m.grid m.particles m.rank

  abbrev of_src : List Particle
  of_src = particles_of m.grid m.particles src

  distinct_built : HaveDistinctIds built
  distinct_built = laws.distinct of_src built (IsPermutation-sym built of_src theirs) (laws.some (λ (j : Particle). nat_eq (owner m.grid m.particles j.at) src) m.particles motion.are_bodies.distinct)

  distinct_bodies : HaveDistinctIds bodies
  distinct_bodies = subst (λ (l : List ℕ). IsDistinct nat_eq l) (sym (ap (map (λ (j : Particle). j.id)) are ∙ ids_as_in m.now built)) distinct_built

  built_is_there : (j : Particle) → Contains built j → Contains m.particles j
  built_is_there j h = ((laws.passing_particles (λ (i : Particle). nat_eq (owner m.grid m.particles i.at) src) m.particles j).0 (Contains-permutation built of_src j theirs h)).0

  -- the members of an item, among the present bodies of their rank and among all
  same_members : (f : Entry) → moment_of (present bodies (members_of m.theta box built f)) ≡ moment_of (present m.now (members_of m.theta box of_src f))
  same_members f =
      let test = leads_to m.theta box f in
      let some : List Particle = filter test built in
      let all : List Particle = filter test of_src in
      let here : IsPermutation bodies (present m.now built) =
      subst (λ (l : List Particle). IsPermutation l (present m.now built)) (sym are) (laws.are_found m.particles built m.now motion.are_bodies.distinct distinct_built built_is_there motion.same_ids) in
      let inside : IsPermutation (present bodies some) (present m.now some) =
      subst (IsPermutation (present bodies some)) (stay test built m.now) (laws.present_order bodies (present m.now built) some some here (IsPermutation-refl some)) in
      laws.order (present bodies some) (present m.now all)
      (IsPermutation-trans (present bodies some) (present m.now some) (present m.now all) inside
      (laws.present_order m.now m.now some all (IsPermutation-refl m.now) (laws.kept_particles test built of_src theirs)))

  same_value : (f : Entry) → Contains (list_of m.theta box of_src) f → present_entry bodies (members_of m.theta box built f) f ≡ present_entry m.now (members_of m.theta box of_src f) f
  same_value (Cell c n) h = ap (Cell c) (same_members (Cell c n))
  same_value (One p) h =
      let distinct = laws.some (λ (j : Particle). nat_eq (owner m.grid m.particles j.at) src) m.particles motion.are_bodies.distinct in
      let list : IsListOf m.theta box of_src (list_of m.theta box of_src) = (laws.lists m.theta box of_src (list_of m.theta box of_src) distinct).1 refl in
      let from = list.sound (One p) h in
      let is : p ≡ from.0 = from_entry p from.0 m.theta box of_src (level_of m.theta box from.0.at) from.2 in
      let mine : Contains built p = Contains-permutation of_src built p (IsPermutation-sym built of_src theirs) (subst (Contains of_src) (sym is) from.1) in
      let there : Contains bodies (as_in m.now p) = subst (λ (l : List Particle). Contains l (as_in m.now p)) (sym are) (map_there (as_in m.now) built p mine) in
      found bodies (members_of m.theta box built (One p)) p (as_in m.now p) distinct_bodies there (sym (as_in_id m.now p))

  same_values : present_items m.theta box built bodies (sent_from m src) ≡ values_from m src
  unfolding essential_tree
  same_values =
      map_agree (λ f. present_entry bodies (members_of m.theta box built f) f) (λ f. present_entry m.now (members_of m.theta box of_src f) f) (sent_from m src)
      (λ f h. same_value f (from_tree (particles_of m.grid m.particles m.rank) (list_of m.theta box of_src) f h))

pub refreshed_values_are_present : Laws → PresentOfSomeStaySome → PresentEntriesAreFound → RefreshedValuesArePresent
refreshed_values_are_present laws stay found m src built bodies motion theirs are = same_values laws stay found m src built bodies motion theirs are
