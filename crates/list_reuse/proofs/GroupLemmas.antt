-- The entries of a group's list, one after another.
use Rattle.std.proofs.Common.{◌≡◌, ℕ, zero, suc, ◌+◌, ◌<◌, ◌≤◌, List, [], ◌∷◌, ◌++◌, length, get_or, set, take, drop, map, Option, Some, None, unwrap_or, refl, sym, ◌∙◌, ap, subst, arith, add-one}
use Rattle.std.specs.List.{slice_get, find, AllZip, Contains}
use Rattle.std.specs.Prelude.{nat_eq}
use Rattle.std.proofs.lemmas.Bool.{cond_both, eqb-true}
use Rattle.std.proofs.lemmas.List.{length-map, set-set, take_all, drop_all, append-nil}
use Rattle.std.proofs.lemmas.List.Elements.{All-set}
use Rattle.std.proofs.lemmas.List.Sorted.{length_permutation}
use Rattle.std.proofs.lemmas.Option.{none-some, same_Some, get_or_from_slice_get}
use Rattle.pf_geom.specs.Bounds.{Bounds}
use Rattle.pf_geom.specs.Octant.{Octant}
use Rattle.pf_model.specs.declared.entry.Entry.{Entry}
use Rattle.pf_model.specs.declared.entry.Entry.TheVariants.{Cell, One}
use Rattle.pf_model.specs.Particle.{Particle}
use Rattle.pf_model.specs.Totals.{Totals}
use Rattle.pf_model.specs.Sums.{moment_of}
use Rattle.model_laws.specs.ListLaws.{IsListOf}
use Rattle.pf_model.specs.Interaction.{level_of, entry_at, leads_to, members_of}
use Rattle.pf_model.specs.Group.{box_of}
use Rattle.pf_model.specs.Reuse.{present, as_in}
use Rattle.morton_tree.specs.Spans.{at_span}
use Rattle.list_reuse.specs.Refreshing.{Renewal}
use Rattle.group_lists.specs.Whole.{GroupList}
use Rattle.group_lists.specs.Listing.{Listing, HasCount, HasId, with_moment}
use Rattle.list_reuse.specs.Keeping.{Motion, IsMotion}
use Rattle.list_reuse.specs.Renewing.{CanRenew, OfBuilt, IsSameEntry, IsGroupOfBuild, built_list, entry_now, with_group, renewed_group}
use Rattle.list_reuse.specs.KeepLaws.{Laws}
use Rattle.list_reuse.proofs.SumLemmas.{counted}
use Rattle.list_reuse.proofs.RenewLemmas.{all_at, contains_at, some_at, entry_at as current_at, zip_long}

-- a cell that stands for the same
pub same_cell : (e : Entry) (c : Octant) (n : Totals) → IsSameEntry e (Cell c n) → (k : Totals) × (e ≡ Cell c k)
same_cell (Cell d k) c n h = (k, ap (λ (o : Octant). Cell o k) h.0)
same_cell (One p) c n h = absurd h

pub same_particle : (e : Entry) (q : Particle) → IsSameEntry e (One q) → (p : Particle) × (e ≡ One p)
same_particle (Cell d k) q h = absurd h
same_particle (One p) q h = (p, refl)

-- two that stand for the same as one
pub same_both : (e d f : Entry) → IsSameEntry e d → IsSameEntry e f → IsSameEntry d f
same_both (Cell c m) (Cell d n) (Cell f o) h k = (sym h.0 ∙ k.0, sym h.1 ∙ k.1)
same_both (Cell c m) (Cell d n) (One q) h k = absurd k
same_both (Cell c m) (One p) f h k = absurd h
same_both (One p) (Cell d n) f h k = absurd h
same_both (One p) (One q) (Cell f o) h k = absurd k
same_both (One p) (One q) (One r) h k = sym h ∙ k

-- what a cell needs for another moment, and a particle for another body
pub has_count : (d : Entry) (c : Octant) (n : Totals) → IsSameEntry d (Cell c n) → HasCount n.count d
has_count (Cell d m) c n h = h.1
has_count (One p) c n h = absurd h

pub has_id : (d : Entry) (q : Particle) → IsSameEntry d (One q) → HasId q.id d
has_id (Cell d m) q h = absurd h
has_id (One p) q h = h

pub moment_given : (d : Entry) (c : Octant) (n : Totals) → IsSameEntry d (Cell c n) → with_moment n d ≡ Cell c n
moment_given (Cell d m) c n h = ap (λ (o : Octant). Cell o n) h.0
moment_given (One p) c n h = absurd h

pub as_in_id : (now : List Particle) (p : Particle) → p.id ≡ (as_in now p).id
as_in_id [] p = refl
as_in_id (q ∷ qs) p =
    cond_both (nat_eq p.id q.id) (Some q) (find (λ r. nat_eq p.id r.id) qs) (λ (o : Option Particle). p.id ≡ (unwrap_or o p).id)
    (λ e. eqb-true p.id q.id e) (λ _. as_in_id qs p)

module _ (laws : Laws) (m : Motion) (motion : IsMotion m) (built : List Particle) (l : GroupList) where
  abbrev box : Bounds
  box = box_of (at_span l.span built)

  now_at : (j : Particle) → Contains m.particles j → (o : Option ℕ) → IsSameEntry (entry_at m.theta box m.particles j o) (entry_now m built l (entry_at m.theta box m.particles j o))
  now_at j h None = as_in_id m.now j
  now_at j h (Some level) =
      let e = entry_at m.theta box m.particles j (Some level) in
      let leads = leads_to m.theta box e in
      let members = members_of m.theta box m.particles e in
      let found = laws.are_found m.particles members m.now motion.are_bodies.distinct (laws.some leads m.particles motion.are_bodies.distinct) (λ k i. ((laws.passing_particles leads m.particles k).0 i).0) motion.same_ids in
      let same = length_permutation (map (as_in m.now) members) (present m.now members) found in
      let long = length-map members (as_in m.now) in
      (refl, counted members ∙ sym (same ∙ long) ∙ sym (counted (present m.now members)))

  -- an entry as it is now stands for the same
  pub same_now : (e : Entry) → Contains (built_list m built l) e → IsSameEntry e (entry_now m built l e)
  same_now e h =
      let is : IsListOf m.theta box m.particles (built_list m built l) = (laws.lists m.theta box m.particles (built_list m built l) motion.are_bodies.distinct).1 refl in
      let from = is.sound e h in
      let P : Entry → Type 0 = λ v. IsSameEntry v (entry_now m built l v) in
      subst P (sym from.2) (now_at from.0 from.1 (level_of m.theta box from.0.at))

-- the first entries are renewed, and the others are not yet
pub zip_partly : {A B : Type 0} (R : A → B → Type 0) (f : A → B) (xs : List A) (ys : List B) (n : ℕ) → AllZip R xs ys → ((x : A) → Contains xs x → R x (f x)) → AllZip R xs (map f (take n xs) ++ drop n ys)
zip_partly R f xs ys zero all each = all
zip_partly R f [] [] (suc n) all each = tt
zip_partly R f [] (y ∷ ys) (suc n) all each = absurd all
zip_partly R f (x ∷ xs) [] (suc n) all each = absurd all
zip_partly R f (x ∷ xs) (y ∷ ys) (suc n) all each = (each x (0, omega arith, refl), zip_partly R f xs ys n all.1 (λ z i. each z (suc i.0, omega (arith, i.1), i.2)))

set_one : {A B : Type 0} (f : A → B) (xs : List A) (ys : List B) (n : ℕ) (x : A) → length xs ≡ length ys → slice_get xs n ≡ Some x → set (map f (take n xs) ++ drop n ys) n (f x) ≡ map f (take (suc n) xs) ++ drop (suc n) ys
set_one f [] ys n x long at = absurd (none-some x at)
set_one f (a ∷ xs) [] n x long at = absurd (omega arith)
set_one f (a ∷ xs) (b ∷ ys) zero x long at = ap (λ v. f v ∷ ys) (sym (same_Some a x at))
set_one f (a ∷ xs) (b ∷ ys) (suc n) x long at = ap (λ l. f a ∷ l) (set_one f xs ys n x (omega arith) at)

-- one more is renewed
pub set_partly : {A B : Type 0} (f : A → B) (xs : List A) (ys : List B) (n : ℕ) (x : A) → length xs ≡ length ys → slice_get xs n ≡ Some x → set (map f (take n xs) ++ drop n ys) n (f x) ≡ map f (take (n + 1) xs) ++ drop (n + 1) ys
set_partly f xs ys n x long at = set_one f xs ys n x long at ∙ ap (λ k. map f (take k xs) ++ drop k ys) (sym (add-one n))

-- a group that was set is there
pub set_there : {X : Type 0} (xs : List X) (n : ℕ) (x y : X) → slice_get xs n ≡ Some x → slice_get (set xs n y) n ≡ Some y
set_there [] n x y s = absurd (none-some x s)
set_there (a ∷ xs) zero x y s = refl
set_there (a ∷ xs) (suc n) x y s = set_there xs n x y s

pub set_itself : {X : Type 0} (xs : List X) (n : ℕ) (x : X) → slice_get xs n ≡ Some x → set xs n x ≡ xs
set_itself [] n x s = absurd (none-some x s)
set_itself (a ∷ xs) zero x s = ap (λ v. v ∷ xs) (sym (same_Some a x s))
set_itself (a ∷ xs) (suc n) x s = ap (λ l. a ∷ l) (set_itself xs n x s)

-- lists with other entries in a group that stand for the same can be renewed too
pub can_with : (m : Motion) (ls : Listing) (parcels : List Renewal) → CanRenew m ls parcels → (n : ℕ) (l : GroupList) → slice_get ls.groups n ≡ Some l → (es : List Entry) → AllZip IsSameEntry (built_list m ls.built l) es → CanRenew m (with_group ls n (record l { entries = es })) parcels
can_with m ls parcels can n l h es same =
    let is = all_at (IsGroupOfBuild m ls.built) ls.groups n l can.groups h in
    let new : IsGroupOfBuild m ls.built (record l { entries = es }) = record { some = is.some; inside = is.inside; entries = same } in
    record {
      motion = can.motion;
      parcels_are = can.parcels_are;
      built = can.built;
      groups = All-set (IsGroupOfBuild m ls.built) ls.groups n (record l { entries = es }) new can.groups;
      ranks = can.ranks;
      sources = can.sources;
    }

-- a group whose first entries are renewed
abbrev pub partly : Motion → List Particle → GroupList → ℕ → GroupList
partly m built k n = record k { entries = map (entry_now m built k) (take n (built_list m built k)) ++ drop n k.entries }

module _ (laws : Laws) (m : Motion) (ls : Listing) (parcels : List Renewal) (can : CanRenew m ls parcels) (n : ℕ) where
  -- the present entry stands for the same as the renewed one
  pub current_same : (place : ℕ) (l : GroupList) (e d f : Entry) → slice_get ls.groups n ≡ Some l → slice_get (built_list m ls.built l) place ≡ Some e → slice_get l.entries place ≡ Some d → f ≡ entry_now m ls.built l e → IsSameEntry d f
  current_same place l e d f hl he hd is =
      let at = current_at laws m ls parcels can n place l e hl he in
      same_both e d f
      (subst (IsSameEntry e) (same_Some at.0 d (sym at.1 ∙ hd)) at.2)
      (subst (IsSameEntry e) (sym is) (same_now laws m can.motion ls.built l e (contains_at (built_list m ls.built l) place e he)))

  module _ (k : GroupList) (hk : slice_get ls.groups n ≡ Some k) where
    as_built : IsGroupOfBuild m ls.built k
    as_built = all_at (IsGroupOfBuild m ls.built) ls.groups n k can.groups hk

    partly_same : (place : ℕ) → AllZip IsSameEntry (built_list m ls.built k) (partly m ls.built k place).entries
    partly_same place =
        zip_partly IsSameEntry (entry_now m ls.built k) (built_list m ls.built k) k.entries place as_built.entries
        (same_now laws m can.motion ls.built k)

    pub can_partly : (place : ℕ) → CanRenew m (with_group ls n (partly m ls.built k place)) parcels
    can_partly place = can_with m ls parcels can n k hk (partly m ls.built k place).entries (partly_same place)

    pub place_partly : (place : ℕ) → place < length k.entries → (l : GroupList) → slice_get (set ls.groups n (partly m ls.built k place)) n ≡ Some l → place < length l.entries
    place_partly place below l hl =
        let is : partly m ls.built k place ≡ l = same_Some (partly m ls.built k place) l (sym (set_there ls.groups n k (partly m ls.built k place) hk) ∙ hl) in
        let before = zip_long IsSameEntry (built_list m ls.built k) k.entries as_built.entries in
        let after = zip_long IsSameEntry (built_list m ls.built k) (partly m ls.built k place).entries (partly_same place) in
        subst (λ (v : GroupList). place < length v.entries) is (omega arith)

    pub one_more : (place : ℕ) → place < length k.entries → (new : Listing) →
        OfBuilt m (with_group ls n (partly m ls.built k place)) n place (λ l e. new ≡ with_group (with_group ls n (partly m ls.built k place)) n (record l { entries = set l.entries place (entry_now m ls.built l e) })) →
        new ≡ with_group ls n (partly m ls.built k (place + 1))
    one_more place below new gives =
        let half = partly m ls.built k place in
        let long = zip_long IsSameEntry (built_list m ls.built k) k.entries as_built.entries in
        let e = some_at (built_list m ls.built k) place (omega arith) in
        gives half e.0 (set_there ls.groups n k half hk) e.1
        ∙ ap (λ (gs : List GroupList). record ls { groups = gs }) (set-set ls.groups n half (record half { entries = set half.entries place (entry_now m ls.built half e.0) }))
        ∙ ap (λ (es : List Entry). with_group ls n (record k { entries = es })) (set_partly (entry_now m ls.built k) (built_list m ls.built k) k.entries place e.0 long e.1)

    pub all_renewed : (place : ℕ) → length k.entries ≤ place → partly m ls.built k place ≡ renewed_group m ls.built k
    all_renewed place past =
        let f = entry_now m ls.built k in
        let long = zip_long IsSameEntry (built_list m ls.built k) k.entries as_built.entries in
        ap (λ (es : List Entry). record k { entries = es })
        (ap (λ (es : List Entry). map f (take place (built_list m ls.built k)) ++ es) (drop_all place k.entries past)
        ∙ append-nil (map f (take place (built_list m ls.built k)))
        ∙ ap (map f) (take_all place (built_list m ls.built k) (omega arith)))

-- what is read at a place of a list stands for the entry of the build
pub kind_at : Laws → (m : Motion) (ls : Listing) (parcels : List Renewal) (can : CanRenew m ls parcels) (n place : ℕ) (l : GroupList) (e d : Entry) (read : List Entry) → slice_get ls.groups n ≡ Some l → slice_get (built_list m ls.built l) place ≡ Some e → read ≡ l.entries → place < length l.entries → d ≡ get_or read place d → IsSameEntry e d
kind_at laws m ls parcels can n place l e d read hl he is below at =
    let there = current_at laws m ls parcels can n place l e hl he in
    let same : there.0 ≡ d = sym (get_or_from_slice_get l.entries place there.0 d there.1) ∙ ap (λ (es : List Entry). get_or es place d) (sym is) ∙ sym at in
    subst (IsSameEntry e) same there.2

-- a cell that stands for the entry of the build, with the moment of the members
pub cell_now : (m : Motion) (built : List Particle) (l : GroupList) (e : Entry) (c : Octant) (n k : Totals) → IsSameEntry e (Cell c n) → k ≡ moment_of (present m.now (members_of m.theta (box_of (at_span l.span built)) m.particles e)) → Cell c k ≡ entry_now m built l e
cell_now m built l (Cell d j) c n k same is = λ i. Cell (sym same.0 i) (is i)
cell_now m built l (One p) c n k same is = absurd same
