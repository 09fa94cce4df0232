-- Kept lists, before and after they are renewed.
use Rattle.std.proofs.Common.{◌≡◌, ℕ, zero, suc, ◌+◌, ◌<◌, ◌≤◌, List, [], ◌∷◌, ◌++◌, length, take, drop, map, Some, refl, sym, ◌∙◌, ap, subst, arith}
use Rattle.std.specs.List.{slice_get, All, AllZip, Contains}
use Rattle.std.proofs.lemmas.List.{length-map, length-append, length-take-le, length-drop, take_all, drop_all, append-nil}
use Rattle.std.proofs.lemmas.List.Elements.{All-map, All-weaker, All-append, All-take, All-drop}
use Rattle.std.proofs.lemmas.Option.{none-some}
use Rattle.pf_model.specs.Particle.{Particle}
use Rattle.pf_model.specs.Group.{box_of}
use Rattle.pf_model.specs.Reuse.{as_in, kept_list}
use Rattle.morton_tree.specs.Tree.{Octree}
use Rattle.morton_tree.specs.Spans.{at_span}
use Rattle.list_reuse.specs.Refreshing.{Renewal}
use Rattle.group_lists.specs.Whole.{GroupList}
use Rattle.group_lists.specs.Listing.{Listing, OfGroup, with_bodies, with_own}
use Rattle.list_reuse.specs.Keeping.{Motion, IsMotion, at_time, AreKept, IsKeptGroup, IsRenewal}
use Rattle.list_reuse.specs.Renewing.{CanRenew, IsSameEntry, IsGroupOfBuild, built_list, entry_now, with_group, renewed_group}
use Rattle.list_reuse.specs.KeepLaws.{Laws}
use Rattle.list_reuse.proofs.RenewLemmas.{some_at}
use Rattle.list_reuse.proofs.GroupLemmas.{same_now, set_partly, as_in_id}

-- a list of values of a function
zip_map : {A B : Type 0} (R : A → B → Type 0) (f : A → B) (xs : List A) → ((x : A) → Contains xs x → R x (f x)) → AllZip R xs (map f xs)
zip_map R f [] each = tt
zip_map R f (x ∷ xs) each = (each x (0, omega arith, refl), zip_map R f xs (λ z i. each z (suc i.0, omega (arith, i.1), i.2)))

-- the kept list of a group has its entries as they are
kept_is : (m : Motion) (built : List Particle) (l : GroupList) → kept_list m.theta (box_of (at_span l.span built)) m.particles m.now ≡ map (entry_now m built l) (built_list m built l)
unfolding kept_list
kept_is m built l = refl

group_of_build : (laws : Laws) (m : Motion) → IsMotion m → (built own : List Particle) (l : GroupList) → IsKeptGroup m built own l → IsGroupOfBuild m built l
group_of_build laws m motion built own l kept = record {
  some = kept.some;
  inside = kept.inside;
  entries =
      subst (AllZip IsSameEntry (built_list m built l)) (sym (kept.entries ∙ kept_is m built l))
      (zip_map IsSameEntry (entry_now m built l) (built_list m built l) (same_now laws m motion built l));
}

-- other own bodies change nothing in the groups of a build, nor does the time
groups_of_build : (laws : Laws) (m : Motion) (before : List Particle) → IsMotion (at_time m before) → (built own bodies : List Particle) (ls : List GroupList) → All (IsKeptGroup (at_time m before) built own) ls → All (IsGroupOfBuild m built) (map (with_bodies bodies) ls)
groups_of_build laws m before motion built own bodies ls all =
    All-map (IsGroupOfBuild m built) (with_bodies bodies) ls
    (All-weaker (IsKeptGroup (at_time m before) built own) (λ l. IsGroupOfBuild m built (with_bodies bodies l))
    (λ l kept. (let is = group_of_build laws (at_time m before) motion built own l kept in record { some = is.some; inside = is.inside; entries = is.entries })) ls all)

pub can_begin : Laws → (m : Motion) (ls : Listing) (tree : Octree) (parcels : List Renewal) → (before : List Particle) → AreKept (at_time m before) ls → IsRenewal m tree parcels → CanRenew m (with_own tree.bodies ls) parcels
can_begin laws m ls tree parcels before kept renewal =
    record {
      motion = renewal.motion;
      parcels_are = renewal.parcels_are;
      built = kept.built;
      groups = groups_of_build laws m before kept.motion ls.built ls.own tree.bodies ls.groups kept.groups;
      ranks = kept.ranks;
      sources = kept.sources;
    }

-- the own bodies keep their ids
pub ids_as_in : (now js : List Particle) → map (λ (j : Particle). j.id) (map (as_in now) js) ≡ map (λ (j : Particle). j.id) js
ids_as_in now [] = refl
ids_as_in now (j ∷ js) = λ i. sym (as_in_id now j) i ∷ ids_as_in now js i

-- lists whose first groups are renewed
abbrev pub half : Motion → Listing → ℕ → Listing
half m ls n = record ls { groups = map (renewed_group m ls.built) (take n ls.groups) ++ drop n ls.groups }

renewed_of_build : (laws : Laws) (m : Motion) → IsMotion m → (built : List Particle) (l : GroupList) → IsGroupOfBuild m built l → IsGroupOfBuild m built (renewed_group m built l)
renewed_of_build laws m motion built l is = record {
  some = is.some;
  inside = is.inside;
  entries = zip_map IsSameEntry (entry_now m built l) (built_list m built l) (same_now laws m motion built l);
}

pub can_half : Laws → (m : Motion) (ls : Listing) (parcels : List Renewal) → CanRenew m ls parcels → (n : ℕ) → CanRenew m (half m ls n) parcels
can_half laws m ls parcels can n =
    let P = IsGroupOfBuild m ls.built in
    record {
      motion = can.motion;
      parcels_are = can.parcels_are;
      built = can.built;
      groups =
          All-append P (map (renewed_group m ls.built) (take n ls.groups)) (drop n ls.groups)
          (All-map P (renewed_group m ls.built) (take n ls.groups)
          (All-weaker P (λ l. P (renewed_group m ls.built l)) (renewed_of_build laws m can.motion ls.built) (take n ls.groups) (All-take P n ls.groups can.groups)))
          (All-drop P n ls.groups can.groups);
      ranks = can.ranks;
      sources = can.sources;
    }

pub half_long : (m : Motion) (ls : Listing) (n : ℕ) → n ≤ length ls.groups → length (half m ls n).groups ≡ length ls.groups
half_long m ls n below =
    let f = renewed_group m ls.built in
    let all = length-append (map f (take n ls.groups)) (drop n ls.groups) in
    let front = length-map (take n ls.groups) f in
    let taken = length-take-le n ls.groups below in
    let rest = length-drop n ls.groups in
    omega arith

half_at : {X : Type 0} (f : X → X) (xs : List X) (n : ℕ) (x : X) → slice_get xs n ≡ Some x → slice_get (map f (take n xs) ++ drop n xs) n ≡ Some x
half_at f [] n x s = absurd (none-some x s)
half_at f (y ∷ ys) zero x s = s
half_at f (y ∷ ys) (suc n) x s = half_at f ys n x s

pub half_more : (m : Motion) (ls new : Listing) (n : ℕ) → n < length ls.groups → OfGroup (half m ls n).groups n (λ l. new ≡ with_group (half m ls n) n (renewed_group m ls.built l)) → new ≡ half m ls (n + 1)
half_more m ls new n below gives =
    let f = renewed_group m ls.built in
    let l = some_at ls.groups n below in
    gives l.0 (half_at f ls.groups n l.0 l.1)
    ∙ ap (λ (gs : List GroupList). record ls { groups = gs }) (set_partly f ls.groups ls.groups n l.0 refl l.1)

pub half_all : (m : Motion) (ls : Listing) (n : ℕ) → length ls.groups ≤ n → half m ls n ≡ record ls { groups = map (renewed_group m ls.built) ls.groups }
half_all m ls n past =
    let f = renewed_group m ls.built in
    ap (λ (gs : List GroupList). record ls { groups = gs })
    (ap (λ (gs : List GroupList). map f (take n ls.groups) ++ gs) (drop_all n ls.groups past) ∙ append-nil (map f (take n ls.groups)) ∙ ap (map f) (take_all n ls.groups past))

-- when all groups are renewed, the lists are kept
pub kept_again : (m : Motion) (ls : Listing) (tree : Octree) (parcels : List Renewal) → (before : List Particle) → AreKept (at_time m before) ls → tree.built ≡ ls.built → IsRenewal m tree parcels →
    AreKept m (record (with_own tree.bodies ls) { groups = map (renewed_group m ls.built) (with_own tree.bodies ls).groups })
kept_again m ls tree parcels before kept same renewal =
    record {
      motion = renewal.motion;
      built = kept.built;
      own = renewal.own ∙ ap (map (as_in m.now)) same;
      groups =
          All-map (IsKeptGroup m ls.built tree.bodies) (renewed_group m ls.built) (map (with_bodies tree.bodies) ls.groups)
          (All-map (λ l. IsKeptGroup m ls.built tree.bodies (renewed_group m ls.built l)) (with_bodies tree.bodies) ls.groups
          (All-weaker (IsKeptGroup (at_time m before) ls.built ls.own) (λ l. IsKeptGroup m ls.built tree.bodies (renewed_group m ls.built (with_bodies tree.bodies l)))
          (λ l k. record { some = k.some; inside = k.inside; bodies = refl; entries = sym (kept_is m ls.built l) }) ls.groups kept.groups));
      ranks = kept.ranks;
      sources = kept.sources;
    }

-- their spans stay
spans_stay : (m : Motion) (built own : List Particle) (gs : List GroupList) → map (λ (l : GroupList). l.span) (map (renewed_group m built) (map (with_bodies own) gs)) ≡ map (λ (l : GroupList). l.span) gs
spans_stay m built own [] = refl
spans_stay m built own (l ∷ ls) = ap (λ rest. l.span ∷ rest) (spans_stay m built own ls)

-- what stays of the lists
pub all_stay : (m : Motion) (ls new : Listing) (own : List Particle) → new ≡ record (with_own own ls) { groups = map (renewed_group m ls.built) (with_own own ls).groups } →
    (new.built ≡ ls.built) × (map (λ l. l.span) new.groups ≡ map (λ l. l.span) ls.groups)
all_stay m ls new own is = (
  ap (λ (v : Listing). v.built) is,
  ap (λ (v : Listing). map (λ (l : GroupList). l.span) v.groups) is ∙ spans_stay m ls.built own ls.groups,
)
