-- A build where one rank has all particles.
use Rattle.std.proofs.Common.{◌≡◌, ℕ, List, [], ◌∷◌, ◌++◌, map, length, nat_eq, refl, sym, ◌∙◌, ap, arith}
use Rattle.std.specs.Prelude.{sum_by, flat_map, unwrap_or, find, Option, Some, if◌then◌else◌}
use Rattle.std.specs.List.{range_with_len}
use Rattle.pf_model.specs.Particle.{Particle}
use Rattle.pf_model.specs.Particles.{HaveDistinctIds}
use Rattle.pf_model.specs.Division.{IsDivision, rank_count}
use Rattle.pf_model.specs.Domains.{owner, particles_of}
use Rattle.model_laws.specs.DomainLaws.{LoneRanksHaveAll}
use Rattle.pf_model.specs.Reuse.{as_in, kept_list}
use Rattle.model_laws.specs.ReuseLaws.{KeptListsBeginAsLists}
use Rattle.pf_model.specs.Group.{particles_in, group_of, box_of, group_cells}
use Rattle.pf_model.specs.Groups.{RankGroup, groups_of_rank, all_groups, group_list}
use Rattle.pf_model.specs.EssentialTree.{essential_tree}
use Rattle.model_laws.specs.ParticleLaws.{ParticlesOfOneIdAreOne}
use Rattle.pf_model.specs.declared.entry.Entry.{Entry}
use Rattle.std.proofs.Common.{length-append}
use Rattle.std.proofs.lemmas.Bool.{cond_both, eqb-true}
use Rattle.std.proofs.lemmas.List.{length-map}
use Rattle.std.proofs.lemmas.List.Sums.{sum_by-cons}
use Rattle.run_model.specs.declared.step_text.RankLine.{RankLine}
use Rattle.run_model.specs.Setup.{Setup}
use Rattle.run_model.proofs.OnceEach.{In, map_in, in_from_contains, contains_from_in}
use Rattle.run_model.proofs.GridLemmas.{as_in-in}
use Rattle.run_model.specs.Text.{cells_in, particles_within, ranks, received_by, lists_of, rank_counts}
use Rattle.run_model.specs.RunLaws.{lone_lists, IsLoneBuild}

-- ---- lists

flat_map-map : {X Y Z : Type 0} (f : Y → List Z) (g : X → Y) (xs : List X) → flat_map f (map g xs) ≡ flat_map (λ x. f (g x)) xs
flat_map-map f g [] = refl
flat_map-map f g (x ∷ xs) = ap (λ rest. f (g x) ++ rest) (flat_map-map f g xs)

sum_of_lengths : {X Y : Type 0} (f : X → List Y) (xs : List X) → sum_by (λ x. length (f x)) xs ≡ length (flat_map f xs)
sum_of_lengths f [] = refl
sum_of_lengths f (x ∷ xs) =
    let head = sum_by-cons (λ x. length (f x)) x xs in
    let rest = sum_of_lengths f xs in
    let both = length-append (f x) (flat_map f xs) in
    omega arith

nothing_after : {X : Type 0} (xs : List X) → xs ++ [] ≡ xs
nothing_after [] = refl
nothing_after (x ∷ xs) = ap (λ rest. x ∷ rest) (nothing_after xs)

-- ---- a particle of the build is what it was

as_in-id : (built : List Particle) (i : Particle) → (as_in built i).id ≡ i.id
as_in-id [] i = refl
as_in-id (b ∷ bs) i =
    cond_both (nat_eq i.id b.id) (Some b) (find (λ (c : Particle). nat_eq i.id c.id) bs) (λ (o : Option Particle). (unwrap_or o i).id ≡ i.id) (λ e. sym (eqb-true i.id b.id e)) (λ _. as_in-id bs i)

as_in-same : ParticlesOfOneIdAreOne → (js : List Particle) (i : Particle) → HaveDistinctIds js → In i js → as_in js i ≡ i
as_in-same one js i distinct inside =
    one js (as_in js i) i distinct (contains_from_in js (as_in js i) (as_in-in js i (map_in (λ (p : Particle). p.id) js i inside))) (contains_from_in js i inside) (as_in-id js i)

-- ---- the build

counts : ℕ → ℕ → List Entry → List Entry → RankLine
counts particles groups received lists = record {
  particles = particles;
  groups = groups;
  cells = cells_in received;
  parts = particles_within received;
  listcells = cells_in lists;
  listparts = particles_within lists;
}

same_counts : (n m g h : ℕ) (r s l k : List Entry) → n ≡ m → g ≡ h → r ≡ s → l ≡ k → counts n g r l ≡ counts m h s k
same_counts n m g h r s l k e f a b = cc

lone_groups : ℕ → List Particle → List RankGroup
lone_groups limit js = map (λ c. record { rank = 0; members = particles_in c js }) (group_cells limit js)

pub lone_build : LoneRanksHaveAll → KeptListsBeginAsLists → ParticlesOfOneIdAreOne → (u : Setup) (js : List Particle) → IsDivision u.grid → rank_count u.grid ≡ 1 → HaveDistinctIds js → IsLoneBuild u js
unfolding rank_counts all_groups counts lone_groups
lone_build alone kept ids u js d one distinct =
    let have = alone u.grid js d one in
    let ranks_are : ranks u ≡ 0 ∷ [] = ap (range_with_len 0) one in
    let groups : groups_of_rank u.group u.grid js 0 ≡ lone_groups u.group js = ap (lone_groups u.group) have.1 in
    let lists : lists_of u js 0 ≡ lone_lists u js =
    ap (flat_map (group_list u.theta js)) groups ∙ flat_map-map (group_list u.theta js) (λ c. record { rank = 0; members = particles_in c js }) (group_cells u.group js) in
    let received : received_by u js 0 ≡ [] = ap (flat_map (λ src. if nat_eq src 0 then [] else essential_tree u.theta u.grid js src 0)) ranks_are in
    let all : all_groups u.group u.grid js ≡ lone_groups u.group js =
    ap (flat_map (groups_of_rank u.group u.grid js)) ranks_are ∙ nothing_after (groups_of_rank u.group u.grid js 0) ∙ groups in
    record {
      ranks = ranks_are;
      owners = have.0;
      lists = λ i inside.
          ap (λ (b : Particle). kept_list u.theta (box_of (group_of u.group (particles_of u.grid js (owner u.grid js b.at)) b)) js js) (as_in-same ids js i distinct (in_from_contains js i inside))
          ∙ ap (λ (r : ℕ). kept_list u.theta (box_of (group_of u.group (particles_of u.grid js r) i)) js js) (have.0 i.at)
          ∙ ap (λ (own : List Particle). kept_list u.theta (box_of (group_of u.group own i)) js js) have.1
          ∙ kept u.theta (box_of (group_of u.group js i)) js distinct;
      entries =
          ap (sum_by (λ group. length (group_list u.theta js group))) all
          ∙ sum_of_lengths (group_list u.theta js) (lone_groups u.group js)
          ∙ ap length (flat_map-map (group_list u.theta js) (λ c. record { rank = 0; members = particles_in c js }) (group_cells u.group js));
      counts = same_counts _ _ _ _ _ _ _ _ (ap length have.1) (ap length groups ∙ length-map (group_cells u.group js) (λ c. record { rank = 0; members = particles_in c js })) received lists;
    }
