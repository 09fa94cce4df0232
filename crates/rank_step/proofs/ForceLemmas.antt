-- The forces by the lists of a build are those of the run.
use Rattle.std.proofs.Common.{◌≡◌, ◌≤◌, ℤ, List, [], ◌∷◌, get_or, map, Option, Some, None, refl, sym, ◌∙◌, ap, subst, arith}
use Rattle.std.specs.Prelude.{option_map, nat_lt}
use Rattle.std.specs.List.{All, Contains, filter_map, zip}
use Rattle.std.specs.List.Sorted.{IsStrictlyIncreasing}
use Rattle.std.proofs.lemmas.List.{map-append}
use Rattle.std.proofs.lemmas.List.Elements.{All-head, All-tail, All-contains, filter_map-append}
use Rattle.std.proofs.lemmas.List.Sorted.{Contains-permutation, IsPermutation-sym}
use Rattle.kern_tree.specs.declared.kernel.Kernel.{Kernel}
use Rattle.pf_geom.specs.declared.edge.Edge.{Edge}
use Rattle.pf_model.specs.declared.entry.Entry.{Entry}
use Rattle.order_laws.specs.Order.{in_order_once}
use Rattle.pf_model.specs.Particle.{Particle}
use Rattle.pf_model.specs.Particles.{AreInIdOrder}
use Rattle.group_lists.specs.Whole.{GroupList}
use Rattle.force_phase.specs.declared.phase.IdRow.{IdRow}
use Rattle.run_model.specs.declared.fault.PhaseFault.{PhaseFault}
use Rattle.run_model.specs.declared.fault.PhaseFault.TheVariants as phase
use Rattle.force_phase.specs.Phase.{StopsPhase, bodies_in, rows_in, rows_by_id, fault_of, faults_in}
use Rattle.run_model.specs.declared.fault.Fault.{Fault}
use Rattle.run_model.specs.declared.fault.What.{What}
use Rattle.run_model.specs.Force.{first_given, force_row, force_fault}
use Rattle.run_model.specs.Setup.{Setup}
use Rattle.run_model.specs.Run.{WithForces, Numeric, numeric, list_for, with_forces, forces_fault}
use Rattle.rank_step.specs.Build.{AreListsOf}
use Rattle.run_model.specs.Answers.{StopsAt, of_phase}
use Rattle.rank_step.specs.Laws.{RowLaws}
use Rattle.rank_step.specs.Taken.{TakesFrom, with_row}
use Rattle.rank_step.proofs.FaultLemmas.{given_from, given_in, none_given, least_given, first_given-option_map}

-- ---- two functions that agree on the elements

map_agree : {X Y : Type 0} (f g : X → Y) (xs : List X) → All (λ x. f x ≡ g x) xs → map f xs ≡ map g xs
map_agree f g [] h = refl
map_agree f g (x ∷ xs) h =
    let rest = map_agree f g xs (All-tail (λ v. f v ≡ g v) x xs h) in
    let here = All-head (λ v. f v ≡ g v) x xs h in
    cc

filter_map_agree : {X Y : Type 0} (f g : X → Option Y) (xs : List X) → All (λ x. f x ≡ g x) xs → filter_map f xs ≡ filter_map g xs
filter_map_agree f g [] h = refl
filter_map_agree f g (x ∷ xs) h = rw (All-head (λ v. f v ≡ g v) x xs h, filter_map_agree f g xs (All-tail (λ v. f v ≡ g v) x xs h)) refl

-- ---- the forces of a run on these particles

-- the row of a particle
pub row_of : Setup → List Particle → List Particle → Particle → List ℤ
row_of u built now i = force_row u.theta.edge u.kernel (list_for u built now i) i

pub numbered : Setup → List Particle → List Particle → Particle → IdRow
numbered u built now i = record { id = i.id; row = row_of u built now i }

-- the fault of a particle
what_of : Setup → List Particle → List Particle → Particle → Option What
what_of u built now i = force_fault u.theta.edge u.kernel (list_for u built now i) i

abbrev as_fault : Particle → What → Fault
as_fault i what = record { id = i.id; what = what }

fault_by : Setup → List Particle → List Particle → Particle → Option Fault
fault_by u built now i = option_map (as_fault i) (what_of u built now i)

fault_named : (i : Particle) (o : Option What) (y : Fault) → option_map (as_fault i) o ≡ Some y → y.id ≡ i.id
fault_named i None y e = cc
fault_named i (Some w) y e = let same : as_fault i w ≡ y = cc in ap (λ (f : Fault). f.id) (sym same)

fault_by-id : (u : Setup) (built now : List Particle) (i : Particle) (y : Fault) → fault_by u built now i ≡ Some y → y.id ≡ i.id
unfolding fault_by
fault_by-id u built now i y e = fault_named i (what_of u built now i) y e

stop_of : (i : Particle) (o : Option What) → option_map (numeric i.id) o ≡ option_map Numeric (option_map (as_fault i) o)
stop_of i None = refl
stop_of i (Some w) = refl

stops_are : (u : Setup) (built now is : List Particle) → first_given (forces_fault u built now) is ≡ first_given (λ i. option_map Numeric (fault_by u built now i)) is
unfolding fault_by what_of
stops_are u built now [] = refl
stops_are u built now (i ∷ is) = rw (stop_of i (force_fault u.theta.edge u.kernel (list_for u built now i) i), stops_are u built now is) refl

stops_by_fault : (u : Setup) (built now is : List Particle) → first_given (forces_fault u built now) is ≡ option_map Numeric (first_given (fault_by u built now) is)
stops_by_fault u built now is = stops_are u built now is ∙ first_given-option_map Numeric (fault_by u built now) is

-- each particle of a group has its group's list
abbrev HaveLists : Setup → List Particle → List Particle → List GroupList → Type 0
HaveLists u built now lists = All (λ l. All (λ i. l.entries ≡ list_for u built now i) l.bodies) lists

-- by a list
row_by : Setup → Particle → List Entry → IdRow
row_by u i entries = record { id = i.id; row = force_row u.theta.edge u.kernel entries i }

fault_from : Setup → Particle → List Entry → Option Fault
fault_from u i entries = option_map (as_fault i) (force_fault u.theta.edge u.kernel entries i)

rows_are : (u : Setup) (built now : List Particle) (lists : List GroupList) → HaveLists u built now lists → rows_in u.theta.edge u.kernel lists ≡ map (numbered u built now) (bodies_in lists)
unfolding numbered row_of row_by
rows_are u built now [] h = refl
rows_are u built now (l ∷ lists) h =
    let here : map (λ (i : Particle). record { id = i.id; row = force_row u.theta.edge u.kernel l.entries i }) l.bodies ≡ map (numbered u built now) l.bodies =
    map_agree (λ (i : Particle). record { id = i.id; row = force_row u.theta.edge u.kernel l.entries i }) (numbered u built now) l.bodies
    (λ k d within. ap (row_by u (get_or l.bodies k d)) (All-head (λ (g : GroupList). All (λ i. g.entries ≡ list_for u built now i) g.bodies) l lists h k d within)) in
    let rest = rows_are u built now lists (All-tail (λ (g : GroupList). All (λ i. g.entries ≡ list_for u built now i) g.bodies) l lists h) in
    rw (here, rest) (sym (map-append (numbered u built now) l.bodies (bodies_in lists)))

faults_are : (u : Setup) (built now : List Particle) (lists : List GroupList) → HaveLists u built now lists → faults_in u.theta.edge u.kernel lists ≡ filter_map (fault_by u built now) (bodies_in lists)
unfolding fault_by what_of fault_from
faults_are u built now [] h = refl
faults_are u built now (l ∷ lists) h =
    let here : filter_map (fault_of u.theta.edge u.kernel l) l.bodies ≡ filter_map (fault_by u built now) l.bodies =
    filter_map_agree (fault_of u.theta.edge u.kernel l) (fault_by u built now) l.bodies
    (λ k d within. ap (fault_from u (get_or l.bodies k d)) (All-head (λ (g : GroupList). All (λ i. g.entries ≡ list_for u built now i) g.bodies) l lists h k d within)) in
    let rest = faults_are u built now lists (All-tail (λ (g : GroupList). All (λ i. g.entries ≡ list_for u built now i) g.bodies) l lists h) in
    rw (here, rest) (sym (filter_map-append (fault_by u built now) l.bodies (bodies_in lists)))

-- ---- by ascending id

zip_rows : (f : Particle → IdRow) (ps : List Particle) → map with_row (zip ps (map f ps)) ≡ map (λ (p : Particle). record { body = p; forces = (f p).row }) ps
zip_rows f [] = refl
zip_rows f (p ∷ ps) = ap (λ (rest : List WithForces). record { body = p; forces = (f p).row } ∷ rest) (zip_rows f ps)

module _ (laws : RowLaws) (u : Setup) (built now : List Particle) (lists : List GroupList) (are : AreListsOf u built now lists) (ascending : AreInIdOrder now) where
  pub rows_in_order : rows_by_id u.theta.edge u.kernel lists ≡ map (numbered u built now) now
  unfolding numbered
  rows_in_order =
      ap (in_order_once (λ (r s : IdRow). nat_lt r.id s.id)) (rows_are u built now lists are.each)
      ∙ laws.maps (numbered u built now) (λ p q. nat_lt p.id q.id) (λ r s. nat_lt r.id s.id) (bodies_in lists) (λ p q. refl)
      ∙ ap (map (numbered u built now)) (laws.by_id (bodies_in lists) now (IsPermutation-sym now (bodies_in lists) are.all) ascending)

  pub forces_are : (rows : List IdRow) → rows ≡ rows_by_id u.theta.edge u.kernel lists → map with_row (zip now rows) ≡ with_forces u built now
  unfolding numbered row_of
  forces_are rows is = ap (λ (rs : List IdRow). map with_row (zip now rs)) (is ∙ rows_in_order) ∙ zip_rows (numbered u built now) now

  among : (i : Particle) → Contains now i → Contains (bodies_in lists) i
  among i c = Contains-permutation now (bodies_in lists) i are.all c

  pub no_fault_is : faults_in u.theta.edge u.kernel lists ≡ [] → first_given (forces_fault u built now) now ≡ None
  no_fault_is none =
      stops_by_fault u built now now
      ∙ ap (option_map Numeric) (none_given (fault_by u built now) now (λ i y c e. nothing (subst (λ (ys : List Fault). Contains ys y) (sym (faults_are u built now lists are.each) ∙ none) (given_in (fault_by u built now) (bodies_in lists) i y (among i c) e))))
    where
      nothing : {y : Fault} → Contains [] y → ⊥
      nothing (k, within, e) = absurd (omega arith)

  pub least_is : (y : Fault) → Contains (faults_in u.theta.edge u.kernel lists) y → All (λ (z : Fault). y.id ≤ z.id) (faults_in u.theta.edge u.kernel lists) → first_given (forces_fault u built now) now ≡ Some (Numeric y)
  least_is y c least =
      let is = faults_are u built now lists are.each in
      let from = given_from (fault_by u built now) (bodies_in lists) y (subst (λ (ys : List Fault). Contains ys y) is c) in
      let lowest = subst (λ (ys : List Fault). All (λ (z : Fault). y.id ≤ z.id) ys) is least in
      stops_by_fault u built now now
      ∙ ap (option_map Numeric) (least_given (fault_by u built now) (fault_by-id u built now) now from.0 y ascending (Contains-permutation (bodies_in lists) now from.0 (IsPermutation-sym now (bodies_in lists) are.all) from.1) from.2
      (λ q z i e. All-contains (λ (z : Fault). y.id ≤ z.id) (filter_map (fault_by u built now) (bodies_in lists)) z lowest (given_in (fault_by u built now) (bodies_in lists) q z (among q i) e)))

-- ---- as the phase answers

module _ (laws : RowLaws) (u : Setup) (k : Kernel) (e : Edge) (built now : List Particle) (lists : List GroupList) (takes : TakesFrom k e built now lists u) (up : IsStrictlyIncreasing (map (λ p. p.id) now)) where
  ascending : AreInIdOrder now
  ascending = (laws.increase now).1 up

  pub TakesFrom_forces : (rows : List IdRow) → rows ≡ rows_by_id e k lists → map with_row (zip now rows) ≡ with_forces u built now
  TakesFrom_forces rows is =
      forces_are laws u built now lists takes.lists ascending rows
      (is ∙ ap (λ (edge : Edge). rows_by_id edge k lists) (sym takes.edge) ∙ ap (λ (kernel : Kernel). rows_by_id u.theta.edge kernel lists) (sym takes.kernel))

  same_faults : faults_in e k lists ≡ faults_in u.theta.edge u.kernel lists
  same_faults =
      ap (λ (edge : Edge). faults_in edge k lists) (sym takes.edge) ∙ ap (λ (kernel : Kernel). faults_in u.theta.edge kernel lists) (sym takes.kernel)

  pub TakesFrom_no_fault : faults_in e k lists ≡ [] → first_given (forces_fault u built now) now ≡ None
  TakesFrom_no_fault none = no_fault_is laws u built now lists takes.lists ascending (sym same_faults ∙ none)

  pub TakesFrom_fault : (fault : PhaseFault) → StopsPhase e k lists fault → StopsAt (first_given (forces_fault u built now) now) (of_phase fault)
  TakesFrom_fault (phase.Numeric fault) stops =
      let least = subst (λ (ys : List Fault). Contains ys fault × All (λ other. fault.id ≤ other.id) ys) same_faults stops in
      least_is laws u built now lists takes.lists ascending fault least.0 least.1
  TakesFrom_fault phase.Memory stops = tt
