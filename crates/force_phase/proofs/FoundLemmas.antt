-- What the particles of groups gave, as all their forces or the least of their faults.
use Rattle.std.proofs.Common.{◌≡◌, ℕ, ◌+◌, ℤ, ◌≤◌, Bool, true, false, zero, suc, List, [], ◌∷◌, ◌++◌, length, get_or, set, take, Result, Ok, Err, Option, Some, None, map, nat_eq, ◌<◌, inl, inr, refl, sym, ap, ◌∙◌, subst, arith}
use Rattle.std.specs.Prelude.{nat_le, slice_get, IfErr, OnOk}
use Rattle.std.specs.List.{Contains, IsDistinct, cons_option, filter_map, fold}
use Rattle.std.specs.Option.{option_map}
use Rattle.std.proofs.lemmas.Bool.{leb-true, leb-false}
use Rattle.std.proofs.lemmas.List.{append-nil, map-append, take_all, take_more, take_more_set, map_more}
use Rattle.std.proofs.lemmas.Grind.{flat_map-append}
use Rattle.std.proofs.lemmas.List.Elements.{All-nil, All-cons, All-head, All-tail, All-append, All-weaker, filter_map-append, Contains-append_left, Contains-append_right, Contains-append_cases, Contains-push}
use Rattle.std.proofs.lemmas.List.Sums.{fold-append}
use Rattle.pf_geom.specs.declared.edge.Edge.{Edge}
use Rattle.pf_model.specs.declared.entry.Entry.{Entry}
use Rattle.pf_model.specs.Particle.{Particle}
use Rattle.pf_model.specs.Particles.{AreBodies}
use Rattle.kern_tree.specs.declared.kernel.Kernel.{Kernel}
use Rattle.group_lists.specs.Whole.{GroupList}
use Rattle.run_model.specs.declared.fault.Fault.{Fault}
use Rattle.run_model.specs.declared.fault.What.{What}
use Rattle.run_model.specs.Force.{force_row, force_fault}
use Rattle.force_phase.specs.declared.phase.IdRow.{IdRow}
use Rattle.run_model.specs.declared.fault.PhaseFault.{PhaseFault}
use Rattle.run_model.specs.declared.fault.PhaseFault.TheVariants.{Numeric, Memory}
use Rattle.force_phase.specs.Forces.{AreForces}
use Rattle.force_phase.specs.declared.partner.Partner.{Partner}
use Rattle.force_phase.specs.Partner.{partner_of}
use Rattle.force_phase.specs.Found.{FoundSoFar, nothing, lesser, under_ids, with_rows, with_fault, IsLeastOf}
use Rattle.force_phase.specs.Finished.{IsLeastOrNone, IsFoundIn}
use Rattle.force_phase.specs.declared.group_out.Outcome.TheVariants as outcomes
use Rattle.force_phase.specs.declared.group_out.Outcome.TheVariants.{Done}
use Rattle.force_phase.specs.Outcome.{with_stop, faults_of, IsLeast, IsOutcome}
use Rattle.force_phase.specs.Phase.{bodies_in, rows_in, fault_of, faults_in, StopsPhase}

-- ---- the least of faults

abbrev least_over : Option Fault → List Fault → Option Fault
least_over least faults = fold (λ sofar fault. Some (lesser sofar fault)) least faults

-- what is kept of a first fault and others
abbrev HasLeast : Fault → List Fault → Type 0
HasLeast f fs = (m : Fault) × (least_over (Some f) fs ≡ Some m) × IsLeast (f ∷ fs) m

first_in : (f : Fault) (fs : List Fault) → Contains (f ∷ fs) f
first_in f fs = Contains-append_left (f ∷ []) fs f (Contains-push [] f)

abbrev is_below : Fault → Fault → Type 0
is_below m other = m.id ≤ other.id

least_of_first : (f g m : Fault) (fs : List Fault) → f.id ≤ g.id → IsLeast (f ∷ fs) m → IsLeast (f ∷ g ∷ fs) m
least_of_first f g m fs h least =
    let first : m.id ≤ f.id = All-head (is_below m) f fs least.below in record {
      among =
          elim (Contains-append_cases (f ∷ []) fs m least.among) [
            | inl i ↦ Contains-append_left (f ∷ []) (g ∷ fs) m i
            | inr i ↦ Contains-append_right (f ∷ g ∷ []) fs m i
          ];
      below = All-cons (is_below m) f (g ∷ fs) first (All-cons (is_below m) g fs (omega arith) (All-tail (is_below m) f fs least.below));
    }

least_of_second : (f g m : Fault) (fs : List Fault) → g.id < f.id → IsLeast (g ∷ fs) m → IsLeast (f ∷ g ∷ fs) m
least_of_second f g m fs h least =
    let first : m.id ≤ g.id = All-head (is_below m) g fs least.below in record {
      among = Contains-append_right (f ∷ []) (g ∷ fs) m least.among;
      below = All-cons (is_below m) f (g ∷ fs) (omega arith) least.below;
    }

least_more : (f g : Fault) (fs : List Fault) (b : Bool) → nat_le f.id g.id ≡ b → HasLeast f fs → HasLeast g fs → HasLeast f (g ∷ fs)
least_more f g fs true e first second = (first.0, rw e first.1, least_of_first f g first.0 fs (leb-true f.id g.id e) first.2)
least_more f g fs false e first second = (second.0, rw e second.1, least_of_second f g second.0 fs (leb-false f.id g.id e) second.2)

least_of : (f : Fault) (fs : List Fault) → HasLeast f fs
least_of f [] = (f, refl, record { among = first_in f []; below = All-cons (is_below f) f [] (omega arith) (All-nil (is_below f)) })
least_of f (g ∷ fs) = least_more f g fs (nat_le f.id g.id) refl (least_of f fs) (least_of g fs)

none_kept : (faults : List Fault) → least_over None faults ≡ None → faults ≡ []
none_kept [] e = refl
none_kept (f ∷ fs) e = let kept = (least_of f fs).1 in absurd (cc)

least_kept : (faults : List Fault) (least : Fault) → least_over None faults ≡ Some least → IsLeast faults least
least_kept [] least e = absurd (cc)
least_kept (f ∷ fs) least e =
    let found = least_of f fs in
    let one : found.0 ≡ least = let kept = found.1 in cc in
    subst (IsLeast (f ∷ fs)) one found.2

-- ---- particle by particle

abbrev some_fault : ℕ → Option What → Option Fault
some_fault id answer = option_map (λ what. record { id = id; what = what }) answer

module _ (edge : Edge) (kernel : Kernel) (g : GroupList) where
  -- as far as a loop over the particles of a group has come
  pub record IsEvaluated (k : ℕ) (least : Option Fault) (rows : List (List ℤ)) : Type 0 where
    pub least_is : least ≡ least_over None (filter_map (fault_of edge kernel g) (take k g.bodies))
    pub rows_are : least ≡ None → take k rows ≡ map (force_row edge kernel g.entries) (take k g.bodies)

  module _ (k : ℕ) (least : Option Fault) (rows : List (List ℤ)) (now : IsEvaluated k least rows) (i : Particle) (inside : k < length g.bodies) (within : k < length rows) (is : i ≡ get_or g.bodies k i) (row : List ℤ) where
    faults_next : filter_map (fault_of edge kernel g) (take (k + 1) g.bodies) ≡ filter_map (fault_of edge kernel g) (take k g.bodies) ++ cons_option (fault_of edge kernel g i) []
    faults_next =
        ap (filter_map (fault_of edge kernel g)) (take_more g.bodies k i inside ∙ ap (λ b. take k g.bodies ++ b ∷ []) (sym is))
        ∙ filter_map-append (fault_of edge kernel g) (take k g.bodies) (i ∷ [])

    least_next : least_over None (filter_map (fault_of edge kernel g) (take (k + 1) g.bodies)) ≡ least_over least (cons_option (fault_of edge kernel g i) [])
    least_next =
        ap (least_over None) faults_next
        ∙ fold-append (λ sofar fault. Some (lesser sofar fault)) None (filter_map (fault_of edge kernel g) (take k g.bodies)) (cons_option (fault_of edge kernel g i) [])
        ∙ ap (λ o. least_over o (cons_option (fault_of edge kernel g i) [])) (sym now.least_is)

    pub evaluated : {X : Type 0} (partners : List Partner) (same : partners ≡ map partner_of g.entries) (stop : Result X What)
        → OnOk stop ((entries : List Entry) → partners ≡ map partner_of entries → AreForces edge kernel entries i row)
        → IfErr stop (λ what. (entries : List Entry) → partners ≡ map partner_of entries → force_fault edge kernel entries i ≡ Some what)
        → IsEvaluated (k + 1) (with_stop least i.id stop) (set rows k row)
    evaluated partners same (Ok x) ok fault = let are = ok g.entries same in record {
      least_is = sym (least_next ∙ ap (λ answer. least_over least (cons_option (some_fault i.id answer) [])) are.no_fault);
      rows_are = λ none.
          take_more_set rows k row within
          ∙ ap (λ front. front ++ row ∷ []) (now.rows_are none)
          ∙ ap (λ last. map (force_row edge kernel g.entries) (take k g.bodies) ++ last ∷ []) (are.row ∙ ap (force_row edge kernel g.entries) is)
          ∙ sym (map_more (force_row edge kernel g.entries) g.bodies k i inside);
    }
    evaluated partners same (Err what) ok fault = record {
      least_is = sym (least_next ∙ ap (λ answer. least_over least (cons_option (some_fault i.id answer) [])) (fault g.entries same));
      rows_are = λ none. absurd (cc);
    }

  pub evaluated_first : (rows : List (List ℤ)) → IsEvaluated 0 None rows
  evaluated_first rows = record { least_is = refl; rows_are = λ none. refl }

  module _ (k : ℕ) (least : Option Fault) (rows : List (List ℤ)) (now : IsEvaluated k least rows) (end : k ≡ length g.bodies) (long : length rows ≡ length g.bodies) where
    all_least : least ≡ least_over None (faults_of edge kernel g)
    all_least = now.least_is ∙ ap (λ is. least_over None (filter_map (fault_of edge kernel g) is)) (take_all k g.bodies (omega (arith, end)))

    pub is_done : least ≡ None → IsOutcome edge kernel g rows Done
    is_done none = (
      none_kept (faults_of edge kernel g) (sym all_least ∙ none),
      sym (take_all k rows (omega (arith, end, long))) ∙ now.rows_are none ∙ ap (map (force_row edge kernel g.entries)) (take_all k g.bodies (omega (arith, end))),
    )

    pub is_fault : (fault : Fault) → least ≡ Some fault → IsOutcome edge kernel g rows (outcomes.Fault fault)
    is_fault fault some = least_kept (faults_of edge kernel g) fault (sym all_least ∙ some)

-- ---- group by group

least_by : (xs ys : List Fault) (earlier fault : Fault) (b : Bool) → nat_le earlier.id fault.id ≡ b → IsLeast xs earlier → IsLeast ys fault → IsLeast (xs ++ ys) (lesser (Some earlier) fault)
least_by xs ys earlier fault true e first second =
    let h = leb-true earlier.id fault.id e in
    rw e
    (record {
      among = Contains-append_left xs ys earlier first.among;
      below = All-append (is_below earlier) xs ys first.below (All-weaker (is_below fault) (is_below earlier) (λ other le. omega (arith, h, le)) ys second.below);
    })
least_by xs ys earlier fault false e first second =
    let h = leb-false earlier.id fault.id e in
    rw e
    (record {
      among = Contains-append_right xs ys fault second.among;
      below = All-append (is_below fault) xs ys (All-weaker (is_below earlier) (is_below fault) (λ other le. omega (arith, h, le)) xs first.below) second.below;
    })

-- the least of two lists of faults
pub least_of_both : (xs ys : List Fault) (o : Option Fault) (fault : Fault) → IsLeastOrNone xs o → IsLeast ys fault → IsLeast (xs ++ ys) (lesser o fault)
least_of_both xs ys None fault none second = subst (λ zs. IsLeast (zs ++ ys) fault) (sym none) second
least_of_both xs ys (Some earlier) fault first second = least_by xs ys earlier fault (nat_le earlier.id fault.id) refl first second

rows_under : (edge : Edge) (kernel : Kernel) (entries : List Entry) (is : List Particle)
    → under_ids is (map (force_row edge kernel entries) is) ≡ map (λ (i : Particle). record { id = i.id; row = force_row edge kernel entries i }) is
rows_under edge kernel entries [] = refl
rows_under edge kernel entries (i ∷ is) = ap (λ rows. record { id = i.id; row = force_row edge kernel entries i } ∷ rows) (rows_under edge kernel entries is)

module _ (edge : Edge) (kernel : Kernel) where
  pub found_first : IsFoundIn edge kernel [] nothing
  found_first = record { least = refl; rows = λ none. refl }

  module _ (before : List GroupList) (found : FoundSoFar) (now : IsFoundIn edge kernel before found) (g : GroupList) where
    faults_after : faults_in edge kernel (before ++ g ∷ []) ≡ faults_in edge kernel before ++ faults_of edge kernel g
    faults_after =
        flat_map-append (λ l. filter_map (fault_of edge kernel l) l.bodies) before (g ∷ [])
        ∙ ap (λ l. faults_in edge kernel before ++ l) (append-nil (faults_of edge kernel g))

    rows_after : rows_in edge kernel (before ++ g ∷ []) ≡ rows_in edge kernel before ++ map (λ i. record { id = i.id; row = force_row edge kernel g.entries i }) g.bodies
    rows_after =
        flat_map-append (λ l. map (λ i. record { id = i.id; row = force_row edge kernel l.entries i }) l.bodies) before (g ∷ [])
        ∙ ap (λ l. rows_in edge kernel before ++ l) (append-nil (map (λ i. record { id = i.id; row = force_row edge kernel g.entries i }) g.bodies))

    pub found_done : (rows : List (List ℤ)) → IsOutcome edge kernel g rows Done → (new : FoundSoFar) → new ≡ with_rows found g.bodies rows → IsFoundIn edge kernel (before ++ g ∷ []) new
    found_done rows done new e =
        let same : faults_in edge kernel (before ++ g ∷ []) ≡ faults_in edge kernel before =
        faults_after ∙ ap (λ l. faults_in edge kernel before ++ l) done.0 ∙ append-nil (faults_in edge kernel before) in
        subst (IsFoundIn edge kernel (before ++ g ∷ [])) (sym e)
        (record {
          least = subst (λ faults. IsLeastOrNone faults found.least) (sym same) now.least;
          rows = λ none.
              ap (λ l. l ++ under_ids g.bodies rows) (now.rows none)
              ∙ ap (λ l. rows_in edge kernel before ++ l) (ap (under_ids g.bodies) done.1 ∙ rows_under edge kernel g.entries g.bodies)
              ∙ sym rows_after;
        })

    pub found_fault : (fault : Fault) → IsLeast (faults_of edge kernel g) fault → (new : FoundSoFar) → new ≡ with_fault found fault → IsFoundIn edge kernel (before ++ g ∷ []) new
    found_fault fault least new e =
        subst (IsFoundIn edge kernel (before ++ g ∷ [])) (sym e)
        (record {
          least = subst (λ faults. IsLeast faults (lesser found.least fault)) (sym faults_after) (least_of_both (faults_in edge kernel before) (faults_of edge kernel g) found.least fault now.least least);
          rows = λ none. absurd (cc);
        })

  -- ---- the answers

  ids_in_group : (entries : List Entry) (is : List Particle) → map (λ (r : IdRow). r.id) (map (λ (i : Particle). record { id = i.id; row = force_row edge kernel entries i }) is) ≡ map (λ (i : Particle). i.id) is
  ids_in_group entries [] = refl
  ids_in_group entries (i ∷ is) = ap (λ ids. i.id ∷ ids) (ids_in_group entries is)

  pub ids_of_rows : (groups : List GroupList) → map (λ r. r.id) (rows_in edge kernel groups) ≡ map (λ i. i.id) (bodies_in groups)
  ids_of_rows [] = refl
  ids_of_rows (g ∷ groups) =
      map-append (λ (r : IdRow). r.id) (map (λ i. record { id = i.id; row = force_row edge kernel g.entries i }) g.bodies) (rows_in edge kernel groups)
      ∙ ap (λ ids. ids ++ map (λ r. r.id) (rows_in edge kernel groups)) (ids_in_group g.entries g.bodies)
      ∙ ap (λ ids. map (λ i. i.id) g.bodies ++ ids) (ids_of_rows groups)
      ∙ sym (map-append (λ (i : Particle). i.id) g.bodies (bodies_in groups))

  module _ (groups : List GroupList) (found : FoundSoFar) (is : IsFoundIn edge kernel groups found) where
    pub no_fault_found : (o : Option Fault) → IsLeastOrNone (faults_in edge kernel groups) o → o ≡ None → faults_in edge kernel groups ≡ []
    no_fault_found None none e = none
    no_fault_found (Some fault) least e = absurd (cc)

    fault_found : (o : Option Fault) (fault : Fault) → IsLeastOrNone (faults_in edge kernel groups) o → o ≡ Some fault → IsLeast (faults_in edge kernel groups) fault
    fault_found None fault none e = absurd (cc)
    fault_found (Some other) fault least e = let same : other ≡ fault = cc in subst (IsLeast (faults_in edge kernel groups)) same least

    pub distinct_rows : AreBodies (bodies_in groups) → found.least ≡ None → IsDistinct nat_eq (map (λ r. r.id) found.rows)
    distinct_rows are e =
        let P : List ℕ → Type 0 = IsDistinct nat_eq in
        subst P (sym (ap (map (λ (r : IdRow). r.id)) (is.rows e) ∙ ids_of_rows groups)) are.distinct

    pub stop_found : (stop : PhaseFault) → IsLeastOf found.least stop → StopsPhase edge kernel groups stop
    stop_found (Numeric fault) e = let least = fault_found found.least fault is.least e in (least.among, least.below)
    stop_found Memory e = tt

-- ---- a group among the lists of a rank

-- the groups before the next one
pub one_more : (lists : List GroupList) (n : ℕ) (g : GroupList) → n < length lists → slice_get lists n ≡ Some g → take (n + 1) lists ≡ take n lists ++ g ∷ []
one_more [] n g h e = absurd (omega (arith, h))
one_more (l ∷ lists) zero g h e = let one : l ≡ g = cc in ap (λ x. x ∷ []) one
one_more (l ∷ lists) (suc n) g h e = let next : suc n + 1 ≡ suc (n + 1) = omega arith in ap (λ m. take m (l ∷ lists)) next ∙ ap (λ rest. l ∷ rest) (one_more lists n g (omega (arith, h)) e)

pub group_exists : (lists : List GroupList) (n : ℕ) → n < length lists → (g : GroupList) × (slice_get lists n ≡ Some g)
group_exists [] n h = absurd (omega (arith, h))
group_exists (l ∷ lists) zero h = (l, refl)
group_exists (l ∷ lists) (suc n) h = group_exists lists n (omega (arith, h))

-- what a group has, where the same is taken of each group
pub part_at : {Y : Type 0} (f : GroupList → Y) (lists : List GroupList) (n : ℕ) (g : GroupList) (y : Y) → slice_get lists n ≡ Some g → slice_get (map f lists) n ≡ Some y → y ≡ f g
part_at f [] n g y e h = absurd (cc)
part_at f (l ∷ lists) zero g y e h =
    let one : l ≡ g = cc in
    let same : f l ≡ y = cc in
    sym same ∙ ap f one
part_at f (l ∷ lists) (suc n) g y e h = part_at f lists n g y e h
