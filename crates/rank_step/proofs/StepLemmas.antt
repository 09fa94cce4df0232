-- The parts of a step, joined.
use Rattle.std.proofs.Common.{◌≡◌, ◌⊎◌, inl, inr, ℕ, ℤ, ◌+◌, ◌%◌, ◌≤◌, zero, suc, Bool, true, false, nat_eq, List, [], ◌∷◌, ◌++◌, length, take, map, Option, Some, None, refl, sym, ◌∙◌, ap, subst, arith, add-one}
use Rattle.std.specs.Prelude.{Result, Ok, Err, IfOk, option_map, option_and_then, if◌then◌else◌, IsPermutation}
use Rattle.std.specs.List.{zip}
use Rattle.std.specs.List.Sorted.{IsStrictlyIncreasing, IsNonDecreasingBy}
use Rattle.std.proofs.Math.Seq.{take-append_seam}
use Rattle.std.proofs.lemmas.Bool.{eq-eqb, ne_eqb}
use Rattle.std.proofs.lemmas.List.{length-map}
use Rattle.std.proofs.lemmas.List.Sorted.{length_permutation}
use Rattle.kern_tree.specs.declared.kernel.Kernel.{Kernel}
use Rattle.pf_geom.specs.declared.edge.Edge.{Edge}
use Rattle.pf_model.specs.Reuse.{as_in}
use Rattle.pf_model.specs.declared.limits.TheConstants.{MOST_GROUP, MOST_PARTICLES}
use Rattle.pf_model.specs.Criterion.{Criterion}
use Rattle.pf_model.specs.Division.{Division}
use Rattle.pf_model.specs.Domains.{owner, owner_by}
use Rattle.order_laws.specs.Order.{first_some}
use Rattle.pf_model.specs.Particle.{Particle}
use Rattle.model_laws.specs.ParticleLaws.{DistinctIdsIgnoreOrder}
use Rattle.pf_model.specs.Particles.{AreBodies, AreInIdOrder, by_id}
use Rattle.group_lists.specs.Whole.{GroupList}
use Rattle.force_phase.specs.Phase.{bodies_in}
use Rattle.run_model.specs.declared.step_text.BodyLine.{BodyLine}
use Rattle.run_model.specs.declared.step_text.RankLine.{RankLine}
use Rattle.run_model.specs.declared.step_text.StepText.{StepText}
use Rattle.run_model.specs.Force.{acc_place, first_given, force_row}
use Rattle.run_model.specs.Setup.{Setup}
use Rattle.run_model.specs.Run.{WithForces, State, Stop, built_at, list_for, with_forces, moved_body, kicked_again, is_build, lists_fault, forces_fault, move_fault, kick_fault, fault_at_start, fault_after, state_at_start, state_after, unless_stopped, state, first_fault}
use Rattle.run_model.specs.Text.{told, ranks as all_ranks, rank_counts, body_row}
use Rattle.rank_step.specs.declared.course.Course.{Course}
use Rattle.run_model.specs.declared.fault.StepFault.{StepFault}
use Rattle.run_model.specs.declared.fault.StepFault.TheVariants as faults
use Rattle.rank_step.specs.declared.last_build.LastBuild.{LastBuild}
use Rattle.run_moves.specs.declared.motion.Motion.{Motion}
use Rattle.rank_step.specs.Answers.{StopsBy}
use Rattle.run_model.specs.Answers.{StopsAt}
use Rattle.rank_step.specs.Build.{AreListsOf, BuildsBy, IsTooMany}
use Rattle.rank_step.specs.LastBuild.{AreKeptSince, IsBuildOf, IsLastBefore, IsLastFor, built_from, owners_of}
use Rattle.run_moves.specs.Moves.{MovesBy}
use Rattle.rank_step.specs.Laws.{NowLaws, ReadLaws}
use Rattle.rank_step.specs.Ranks.{HaveTogether, held_now, with_owners}
use Rattle.rank_step.specs.Trees.{BeginAsKept}
use Rattle.multisection.specs.Regions.{Regions, regions_of}
use Rattle.refresh_phase.specs.Kept.{AreKept, RankKept}
use Rattle.refresh_phase.specs.Laws.{AreAsBuilt}
use Rattle.tree_phase.specs.declared.rank_lists.RankLists.{RankLists}
use Rattle.tree_phase.specs.declared.rank_tree.RankTree.{RankTree}
use Rattle.rank_step.specs.Taken.{Takes, TakesFrom, taking_fault, without_forces}
use Rattle.rank_step.specs.Told.{Reaches, row_with, text_with}
use Rattle.rank_step.specs.World.{Follows, IsBefore, IsSound, IsStanding, StandsFor, Standing, Steps}
use Rattle.exchange.specs.States.{Holding}
use Rattle.rank_step.proofs.NowLemmas.{all_now, together_now}

-- ---- one fault after another

pub stops_first : (first rest : Option Stop) (fault : StepFault) → StopsAt first fault → StopsAt (first_some first rest) fault
stops_first first rest (faults.Numeric fault) h = ap (λ o. first_some o rest) h
stops_first first rest (faults.Lists count) h = ap (λ o. first_some o rest) h
stops_first first rest faults.Memory h = tt

pub stops_later : (first rest : Option Stop) (fault : StepFault) → first ≡ None → StopsAt rest fault → StopsAt (first_some first rest) fault
stops_later first rest (faults.Numeric fault) none h = ap (λ o. first_some o rest) none ∙ h
stops_later first rest (faults.Lists count) none h = ap (λ o. first_some o rest) none ∙ h
stops_later first rest faults.Memory none h = tt

pub none_of_both : (first rest : Option Stop) → first ≡ None → rest ≡ None → first_some first rest ≡ None
none_of_both first rest none h = ap (λ o. first_some o rest) none ∙ h

first_of_three : (a b c : Option Stop) → first_some (first_some a b) c ≡ first_some a (first_some b c)
first_of_three None b c = refl
first_of_three (Some stop) b c = refl

pub too_many_stops : (u : Setup) (built : List Particle) (fault : StepFault) → IsTooMany u built fault → StopsAt (lists_fault u built) fault
too_many_stops u built (faults.Numeric fault) h = absurd h
too_many_stops u built (faults.Lists count) h = h
too_many_stops u built faults.Memory h = tt

pub same_stops : (a b : Option Stop) (fault : StepFault) → a ≡ b → StopsAt a fault → StopsAt b fault
same_stops a b fault e h = subst (λ (o : Option Stop). StopsAt o fault) e h

-- ---- particles

-- a run that follows a course
unfoldable pub run_of : Course → Setup
run_of c = record {
  kernel = c.kernel;
  particles = [];
  grid = c.grid;
  theta = c.theta;
  group = c.group;
  steps = 0;
  dt = c.dt;
  reuse = c.reuse;
}

pub run_follows : (c : Course) → Follows c (run_of c)
unfolding run_of
run_follows c = record { kernel = refl; grid = refl; theta = refl; group = refl; dt = refl; reuse = refl }

pub builds_by : (c : Course) (u : Setup) → Follows c u → BuildsBy c.grid c.theta c.group u
builds_by c u f = record { grid = f.grid; theta = f.theta; group = f.group }

pub builds_with : (c : Course) (u : Setup) → Follows c u → (limit : ℕ) → limit ≡ c.group → BuildsBy c.grid c.theta limit u
builds_with c u f limit same = record { grid = f.grid; theta = f.theta; group = f.group ∙ sym same }

pub lists_have_bodies : DistinctIdsIgnoreOrder → (u : Setup) (built now : List Particle) (lists : List GroupList) → AreListsOf u built now lists → AreBodies now → AreBodies (bodies_in lists)
lists_have_bodies keep u built now lists are h = record {
  few = (let same = length_permutation now (bodies_in lists) are.all in let few = h.few in omega (arith, same, few));
  distinct = keep now (bodies_in lists) are.all h.distinct;
}

pub takes_from : (c : Course) (u : Setup) → Follows c u → (kernel : Kernel) → kernel ≡ c.kernel → (edge : Edge) → edge ≡ c.theta.edge → (built now : List Particle) (lists : List GroupList) → AreListsOf u built now lists → TakesFrom kernel edge built now lists u
takes_from c u follows kernel runs edge same built now lists are = record {
  kernel = follows.kernel ∙ sym runs;
  edge = ap (λ (t : Criterion). t.edge) follows.theta ∙ sym same;
  lists = are;
}

map_ids : (bodies : List WithForces) → map (λ (p : Particle). p.id) (map (λ (b : WithForces). b.body) bodies) ≡ map (λ (b : WithForces). b.body.id) bodies
map_ids [] = refl
map_ids (b ∷ bs) = ap (λ rest. b.body.id ∷ rest) (map_ids bs)

pub moved_ids : (u : Setup) (bodies : List WithForces) → map (λ (p : Particle). p.id) (map (moved_body u) bodies) ≡ map (λ (b : WithForces). b.body.id) bodies
moved_ids u [] = refl
moved_ids u (b ∷ bs) = ap (λ rest. b.body.id ∷ rest) (moved_ids u bs)

pub kicked_ids : (u : Setup) (bodies : List WithForces) → map (λ (b : WithForces). b.body.id) (map (kicked_again u) bodies) ≡ map (λ (b : WithForces). b.body.id) bodies
kicked_ids u [] = refl
kicked_ids u (b ∷ bs) = ap (λ rest. b.body.id ∷ rest) (kicked_ids u bs)

forced_ids : (f : Particle → List ℤ) (now : List Particle) → map (λ (b : WithForces). b.body.id) (map (λ (p : Particle). record { body = p; forces = f p }) now) ≡ map (λ (p : Particle). p.id) now
forced_ids f [] = refl
forced_ids f (p ∷ ps) = ap (λ rest. p.id ∷ rest) (forced_ids f ps)

pub with_forces_ids : (u : Setup) (built now : List Particle) → map (λ (b : WithForces). b.body.id) (with_forces u built now) ≡ map (λ (p : Particle). p.id) now
with_forces_ids u built now = forced_ids (λ i. force_row u.theta.edge u.kernel (list_for u built now i) i) now

pub fresh_ids : (now : List Particle) → map (λ (b : WithForces). b.body.id) (map without_forces now) ≡ map (λ (p : Particle). p.id) now
fresh_ids now = forced_ids (λ p. []) now

pub fresh_bodies : (now : List Particle) → map (λ (b : WithForces). b.body) (map without_forces now) ≡ now
fresh_bodies [] = refl
fresh_bodies (p ∷ ps) = ap (λ rest. p ∷ rest) (fresh_bodies ps)

-- particles with the ids of those of a world
module _ (group : ℕ) (bodies : List WithForces) (standing : IsStanding group bodies) where
  few_by_ids : {X : Type 0} (f : X → ℕ) (xs : List X) → map f xs ≡ map (λ (b : WithForces). b.body.id) bodies → length xs ≤ MOST_PARTICLES
  few_by_ids f xs e =
      let same = ap length e in
      let left = length-map xs f in
      let right = length-map bodies (λ (b : WithForces). b.body.id) in
      let few = standing.few in
      omega (arith, same, left, right, few)

  pub ids_ascend : (now : List Particle) → map (λ p. p.id) now ≡ map (λ b. b.body.id) bodies → IsStrictlyIncreasing (map (λ p. p.id) now)
  ids_ascend now e = subst IsStrictlyIncreasing (sym e) standing.ascending

  pub are_bodies : NowLaws → (now : List Particle) → map (λ p. p.id) now ≡ map (λ b. b.body.id) bodies → AreBodies now
  are_bodies laws now e = record { few = few_by_ids (λ (p : Particle). p.id) now e; distinct = laws.differ now ((laws.increase now).1 (ids_ascend now e)) }

  pub stands_on : (after : List WithForces) → map (λ b. b.body.id) after ≡ map (λ b. b.body.id) bodies → IsStanding group after
  stands_on after e = record {
    some = standing.some;
    most = standing.most;
    few = few_by_ids (λ (b : WithForces). b.body.id) after e;
    ascending = subst IsStrictlyIncreasing (sym e) standing.ascending;
  }

-- the ranks of the last build have together its particles where they are now
pub ranks_now : NowLaws → (g : Division) (built now : List Particle) (ranks after : List Holding) → IsStrictlyIncreasing (map (λ p. p.id) now) → map (λ p. p.id) built ≡ map (λ p. p.id) now → HaveTogether g built ranks → after ≡ map (held_now now) ranks → HaveTogether g now after
ranks_now laws g built now ranks after up same together is =
    subst (HaveTogether g now) (sym is) (together_now laws g now built ranks up same together)

-- where a step builds, it keeps lists for those without a build that may come
pub last_of_build : (c : Course) (due : ℕ) (now : List Particle) (last : LastBuild) → last.bodies.items ≡ now → HaveTogether c.grid now last.ranks.items → (c.reuse ≡ 1) ⊎ AreKeptSince c.group c.theta c.grid now last.kept.items →
    IsLastFor c.grid c.theta c.group c.reuse due (map (λ p. p.id) now) last
last_of_build c due now last is together kept = record {
  same = ap (map (λ (p : Particle). p.id)) is;
  together = subst (λ js. HaveTogether c.grid js last.ranks.items) (sym is) together;
  kept = kept_of kept;
} where
  kept_of : (c.reuse ≡ 1) ⊎ AreKeptSince c.group c.theta c.grid now last.kept.items → (due % c.reuse ≡ 0) ⊎ AreKeptSince c.group c.theta c.grid last.bodies.items last.kept.items
  kept_of (inl once) = inl (rw once (omega arith))
  kept_of (inr kept) = inr (subst (λ js. AreKeptSince c.group c.theta c.grid js last.kept.items) (sym is) kept)

-- what is kept of a build
pub kept_since : (c : Course) (limit : ℕ) → limit ≡ c.group → (reuse : ℕ) → reuse ≡ c.reuse → (js now : List Particle) (trees : List RankTree) (lists : List RankLists) (kept : List RankKept) → js ≡ now →
    BeginAsKept limit c.theta c.grid js trees lists → (reuse ≡ 1) ⊎ AreAsBuilt trees lists kept → (c.reuse ≡ 1) ⊎ AreKeptSince c.group c.theta c.grid now kept
kept_since c limit of_group reuse of_reuse js now trees lists kept same begin (inl once) = inl (sym of_reuse ∙ once)
kept_since c limit of_group reuse of_reuse js now trees lists kept same begin (inr are) =
    inr (now, subst (λ (n : ℕ). AreKept n c.theta c.grid now now kept) of_group (subst (λ ps. AreKept limit c.theta c.grid ps ps kept) same (begin kept are)))

-- the owners of a build, and its ranks
pub build_of : (u : Setup) (g : Division) (js now : List Particle) (d : Regions) (last : LastBuild) → u.grid ≡ g → js ≡ now → d ≡ regions_of g js → last.bodies.items ≡ now → last.owners.items ≡ map (λ p. owner_by d.cuts p.at) js → last.ranks.items ≡ with_owners g js →
    IsBuildOf u last
unfolding owner
build_of u g js now d last grid same regions is owners ranks = record {
  owners = owners ∙ ap (λ (r : Regions). map (λ p. owner_by r.cuts p.at) js) regions ∙ (λ i. owners_of (sym grid i) (at i));
  ranks = ranks ∙ (λ i. with_owners (sym grid i) (at i));
} where
  at : js ≡ last.bodies.items
  at = same ∙ sym is

-- where a build is due
pub builds_here : (u : Setup) (c : Course) (due : ℕ) → Follows c u → due % c.reuse ≡ 0 → is_build u due ≡ true
builds_here u c due f e = ap (λ (n : ℕ). nat_eq (due % n) 0) f.reuse ∙ eq-eqb (due % c.reuse) 0 e

pub built_here : (reuse due : ℕ) (now was : List Particle) → due % reuse ≡ 0 → built_from reuse due now was ≡ now
built_here reuse due now was e = ap (λ b. if b then now else was) (eq-eqb (due % reuse) 0 e)

pub builds_later : (u : Setup) (c : Course) (due : ℕ) → Follows c u → (due % c.reuse ≡ 0 → ⊥) → is_build u due ≡ false
builds_later u c due f other = ap (λ (n : ℕ). nat_eq (due % n) 0) f.reuse ∙ ne_eqb (due % c.reuse) 0 other

pub built_later : (reuse due : ℕ) (now was : List Particle) → (due % reuse ≡ 0 → ⊥) → built_from reuse due now was ≡ was
built_later reuse due now was other = ap (λ b. if b then now else was) (ne_eqb (due % reuse) 0 other)

-- what two clauses say of one answer
pub both_ok : {X E : Type 0} (P Q : X → Type 0) (r : Result X E) → IfOk r P → IfOk r Q → IfOk r (λ x. P x × Q x)
both_ok P Q (Ok x) p q = (p, q)
both_ok P Q (Err e) p q = tt

-- what a step reaches, where its last build is of these particles
pub reaches : (u : Setup) (s : ℕ) (bodies : List WithForces) (lines : List RankLine) (last : LastBuild) (built : List Particle) → last.bodies.items ≡ built → first_fault u s ≡ None → state u s ≡ Some (record { bodies = bodies; built = built }) →
    lines ≡ map (rank_counts u built) (all_ranks u) → IsBuildOf u last → Reaches u s bodies lines last
reaches u s bodies lines last built is none at counts build = record {
  no_fault = none;
  state = at ∙ ap (λ (js : List Particle). Some (record { bodies = bodies; built = js })) (sym is);
  counts = counts ∙ ap (λ (js : List Particle). map (rank_counts u js) (all_ranks u)) (sym is);
  build = build;
}

-- ---- step 0

pub start_stops : (u : Setup) (read : List Particle) (fault : StepFault) → read ≡ by_id u.particles → StopsAt (taking_fault u true read read) fault → StopsBy u 0 fault
unfolding first_fault
start_stops u read fault e h = same_stops (taking_fault u true read read) (fault_at_start u) fault (ap (λ js. taking_fault u true js js) e) h

state_from : Setup → List Particle → State
state_from u read = record { bodies = with_forces u read read; built = read }

pub start_reaches : (u : Setup) (read : List Particle) (bodies : List WithForces) (lines : List RankLine) (last : LastBuild) → read ≡ by_id u.particles → Takes u true read read bodies lines → last.bodies.items ≡ read → IsBuildOf u last →
    Reaches u 0 bodies lines last
unfolding state first_fault state_from
start_reaches u read bodies lines last e takes is build =
    let no_fault : fault_at_start u ≡ None = ap (λ js. taking_fault u true js js) (sym e) ∙ takes.no_fault in
    reaches u 0 bodies lines last read is no_fault
    (ap (λ o. unless_stopped o (state_at_start u)) no_fault ∙ ap (λ r. Some (state_from u r)) (sym e) ∙ ap (λ (bs : List WithForces). Some (record { bodies = bs; built = read })) (sym takes.forces))
    takes.counts build

-- ---- a step past 0

-- the first fault of a step after these particles, with a build or without, over the particles of the last build
next_fault : Setup → Bool → List Particle → List WithForces → Option Stop
next_fault u b built bodies =
    let now = map (moved_body u) bodies in
    first_some (first_given (move_fault u) bodies) (first_some (taking_fault u b built now) (first_given (kick_fault u) (with_forces u built now)))

abbrev next_built : Setup → ℕ → List WithForces → List Particle → List Particle
next_built u due bodies was = built_at u due (record { bodies = bodies; built = was })

next_first : (u : Setup) (due : ℕ) (bodies : List WithForces) (was : List Particle) → 1 ≤ due → IsBefore u due bodies was → first_fault u due ≡ next_fault u (is_build u due) (next_built u due bodies was) bodies
unfolding first_fault next_fault
next_first u zero bodies was later before = absurd (omega arith)
next_first u (suc s) bodies was later before =
    let now = map (moved_body u) bodies in
    let built = next_built u (suc s) bodies was in
    ap (option_and_then (fault_after u (suc s))) before
    ∙ ap (first_some (first_given (move_fault u) bodies)) (sym (first_of_three (if is_build u (suc s) then lists_fault u built else None) (first_given (forces_fault u built now) now) (first_given (kick_fault u) (with_forces u built now))))

next_state : (u : Setup) (due : ℕ) (bodies : List WithForces) (was : List Particle) → 1 ≤ due → IsBefore u due bodies was → first_fault u due ≡ None → state u due ≡ Some (state_after u due (record { bodies = bodies; built = was }))
unfolding state first_fault
next_state u zero bodies was later before none = absurd (omega arith)
next_state u (suc s) bodies was later before none =
    ap (option_and_then (λ b. unless_stopped (fault_after u (suc s) b) (state_after u (suc s) b))) before
    ∙ ap (λ o. unless_stopped o (state_after u (suc s) (record { bodies = bodies; built = was }))) (sym (ap (option_and_then (fault_after u (suc s))) before) ∙ none)

module _ (u : Setup) (due : ℕ) (bodies : List WithForces) (was : List Particle) (later : 1 ≤ due) (before : IsBefore u due bodies was) where
  pub move_stops : (fault : StepFault) → StopsAt (first_given (move_fault u) bodies) fault → StopsBy u due fault
  unfolding next_fault
  move_stops fault h =
      same_stops (next_fault u (is_build u due) (next_built u due bodies was) bodies) (first_fault u due) fault (sym (next_first u due bodies was later before)) (stops_first (first_given (move_fault u) bodies) _ fault h)

  module _ (now : List Particle) (now_is : now ≡ map (moved_body u) bodies) (moves : first_given (move_fault u) bodies ≡ None) (reuse : ℕ) (reused : u.reuse ≡ reuse) where
    built_is : built_from reuse due now was ≡ next_built u due bodies was
    built_is = (λ i. if nat_eq (due % sym reused i) 0 then now_is i else was)

    rest : Option Stop
    rest = first_some (taking_fault u (is_build u due) (built_from reuse due now was) now) (first_given (kick_fault u) (with_forces u (built_from reuse due now was) now))

    rest_by : List Particle → List Particle → Option Stop
    rest_by js ks = first_some (taking_fault u (is_build u due) js ks) (first_given (kick_fault u) (with_forces u js ks))

    first_from : rest ≡ first_fault u due
    unfolding rest rest_by next_fault
    first_from =
        (λ i. rest_by (built_is i) (now_is i))
        ∙ sym (ap (λ o. first_some o (rest_by (next_built u due bodies was) (map (moved_body u) bodies))) moves)
        ∙ sym (next_first u due bodies was later before)

    pub taking_stops : (fault : StepFault) → StopsAt (taking_fault u (is_build u due) (built_from reuse due now was) now) fault → StopsBy u due fault
    unfolding rest
    taking_stops fault h = same_stops _ (first_fault u due) fault first_from (stops_first (taking_fault u (is_build u due) (built_from reuse due now was) now) (first_given (kick_fault u) (with_forces u (built_from reuse due now was) now)) fault h)

    module _ (takes : taking_fault u (is_build u due) (built_from reuse due now was) now ≡ None) where
      pub kick_stops : (fault : StepFault) → StopsAt (first_given (kick_fault u) (with_forces u (built_from reuse due now was) now)) fault → StopsBy u due fault
      unfolding rest
      kick_stops fault h = same_stops _ (first_fault u due) fault first_from (stops_later (taking_fault u (is_build u due) (built_from reuse due now was) now) (first_given (kick_fault u) (with_forces u (built_from reuse due now was) now)) fault takes h)

      pub next_reaches : (after : List WithForces) (lines : List RankLine) (last : LastBuild) → first_given (kick_fault u) (with_forces u (built_from reuse due now was) now) ≡ None → after ≡ map (kicked_again u) (with_forces u (built_from reuse due now was) now) →
          lines ≡ map (rank_counts u (built_from reuse due now was)) (all_ranks u) → last.bodies.items ≡ built_from reuse due now was → IsBuildOf u last → Reaches u due after lines last
      unfolding rest
      next_reaches after lines last kicks is counts of build =
          let none : rest ≡ None = none_of_both (taking_fault u (is_build u due) (built_from reuse due now was) now) (first_given (kick_fault u) (with_forces u (built_from reuse due now was) now)) takes kicks in
          let no_fault = sym first_from ∙ none in
          reaches u due after lines last (built_from reuse due now was) of no_fault
          (next_state u due bodies was later before no_fault
          ∙ (λ i. Some (record { bodies = map (kicked_again u) (with_forces u (sym built_is i) (sym now_is i)); built = sym built_is i }))
          ∙ ap (λ (bs : List WithForces). Some (record { bodies = bs; built = built_from reuse due now was })) (sym is))
          counts build

-- ---- a world

-- a world of these
abbrev pub world_of : Course → ℕ → List WithForces → LastBuild → Standing
world_of c due bodies last = record {
  kernel = c.kernel;
  grid = c.grid;
  theta = c.theta;
  group = c.group;
  dt = c.dt;
  reuse = c.reuse;
  due = due;
  bodies = bodies;
  last = last;
}

-- the fields of a world are those of what clauses see
pub stands_within : (inside w : Standing) (u : Setup) → inside ≡ w → StandsFor w u → StandsFor inside u
stands_within inside w u view h = subst (λ (v : Standing). StandsFor v u) (sym view) h

pub follows : (c : Course) (due : ℕ) (bodies : List WithForces) (last : LastBuild) (u : Setup) → StandsFor (world_of c due bodies last) u → Follows c u
follows c due bodies last u s = record { kernel = s.kernel; grid = s.grid; theta = s.theta; group = s.group; dt = s.dt; reuse = s.reuse }

pub moves_by : (m : Motion) (c : Course) → m.acc_place ≡ acc_place c.kernel → m.edge ≡ c.theta.edge → m.dt ≡ c.dt → (u : Setup) → Follows c u → MovesBy m u
moves_by m c place at_edge timed u f = record {
  place = ap acc_place f.kernel ∙ sym place;
  edge = ap (λ (t : Criterion). t.edge) f.theta ∙ sym at_edge;
  dt = f.dt ∙ sym timed;
}

pub read_at_start : (u : Setup) (due : ℕ) (bodies : List WithForces) (built : List Particle) → due ≡ 0 → IsBefore u due bodies built → built ≡ by_id u.particles
read_at_start u zero bodies built start before = before.1
read_at_start u (suc s) bodies built start before = absurd (omega arith)

pub build_before : (u : Setup) (due : ℕ) (last : LastBuild) → 1 ≤ due → IsLastBefore u due last → IsBuildOf u last
build_before u zero last later before = absurd (omega arith)
build_before u (suc s) last later before = before

pub map_moved_ids : (u : Setup) (bodies : List WithForces) (now : List Particle) → now ≡ map (moved_body u) bodies → map (λ (p : Particle). p.id) now ≡ map (λ (b : WithForces). b.body.id) bodies
map_moved_ids u bodies now e = ap (map (λ (p : Particle). p.id)) e ∙ moved_ids u bodies

pub map_kicked_ids : (u : Setup) (built now : List Particle) (after : List WithForces) → after ≡ map (kicked_again u) (with_forces u built now) → map (λ (b : WithForces). b.body.id) after ≡ map (λ (p : Particle). p.id) now
map_kicked_ids u built now after e = ap (map (λ (b : WithForces). b.body.id)) e ∙ kicked_ids u (with_forces u built now) ∙ with_forces_ids u built now

pub sound_after : (g : Division) (t : Criterion) (group reuse due : ℕ) (bodies : List WithForces) (last : LastBuild) → IsSound g t group reuse due bodies last → (next : ℕ) (after : List WithForces) (to : LastBuild) →
    map (λ b. b.body.id) after ≡ map (λ b. b.body.id) bodies → IsLastFor g t group reuse next (map (λ b. b.body.id) bodies) to → IsSound g t group reuse next after to
sound_after g t group reuse due bodies last sound next after to same keeps = record {
  standing = stands_on group bodies sound.standing after same;
  some_steps = sound.some_steps;
  last_build = subst (λ (ids : List ℕ). IsLastFor g t group reuse next ids to) (sym same) keeps;
}

-- what is written back into a vector of as many elements
pub written : {X : Type 0} (n : ℕ) (ys zs : List X) → n ≡ length ys → take n (ys ++ zs) ≡ ys
written n ys zs e = ap (λ k. take k (ys ++ zs)) e ∙ take-append_seam ys zs

-- ---- the particles as they were read

module _ (laws : ReadLaws) (read sorted : List Particle) (particles : AreBodies read) (same : IsPermutation read sorted) (order : IsNonDecreasingBy (λ (p : Particle). p.id) sorted) where
  ascending : AreInIdOrder sorted
  ascending = laws.rise (λ (p : Particle). p.id) sorted (laws.distinct read sorted same particles.distinct) order

  pub sorted_ascend : IsStrictlyIncreasing (map (λ p. p.id) sorted)
  sorted_ascend = (laws.increase sorted).0 ascending

  pub opened_stands : (group : ℕ) → 1 ≤ group → group ≤ MOST_GROUP → (bodies : List WithForces) → bodies ≡ map without_forces sorted → IsStanding group bodies
  opened_stands group some most bodies is = record {
    some = some;
    most = most;
    few =
        (let long = ap length is ∙ length-map sorted without_forces in
        let same_length = length_permutation read sorted same in
        let few = particles.few in
        omega (arith, long, same_length, few));
    ascending = subst IsStrictlyIncreasing (sym (ap (map (λ (b : WithForces). b.body.id)) is ∙ fresh_ids sorted)) sorted_ascend;
  }

  pub opened_sound : (g : Division) (t : Criterion) (group reuse : ℕ) → 1 ≤ group → group ≤ MOST_GROUP → 1 ≤ reuse → (bodies : List WithForces) → bodies ≡ map without_forces sorted → (last : LastBuild) →
      last.bodies.items ≡ sorted → HaveTogether g sorted last.ranks.items → IsSound g t group reuse 0 bodies last
  opened_sound g t group reuse some most some_steps bodies is last of together = record {
    standing = opened_stands group some most bodies is;
    some_steps = some_steps;
    last_build = record {
      same = ap (map (λ (p : Particle). p.id)) of ∙ sym (ap (map (λ (b : WithForces). b.body.id)) is ∙ fresh_ids sorted);
      together = subst (λ js. HaveTogether g js last.ranks.items) (sym of) together;
      kept = inl (starts reuse some_steps);
    };
  } where
    starts : (n : ℕ) → 1 ≤ n → 0 % n ≡ 0
    starts n some = omega arith

  pub sorted_is : by_id read ≡ sorted
  sorted_is = laws.by_id read sorted same ascending

  pub opened_is : (bodies : List WithForces) → bodies ≡ map without_forces sorted → map (λ (b : WithForces). b.body) bodies ≡ by_id read
  opened_is bodies is = ap (map (λ (b : WithForces). b.body)) is ∙ fresh_bodies sorted ∙ sym sorted_is

-- ---- what is told

row_by : WithForces → ℕ → BodyLine
row_by b owner = record { id = b.body.id; owner = owner; at = b.body.at; vel = b.body.vel; forces = b.forces }

owners_by : Division → List Particle → List Particle → List ℕ
owners_by g built js = map (λ p. owner g built p.at) js

-- the particles as they were at the build
were : List Particle → List WithForces → List Particle
were built bodies = map (λ b. as_in built b.body) bodies

were_now : (built : List Particle) (bodies : List WithForces) → were built bodies ≡ map (as_in built) (map (λ b. b.body) bodies)
unfolding were
were_now built [] = refl
were_now built (b ∷ bs) = ap (λ rest. as_in built b.body ∷ rest) (were_now built bs)

were_all : NowLaws → (built : List Particle) (bodies : List WithForces) → IsStrictlyIncreasing (map (λ p. p.id) built) → map (λ (p : Particle). p.id) built ≡ map (λ (b : WithForces). b.body.id) bodies → were built bodies ≡ built
were_all laws built bodies up same = were_now built bodies ∙ all_now laws built up (map (λ b. b.body) bodies) (map_ids bodies ∙ sym same)

rows_are : (u : Setup) (built : List Particle) (bodies : List WithForces) → map (body_row u built) bodies ≡ map row_with (zip (owners_by u.grid built (were built bodies)) bodies)
unfolding body_row row_by owners_by were
rows_are u built [] = refl
rows_are u built (b ∷ bs) = ap (λ rest. row_by b (owner u.grid built (as_in built b.body).at) ∷ rest) (rows_are u built bs)

text_by : ℕ → List RankLine → List BodyLine → StepText
text_by s lines rows = record { step = s; ranks = lines; rows = rows }

told_is : NowLaws → (u : Setup) (s : ℕ) (bodies : List WithForces) (lines : List RankLine) (last : LastBuild) → Reaches u s bodies lines last → IsStrictlyIncreasing (map (λ p. p.id) last.bodies.items) → map (λ (p : Particle). p.id) last.bodies.items ≡ map (λ (b : WithForces). b.body.id) bodies →
    option_map (told u s) (state u s) ≡ Some (text_with s lines last.owners.items bodies)
unfolding text_by owners_by
told_is laws u s bodies lines last reaches up same =
    let built = last.bodies.items in
    let owners : owners_by u.grid built (were built bodies) ≡ last.owners.items = ap (owners_by u.grid built) (were_all laws built bodies up same) ∙ sym reaches.build.owners in
    ap (option_map (told u s)) reaches.state
    ∙ (λ i. Some (text_by s (sym reaches.counts i) (rows_are u built bodies i)))
    ∙ ap (λ (os : List ℕ). Some (text_with s lines os bodies)) owners

steps_from : (c : Course) (u : Setup) (due : ℕ) (bodies : List WithForces) (lines : List RankLine) (last : LastBuild) (text : StepText) → Follows c u → AreBodies u.particles → Reaches u due bodies lines last →
    option_map (told u due) (state u due) ≡ Some text → Steps u due (world_of c (suc due) bodies last) text
steps_from c u due bodies lines last text f particles reaches told = record {
  no_fault = reaches.no_fault;
  told = told;
  due = refl;
  stands = record {
    kernel = f.kernel;
    grid = f.grid;
    theta = f.theta;
    group = f.group;
    dt = f.dt;
    reuse = f.reuse;
    particles = particles;
    before = reaches.state;
    last = reaches.build;
  };
}

pub steps_on : NowLaws → (c : Course) (u : Setup) (due : ℕ) (bodies : List WithForces) (lines : List RankLine) (last : LastBuild) (text : StepText) → Follows c u → AreBodies u.particles → Reaches u due bodies lines last →
    IsSound c.grid c.theta c.group c.reuse (due + 1) bodies last → text ≡ text_with due lines last.owners.items bodies → Steps u due (world_of c (due + 1) bodies last) text
steps_on laws c u due bodies lines last text f particles reaches sound is =
    let up = subst IsStrictlyIncreasing (sym sound.last_build.same) sound.standing.ascending in
    subst (λ (n : ℕ). Steps u due (world_of c n bodies last) text) (sym (add-one due))
    (steps_from c u due bodies lines last text f particles reaches (told_is laws u due bodies lines last reaches up sound.last_build.same ∙ ap Some (sym is)))
