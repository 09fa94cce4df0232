-- The particles of a run, from step to step.
use Rattle.std.proofs.Common.{◌≡◌, ℕ, ℤ, zero, suc, List, [], ◌∷◌, map, Option, Some, None, refl, ◌∙◌, ap, subst}
use Rattle.std.specs.Prelude.{option_and_then, IsPermutation}
use Rattle.std.proofs.lemmas.Bool.{cond_both}
use Rattle.pf_model.specs.Particle.{Particle}
use Rattle.pf_model.specs.Particles.{HaveDistinctIds, by_id}
use Rattle.model_laws.specs.IdLaws.{OrdersByIdAreOne, OrdersByIdHaveDistinctIds}
use Rattle.run_model.specs.Setup.{Setup}
use Rattle.run_model.specs.StepText.{step_text}
use Rattle.run_model.specs.Text.{told, rank_counts, body_row}
use Rattle.run_model.specs.Force.{first_given, force_row}
use Rattle.order_laws.specs.Order.{first_some}
use Rattle.std.specs.Option.{option_map_or}
use Rattle.run_model.specs.Run.{WithForces, State, Stop, list_for, lists_fault, forces_fault, with_forces, moved, moved_body, kicked_again, is_build, built_at, fault_at_start, state_at_start, fault_after, state_after, unless_stopped, state, first_fault}
use Rattle.run_model.specs.RunLaws.{ids_of, HasAll, IsSameRun, with_particles}

-- ---- what each step keeps

pub same_unless : {X : Type 0} (o : Option Stop) (x y : X) → unless_stopped o x ≡ Some y → x ≡ y
same_unless None x y e = cc
same_unless (Some stop) x y e = cc

kept_by_step : {X : Type 0} (P : X → Type 0) (f : X → Option Stop) (g : X → X) (o : Option X) (y : X) → ((x : X) → o ≡ Some x → P x) → ((x : X) → P x → P (g x)) → option_and_then (λ x. unless_stopped (f x) (g x)) o ≡ Some y → P y
kept_by_step P f g None y before step e = cc
kept_by_step P f g (Some x) y before step e = subst P (same_unless (f x) (g x) y e) (step x (before x refl))

with_forces-ids : (f : Particle → List ℤ) (js : List Particle) → map (λ (d : WithForces). d.body.id) (map (λ (i : Particle). record { body = i; forces = f i }) js) ≡ map (λ (p : Particle). p.id) js
with_forces-ids f [] = refl
with_forces-ids f (j ∷ js) = ap (λ rest. j.id ∷ rest) (with_forces-ids f js)

kicked_ids : (u : Setup) (ds : List WithForces) → map (λ (d : WithForces). d.body.id) (map (kicked_again u) ds) ≡ map (λ (d : WithForces). d.body.id) ds
kicked_ids u [] = refl
kicked_ids u (d ∷ ds) = ap (λ rest. d.body.id ∷ rest) (kicked_ids u ds)

pub moved_ids : (u : Setup) (bodies : List WithForces) → map (λ (p : Particle). p.id) (map (moved_body u) bodies) ≡ map (λ (d : WithForces). d.body.id) bodies
moved_ids u [] = refl
moved_ids u (d ∷ ds) = ap (λ rest. d.body.id ∷ rest) (moved_ids u ds)

forces_over : Setup → List Particle → List Particle → Particle → List ℤ
forces_over u built now i = force_row u.theta.edge u.kernel (list_for u built now i) i

start_has_all : (u : Setup) → HasAll u (state_at_start u)
unfolding forces_over
start_has_all u = record {
  bodies = with_forces-ids (forces_over u (by_id u.particles) (by_id u.particles)) (by_id u.particles);
  built = refl;
}

step_has_all : (u : Setup) (s : ℕ) (before : State) → HasAll u before → HasAll u (state_after u s before)
unfolding forces_over
step_has_all u s before h =
    let here : map (λ (p : Particle). p.id) (moved u before) ≡ ids_of u = moved_ids u before.bodies ∙ h.bodies in
    record {
      bodies = kicked_ids u (with_forces u (built_at u s before) (moved u before)) ∙ with_forces-ids (forces_over u (built_at u s before) (moved u before)) (moved u before) ∙ here;
      built = cond_both (is_build u s) (moved u before) before.built (λ (js : List Particle). map (λ (p : Particle). p.id) js ≡ ids_of u) (λ _. here) (λ _. h.built);
    }

pub states_keep : (u : Setup) (s : ℕ) (now : State) → state u s ≡ Some now → HasAll u now
unfolding state
states_keep u zero now e = subst (HasAll u) (same_unless (fault_at_start u) (state_at_start u) now e) (start_has_all u)
states_keep u (suc s) now e =
    kept_by_step (HasAll u) (fault_after u (suc s)) (state_after u (suc s)) (state u s) now (states_keep u s) (step_has_all u (suc s)) e

-- ---- the order in which they were read

-- the start of a run from particles in the order of their ids
start_from : Setup → List Particle → Option State
start_from u read =
    unless_stopped (first_some (lists_fault u read) (first_given (forces_fault u read read) read)) (record { bodies = with_forces u read read; built = read })

same_states : (u : Setup) (js : List Particle) → by_id u.particles ≡ by_id js → (s : ℕ) → state u s ≡ state (with_particles u js) s
unfolding state start_from
same_states u js e zero = ap (start_from u) e
same_states u js e (suc s) = ap (option_and_then (λ before. unless_stopped (fault_after u (suc s) before) (state_after u (suc s) before))) (same_states u js e s)

same_faults : (u : Setup) (js : List Particle) → by_id u.particles ≡ by_id js → (s : ℕ) → first_fault u s ≡ first_fault (with_particles u js) s
unfolding first_fault
same_faults u js e zero = ap (λ read. first_some (lists_fault u read) (first_given (forces_fault u read read) read)) e
same_faults u js e (suc s) = ap (option_and_then (fault_after u (suc s))) (same_states u js e s)

pub same_run : OrdersByIdAreOne → (u : Setup) (js : List Particle) → HaveDistinctIds u.particles → IsPermutation u.particles js → IsSameRun u (with_particles u js)
unfolding rank_counts body_row
same_run one u js distinct h =
    let e = one u.particles js distinct h in
    record {
      states = same_states u js e;
      faults = same_faults u js e;
      texts = λ s. ap (λ now. option_map_or (λ at. step_text (told u s at)) now []) (same_states u js e s);
    }

-- ---- each particle in one entry

pub built_distinct : OrdersByIdHaveDistinctIds → (u : Setup) (s : ℕ) (now : State) → state u s ≡ Some now → HaveDistinctIds now.built
built_distinct distinct u s now e = rw (states_keep u s now e).built (distinct u.particles)
