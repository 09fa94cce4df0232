-- States whose particles stand in one order, at the build and now.
use Rattle.std.proofs.Common.{◌≡◌, ℕ, ◌%◌, List, [], ◌∷◌, ◌++◌, length, map, take, drop, nat_eq, refl, sym, ap, subst, ◌∙◌, eq-eqb, arith}
use Rattle.std.specs.List.{IsDistinct}
use Rattle.std.proofs.lemmas.List.{length-map, take_at}
use Rattle.std.proofs.lemmas.List.Sorted.{length_permutation}
use Rattle.pf_model.specs.Particle.{Particle}
use Rattle.pf_model.specs.Particles.{AreBodies, by_id}
use Rattle.model_laws.specs.IdLaws.{OrdersByIdHaveAll, OrdersByIdHaveDistinctIds}
use Rattle.run_model.specs.Setup.{Setup}
use Rattle.run_model.specs.Run.{WithForces, State, with_forces, moved, moved_body, kicked_again, lists_fault}
use Rattle.plain_run.specs.Lists.{HaveOneOrder}
use Rattle.plain_run.specs.Runs.{IsStill, forced_by, build_fault}

abbrev id_of : Particle → ℕ
id_of p = p.id

abbrev body_of : WithForces → Particle
body_of b = b.body

-- particles of the same ids
pub same_ids : (js ks : List Particle) → HaveOneOrder js ks → AreBodies js → AreBodies ks
same_ids js ks same h =
    let long = sym (length-map js id_of) ∙ ap length same ∙ length-map ks id_of in
    record {
      few = (let few = h.few in omega arith);
      distinct = subst (IsDistinct nat_eq) same h.distinct;
    }

-- the order by ids
pub sorted_are_bodies : OrdersByIdHaveDistinctIds → OrdersByIdHaveAll → (js : List Particle) → AreBodies js → AreBodies (by_id js)
sorted_are_bodies distinct all js h = record {
  few = (let long = length_permutation js (by_id js) (all js h.distinct) in let few = h.few in omega arith);
  distinct = distinct js;
}

-- what a step makes of particles keeps their ids
forced_ids : (f : Particle → WithForces) → ((p : Particle) → (f p).body ≡ p) → (now : List Particle) → map id_of (map body_of (map f now)) ≡ map id_of now
forced_ids f same [] = refl
forced_ids f same (p ∷ now) = λ i. id_of (same p i) ∷ forced_ids f same now i

kicked_ids : (u : Setup) (bs : List WithForces) → map id_of (map body_of (map (kicked_again u) bs)) ≡ map id_of (map body_of bs)
kicked_ids u [] = refl
kicked_ids u (b ∷ bs) = ap (λ l. b.body.id ∷ l) (kicked_ids u bs)

moved_ids : (u : Setup) (bs : List WithForces) → map id_of (map (moved_body u) bs) ≡ map id_of (map body_of bs)
moved_ids u [] = refl
moved_ids u (b ∷ bs) = ap (λ l. b.body.id ∷ l) (moved_ids u bs)

pub still_forced : (u : Setup) (built now : List Particle) → AreBodies built → HaveOneOrder built now → IsStill (with_forces u built now) built
still_forced u built now few same = record {
  few = few;
  same = same ∙ sym (forced_ids (forced_by u built now) (λ p. refl) now);
}

pub still_taken : (u : Setup) (built now : List Particle) → AreBodies built → HaveOneOrder built now → IsStill (map (kicked_again u) (with_forces u built now)) built
still_taken u built now few same = record {
  few = few;
  same = same ∙ sym (forced_ids (forced_by u built now) (λ p. refl) now) ∙ sym (kicked_ids u (with_forces u built now));
}

pub still_moved : (u : Setup) (before : State) → IsStill before.bodies before.built → HaveOneOrder before.built (moved u before)
still_moved u before h = h.same ∙ sym (moved_ids u before.bodies)

pub moved_are_bodies : (u : Setup) (before : State) → IsStill before.bodies before.built → AreBodies (moved u before)
moved_are_bodies u before h = same_ids before.built (moved u before) (still_moved u before h) h.few

-- the fault of a step at which a build is due
pub build_is_due : (u : Setup) (s : ℕ) (before : State) → s % u.reuse ≡ 0 → lists_fault u (moved u before) ≡ build_fault u s before
build_is_due u s before e = rw (eq-eqb (s % u.reuse) 0 e) refl

-- a list that a loop has changed in place
pub written : {X : Type 0} (new old : List X) (n : ℕ) → n ≡ length new → take n (new ++ drop (length new) old) ≡ new
written new old n e = take_at new (drop (length new) old) n (sym e)
