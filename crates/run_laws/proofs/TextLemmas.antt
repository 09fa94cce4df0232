-- The text of a thin run.
use Rattle.std.proofs.Common.{◌≡◌, ℕ, suc, ◌+◌, ◌<◌, ◌≤◌, ◌^◌, Bool, false, List, [], ◌∷◌, length, get_or, map, Option, Some, None, refl, sym, ap, subst, ◌∙◌, lit≤, arith}
use Rattle.std.specs.Prelude.{option_map, nat_lt, if◌then◌else◌}
use Rattle.std.specs.Option.{option_map_or}
use Rattle.std.specs.List.{All, Contains}
use Rattle.std.proofs.lemmas.Bool.{cond_both}
use Rattle.std.proofs.lemmas.Bool.Decides.{nat_tests}
use Rattle.std.proofs.lemmas.List.Elements.{Contains-get_or, All-contains}
use Rattle.pf_geom.specs.declared.edge.Edge.TheVariants.{Open}
use Rattle.pf_model.specs.Reuse.{as_in}
use Rattle.pf_model.specs.declared.entry.Entry.TheVariants.{One}
use Rattle.pf_model.specs.Criterion.{Criterion, IsCriterion}
use Rattle.pf_model.specs.Division.{IsDivision, rank_count}
use Rattle.model_laws.specs.IdLaws.{OrdersByIdHaveDistinctIds, OrdersByIdKeepParticles}
use Rattle.order_laws.specs.Order.{placed, first_some}
use Rattle.pf_model.specs.Particle.{Particle, IsParticle}
use Rattle.pf_model.specs.Particles.{by_id}
use Rattle.run_model.specs.Force.{first_given, force_row, force_fault}
use Rattle.run_model.specs.Run.{WithForces, Stop, Lists, numeric, list_for, lists_fault, forces_fault, with_forces, state, fault_at_start, state_at_start, unless_stopped}
use Rattle.run_model.specs.RunLaws.{LoneRanksBuildSo}
use Rattle.run_model.specs.StepText.{step_text}
use Rattle.run_model.specs.Text.{rank_counts, body_row, told}
use Rattle.run_laws.specs.ThinBuild.{OrdersByIdStay, ThinBuildsAreSo}
use Rattle.run_laws.specs.ThinForces.{pulled, PullsAddUp}
use Rattle.run_laws.specs.ThinText.{thin_row, ThinTextsAreThinDumps}

length_placed : (before : Particle → Particle → Bool) (x : Particle) (ys : List Particle) → length (placed before x ys) ≤ 1 + length ys
length_placed before x [] = omega arith
length_placed before x (y ∷ ys) =
    cond_both (before x y) _ _ (λ l. length l ≤ 1 + length (y ∷ ys)) (λ _. omega arith) (λ _.
    cond_both (before y x) _ _ (λ l. length l ≤ 1 + length (y ∷ ys)) (λ _. (let rest = length_placed before x ys in omega arith)) (λ _. omega arith))

length_by_id : (js : List Particle) → length (by_id js) ≤ length js
length_by_id [] = omega arith
length_by_id (j ∷ js) =
    let here = length_placed (λ p q. nat_lt p.id q.id) j (by_id js) in
    let rest = length_by_id js in
    omega arith

-- what is the same at each element
map_on : {X Y : Type 0} (f g : X → Y) (xs : List X) → ((x : X) → Contains xs x → f x ≡ g x) → map f xs ≡ map g xs
map_on f g [] h = refl
map_on f g (x ∷ xs) h =
    λ i. h x (0, (omega arith), refl) i ∷ map_on f g xs (λ y c. h y (suc c.0, (let within : c.0 < length xs = c.1 in omega arith), c.2)) i

none_on : (f : Particle → Option Stop) (xs : List Particle) → ((x : Particle) → Contains xs x → f x ≡ None) → first_given f xs ≡ None
none_on f [] h = refl
none_on f (x ∷ xs) h =
    λ i. first_some (h x (0, (omega arith), refl) i) (none_on f xs (λ y c. h y (suc c.0, (let within : c.0 < length xs = c.1 in omega arith), c.2)) i)

rows_by : {X Y Z : Type 0} (f : Y → Z) (g : X → Y) (r : X → Z) (xs : List X) → ((x : X) → f (g x) ≡ r x) → map f (map g xs) ≡ map r xs
rows_by f g r [] h = refl
rows_by f g r (x ∷ xs) h = λ i. h x i ∷ rows_by f g r xs h i

not_above : (n m : ℕ) → m ≤ n → nat_lt n m ≡ false
not_above n m h = grind (arith, nat_tests, h)

pub thin_texts : LoneRanksBuildSo → ThinBuildsAreSo → PullsAddUp → OrdersByIdStay → OrdersByIdHaveDistinctIds → OrdersByIdKeepParticles → ThinTextsAreThinDumps
unfolding state body_row
thin_texts lone builds pulls stay differ keep u taker giver pull h =
    let js = by_id u.particles in
    let short = length_by_id u.particles in
    let few = h.few in
    let enough = h.one_group in
    let distinct = differ u.particles in
    let limits : All IsParticle js = λ k d within. All-contains IsParticle u.particles (get_or js k d) h.limits ((keep u.particles (get_or js k d) h.distinct).0 (Contains-get_or js k d within)) in
    let division : IsDivision u.grid = subst IsDivision (sym h.one_rank) (record { some_x = lit≤ tt; some_y = lit≤ tt; some_z = lit≤ tt; few = lit≤ tt }) in
    let one : rank_count u.grid ≡ 1 = ap rank_count h.one_rank in
    let criterion : IsCriterion u.theta = subst IsCriterion (sym h.no_cells) (record { numerator_fits = lit≤ tt; denominator_positive = lit≤ tt; denominator_fits = lit≤ tt }) in
    let alone = lone u js division one distinct in
    let build = builds u js division one criterion (ap (λ (t : Criterion). t.a) h.no_cells) distinct (stay u.particles) (omega arith) in
    let edge = ap (λ (t : Criterion). t.edge) h.no_cells in
    let lists : lists_fault u js ≡ None = ap (λ n. if nat_lt (2 ^ 24) n then Some (Lists n) else None) build.entries ∙ ap (λ b. if b then Some (Lists (length js)) else None) (not_above (2 ^ 24) (length js) (omega arith)) in
    let pulled_at : (i : Particle) → Contains js i → (force_row Open u.kernel (map One js) i ≡ pulled js i) × (force_fault Open u.kernel (map One js) i ≡ None) =
    λ i c. pulls u.kernel taker giver pull js i h.kernel h.names distinct limits (omega arith) c in
    let forces : first_given (forces_fault u js js) js ≡ None = none_on (forces_fault u js js) js (λ i c. ap (option_map (numeric i.id)) ((λ n. force_fault (edge n) u.kernel (build.lists i c n) i) ∙ (pulled_at i c).1)) in
    let start : fault_at_start u ≡ None = λ n. first_some (lists n) (forces n) in
    let here : state u 0 ≡ Some (state_at_start u) = ap (λ o. unless_stopped o (state_at_start u)) start in
    let bodies : with_forces u js js ≡ map (λ i. record { body = i; forces = pulled js i }) js =
    map_on (λ i. record { body = i; forces = force_row u.theta.edge u.kernel (list_for u js js i) i }) (λ i. record { body = i; forces = pulled js i }) js
    (λ i c n. record { body = i; forces = ((λ m. force_row (edge m) u.kernel (build.lists i c m) i) ∙ (pulled_at i c).0) n }) in
    let pulled_body : Particle → WithForces = λ i. record { body = i; forces = pulled js i } in
    let row : (i : Particle) → body_row u js (pulled_body i) ≡ thin_row js i = λ i n. record { id = i.id; owner = alone.owners (as_in js i).at n; at = i.at; vel = i.vel; forces = pulled js i } in
    let lines = ap (map (rank_counts u js)) alone.ranks ∙ ap (λ r. r ∷ []) build.counts in
    let rows = ap (map (body_row u js)) bodies ∙ rows_by (body_row u js) pulled_body (thin_row js) js row in
    ap (λ o. option_map_or (λ now. step_text (told u 0 now)) o []) here
    ∙ ap step_text (λ n. record { step = 0; ranks = lines n; rows = rows n })
