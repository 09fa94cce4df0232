-- Lists of a build, entry by entry, while their particles move.
use Rattle.std.proofs.Common.{◌≡◌, ℕ, zero, suc, ◌<◌, ◌≤◌, Bool, true, false, ◌||◌, List, [], ◌∷◌, length, get_or, Option, Some, None, refl, sym, ap, subst, ◌∙◌, lit≤, arith, nat_eq, eq-eqb}
use Rattle.std.specs.List.{All, Contains, IsDistinct, filter, list_any}
use Rattle.std.proofs.lemmas.Bool.{cond_both, or_left, or_right}
use Rattle.std.proofs.lemmas.List.{length-map, get_or-map}
use Rattle.std.proofs.lemmas.List.Elements.{All-map, Contains-get_or}
use Rattle.pf_geom.specs.Bounds.{Bounds}
use Rattle.pf_geom.specs.Octant.{Octant, cell_at}
use Rattle.pf_model.specs.declared.entry.Entry.{Entry}
use Rattle.pf_model.specs.Particle.{Particle}
use Rattle.pf_model.specs.Particles.{AreBodies, HaveDistinctIds}
use Rattle.pf_model.specs.Criterion.{Criterion}
use Rattle.pf_model.specs.Sums.{moment_of}
use Rattle.pf_model.specs.Interaction.{level_of, is_cell, is_cell_at, leads_to_cell, entry_at, list_of, members_of}
use Rattle.model_laws.specs.ListLaws.{ListsHoldTheirEntries}
use Rattle.pf_model.specs.Reuse.{present, present_entry, kept_list}
use Rattle.plain_run.specs.Lists.{HasMembers, HaveOneOrder, is_of_cell}

pub one_is_bodies : (p : Particle) → AreBodies (p ∷ [])
unfolding IsDistinct
one_is_bodies p = record { few = lit≤ tt; distinct = (tt, tt) }

or_none : (b : Bool) → (b || false) ≡ b
or_none true = refl
or_none false = refl

leads_by : (t : Criterion) (box : Bounds) (js : List Particle) (c : Octant) (j : Particle) (o : Option ℕ) → list_any (is_of_cell c) (entry_at t box js j o ∷ []) ≡ is_cell_at c j.at o
leads_by t box js c j None = refl
leads_by t box js c j (Some level) = or_none (is_cell c (cell_at j.at level))

-- a particle leads to a cell exactly where its list, of it alone, is this cell
pub leads_alone : (t : Criterion) (box : Bounds) (c : Octant) (j : Particle) → list_any (is_of_cell c) (list_of t box (j ∷ [])) ≡ leads_to_cell t box c j
unfolding list_of
leads_alone t box c j = leads_by t box (j ∷ []) c j (level_of t box j.at)

-- ---- every cell of a kept list has members

some_pass : {X : Type 0} (test : X → Bool) (xs : List X) (k : ℕ) (d : X) → k < length xs → test (get_or xs k d) ≡ true → 1 ≤ length (filter test xs)
some_pass test [] k d within e = absurd (omega arith)
some_pass test (x ∷ xs) zero d within e = rw e (omega arith)
some_pass test (x ∷ xs) (suc k) d within e =
    cond_both (test x) (x ∷ filter test xs) (filter test xs) (λ l. 1 ≤ length l) (λ _. omega arith) (λ _. some_pass test xs k d (omega arith) e)

any_kept : {X : Type 0} (has test : X → Bool) (xs : List X) (k : ℕ) (d : X) → k < length xs → test (get_or xs k d) ≡ true → has (get_or xs k d) ≡ true → list_any has (filter test xs) ≡ true
any_kept has test [] k d within e h = absurd (omega arith)
any_kept has test (x ∷ xs) zero d within e h = rw e (or_left (has x) (list_any has (filter test xs)) h)
any_kept has test (x ∷ xs) (suc k) d within e h =
    let later = any_kept has test xs k d (omega arith) e h in
    cond_both (test x) (x ∷ filter test xs) (filter test xs) (λ l. list_any has l ≡ true) (λ _. or_right (has x) (list_any has (filter test xs)) later) (λ _. later)

abbrev id_of : Particle → ℕ
id_of p = p.id

-- a particle that passed at the build is present
pub still_present : (test : Particle → Bool) (built now : List Particle) (j : Particle) → HaveOneOrder built now → Contains built j → test j ≡ true → 1 ≤ length (present now (filter test built))
still_present test built now j same inside passes =
    let k = inside.0 in
    let within : k < length built = inside.1 in
    let here : get_or built k j ≡ j = inside.2 in
    let long : length built ≡ length now = sym (length-map built id_of) ∙ ap length same ∙ length-map now id_of in
    let p = get_or now k j in
    let id : p.id ≡ j.id =
    sym (get_or-map id_of now k j 0 (omega arith)) ∙ ap (λ (l : List ℕ). get_or l k 0) (sym same) ∙ get_or-map id_of built k j 0 within ∙ ap id_of here in
    let has : Particle → Bool = λ i. nat_eq p.id i.id in
    some_pass (λ (q : Particle). list_any (λ i. nat_eq q.id i.id) (filter test built)) now k j (omega arith)
    (any_kept has test built k j within (ap test here ∙ passes) (eq-eqb p.id (get_or built k j).id (id ∙ sym (ap id_of here))))

same_cell : (c : Octant) → is_cell c c ≡ true
same_cell c = rw (eq-eqb c.level c.level refl, eq-eqb c.key c.key refl) refl

entry_has_members : (t : Criterion) (box : Bounds) (built now : List Particle) (j : Particle) → HaveOneOrder built now → Contains built j → (o : Option ℕ) → level_of t box j.at ≡ o
    → HasMembers (present_entry now (members_of t box built (entry_at t box built j o)) (entry_at t box built j o))
unfolding moment_of
entry_has_members t box built now j same inside None is = tt
entry_has_members t box built now j same inside (Some level) is =
    let c = cell_at j.at level in
    still_present (leads_to_cell t box c) built now j same inside (ap (is_cell_at c j.at) is ∙ same_cell c)

all_from_contains : {X : Type 0} (P : X → Type 0) (xs : List X) → ((x : X) → Contains xs x → P x) → All P xs
all_from_contains P xs h k d within = h (get_or xs k d) (Contains-get_or xs k d within)

pub kept_have_members : ListsHoldTheirEntries → (t : Criterion) (box : Bounds) (built now : List Particle) → HaveDistinctIds built → HaveOneOrder built now → All HasMembers (kept_list t box built now)
unfolding kept_list
kept_have_members law t box built now distinct same =
    let here : Entry → Entry = λ e. present_entry now (members_of t box built e) e in
    let is = (law t box built (list_of t box built) distinct).1 refl in
    All-map HasMembers here (list_of t box built)
    (all_from_contains (λ e. HasMembers (here e)) (list_of t box built)
    (λ e h. let from = is.sound e h in
    subst (λ (f : Entry). HasMembers (here f)) (sym from.2) (entry_has_members t box built now from.0 same from.1 (level_of t box from.0.at) refl)))
