-- What holds where a group's rank has every arrival, and where no event is legal any more.
use Rattle.std.proofs.Common.{◌≡◌, ℕ, zero, suc, ◌+◌, ◌-◌, ◌*◌, ◌<◌, ◌≤◌, Bool, true, false, cond, not, ◌&&◌, ◌||◌, List, [], ◌∷◌, ◌++◌, length, get_or, Option, Some, None, inl, inr, refl, sym, ◌∙◌, ap, subst, arith}
use Rattle.std.specs.Prelude.{nat_eq, nat_lt, is_some, is_none, slice_get, option_map}
use Rattle.std.specs.List.{list_any, count_by, sum_by, range_with_len, Contains, All}
use Rattle.std.proofs.lemmas.Bool.{cases_Bool, cases_lt, ltb-false, lt-ltb, le-ltb, eq-eqb, eqb-true, not_from_false, not-false, both_ways, or_left, or_right, or_cases, false≢true}
use Rattle.std.proofs.lemmas.List.{append-nil, length-append, length-map, get_or_past, nil_from_length, same_lists}
use Rattle.std.proofs.lemmas.List.Elements.{All-map}
use Rattle.std.proofs.lemmas.List.FromFn.{length-range_with_len, get_or-range_with_len}
use Rattle.std.proofs.lemmas.List.Sums.{sum_by-cons, get_or-le-sum_by, AllPass-from_list_all, list_all-from_AllPass}
use Rattle.std.proofs.lemmas.Map.Views.{Contains-from_any}
use Rattle.std.proofs.lemmas.Option.{slice_get-map, slice_get-get_or, same_Some}
use Rattle.pf_model.specs.declared.entry.Entry.{Entry}
use Rattle.pf_model.specs.Division.{IsDivision}
use Rattle.model_laws.specs.DomainLaws.{AllRanksHaveAll}
use Rattle.pf_model.specs.Interaction.{list_of}
use Rattle.pf_model.specs.Group.{box_of, group_cells, particles_in}
use Rattle.pf_model.specs.Domains.{particles_of}
use Rattle.pf_model.specs.Groups.{RankGroup, all_groups, groups_of_rank, group_list, limited_group_list}
use Rattle.step_core.specs.declared.event.Event.{Event}
use Rattle.step_core.specs.declared.event.Event.TheVariants.{Put, Take, Claim, Finish}
use Rattle.step_core.specs.Core.{Settings, CoreState, start, ranks_of, numbered_groups, inbox_of, arrivals_of, held_by, is_put, has_every_arrival, is_ready, is_legal, partial_lists, whole_lists}
use Rattle.step_core.specs.Laws.{IsLegalRun, IsAtEnd, HasEachNumberOnce, HeldGroupsHaveTheirLists, EndsFinishEachGroupOnce, RunsAreShort, EndsHaveWholeLists, EndsAreAlike}
use Rattle.step_core.proofs.RangeLemmas.{All-flat_map-range}
use Rattle.step_core.proofs.ReachedLemmas.{counts, counts_not, IsPassed, IsReached, holds, sources_in, same_either_way, below_more, start_reached, reached_all}

-- a legal list of events leaves a state that keeps all this
pub run_reached : (s : Settings) (events : List Event) (state : CoreState) → IsLegalRun s events state → IsReached s state (length events)
run_reached s events state r =
    let P : CoreState → Type 0 = λ v. IsReached s v (0 + length events) in
    let Q : ℕ → Type 0 = IsReached s state in
    let e : 0 + length events ≡ length events = omega arith in
    subst Q e (subst P (sym r.leaves) (reached_all s (start s) 0 events (start_reached s) r.legal))

-- ---- a group whose rank has every arrival

every_rank_is_there : (n rank : ℕ) (state : CoreState) → has_every_arrival state n rank ≡ true → (other : ℕ) → other < n → Contains (rank ∷ arrivals_of state rank) other
every_rank_is_there n rank state h other below =
    let test : ℕ → Bool = λ x. nat_eq x rank || list_any (nat_eq x) (arrivals_of state rank) in
    let within : other < length (range_with_len 0 n) = (let long = length-range_with_len 0 n in omega arith) in
    let at : get_or (range_with_len 0 n) other 0 ≡ other = (let e = get_or-range_with_len 0 n other 0 below in omega arith) in
    let passes : test other ≡ true = ap test (sym at) ∙ AllPass-from_list_all test (range_with_len 0 n) h other 0 within in
    elim (or_cases (nat_eq other rank) (list_any (nat_eq other) (arrivals_of state rank)) passes) [
      | inl same ↦ (0, omega arith, sym (eqb-true other rank same))
      | inr found ↦
          let c = Contains-from_any {eq = nat_eq} (λ x y e. eqb-true x y e) other (arrivals_of state rank) found in
          let less = c.1 in
          (suc c.0, omega arith, c.2)
    ]

ready_list : AllRanksHaveAll → (s : Settings) (state : CoreState) (group : RankGroup) → IsDivision s.grid → has_every_arrival state (ranks_of s) group.rank ≡ true → limited_group_list s.theta s.grid s.bodies group (group.rank ∷ arrivals_of state group.rank) ≡ group_list s.theta s.bodies group
ready_list law s state group division h =
    ap (list_of s.theta (box_of group.members)) (law s.grid s.bodies (group.rank ∷ arrivals_of state group.rank) division (every_rank_is_there (ranks_of s) group.rank state h))

ready_at : AllRanksHaveAll → (s : Settings) (state : CoreState) (group : Option RankGroup) → IsDivision s.grid → is_ready s state group ≡ true
    → option_map (λ group. limited_group_list s.theta s.grid s.bodies group (group.rank ∷ arrivals_of state group.rank)) group ≡ option_map (group_list s.theta s.bodies) group
ready_at law s state None division h = refl
ready_at law s state (Some group) division h = ap (λ (es : List Entry). Some es) (ready_list law s state group division h)

-- so its partial list is its list
pub ready_is_whole : AllRanksHaveAll → (s : Settings) (state : CoreState) (k : ℕ) → IsDivision s.grid → is_ready s state (slice_get (numbered_groups s) k) ≡ true → slice_get (partial_lists s state) k ≡ slice_get (whole_lists s) k
ready_is_whole law s state k division h =
    slice_get-map (λ (group : RankGroup). limited_group_list s.theta s.grid s.bodies group (group.rank ∷ arrivals_of state group.rank)) (numbered_groups s) k
    ∙ ready_at law s state (slice_get (numbered_groups s) k) division h
    ∙ sym (slice_get-map (group_list s.theta s.bodies) (numbered_groups s) k)

-- a group that is finished or held was claimed
claimed_from_count : (s : Settings) (state : CoreState) (n k : ℕ) → IsReached s state n → 1 ≤ count_by (nat_eq k) state.finished + count_by (holds k) state.held → k < state.claims
claimed_from_count s state n k h some =
    elim (cases_lt k state.claims) [
      | inl less ↦ less
      | inr more ↦ absurd
          (let none = counts_not (nat_lt k state.claims) (le-ltb k state.claims more) in
          let once = h.shared.once k in
          omega arith)
    ]

-- so finished groups are groups
pub finished_are_groups : (s : Settings) (events : List Event) (state : CoreState) → IsLegalRun s events state → All (λ group. group < length (numbered_groups s)) state.finished
finished_are_groups s events state r i d within =
    let h = run_reached s events state r in
    let k = get_or state.finished i d in
    let f : ℕ → ℕ = λ z. cond (nat_eq k z) 1 0 in
    let one = counts (nat_eq k k) (eq-eqb k k refl) in
    let some_there = get_or-le-sum_by f state.finished i d within in
    let before = claimed_from_count s state (length events) k h (omega arith) in
    let claimed = h.claimed in
    omega arith

held_was_claimed : (s : Settings) (state : CoreState) (n worker k : ℕ) → IsReached s state n → held_by state worker ≡ Some k → k < state.claims
held_was_claimed s state n worker k h holding =
    let f : Option ℕ → ℕ = λ o. cond (holds k o) 1 0 in
    let within : worker < length state.held = elim (cases_lt worker (length state.held)) [
      | inl inside ↦ inside
      | inr past ↦ absurd (let none = get_or_past state.held worker None past in cc)
    ] in
    let one : f (held_by state worker) ≡ 1 = ap f holding ∙ counts (nat_eq k k) (eq-eqb k k refl) in
    let some = get_or-le-sum_by f state.held worker None within in
    claimed_from_count s state n k h (omega arith)

pub held_groups_have_their_lists : AllRanksHaveAll → HeldGroupsHaveTheirLists
held_groups_have_their_lists law s events state worker k r holding =
    let h = run_reached s events state r in
    let before = held_was_claimed s state (length events) worker k h holding in
    let claimed = h.claimed in
    (omega arith, ready_is_whole law s state k r.division (h.ready k before))

-- ---- where no event is legal any more

none_from_some : (o : Option ℕ) → is_some o ≡ false → o ≡ None
none_from_some None e = refl
none_from_some (Some x) e = absurd (false≢true (sym e))

ranks_below : (s : Settings) → All (λ group. group.rank < ranks_of s) (numbered_groups s)
unfolding all_groups
ranks_below s =
    let P : RankGroup → Type 0 = λ group. group.rank < ranks_of s in
    All-flat_map-range P (groups_of_rank s.limit s.grid s.bodies) 0 (ranks_of s)
    (λ rank less. All-map P (λ c. record { rank = rank; members = particles_in c (particles_of s.grid s.bodies rank) }) (group_cells s.limit (particles_of s.grid s.bodies rank))
    (λ i d within. omega arith))

no_group_held : (k : ℕ) (held : List (Option ℕ)) → ((worker : ℕ) → get_or held worker None ≡ None) → count_by (holds k) held ≡ 0
no_group_held k [] free = refl
no_group_held k (o ∷ os) free =
    let f : Option ℕ → ℕ = λ o. cond (holds k o) 1 0 in
    let more = sum_by-cons f o os in
    let here : f o ≡ 0 = ap f (free 0) in
    let rest = no_group_held k os (λ worker. free (suc worker)) in
    omega arith

module _ (s : Settings) (state : CoreState) (n : ℕ) (h : IsReached s state n) (end : IsAtEnd s state) (some : 1 ≤ s.workers) where
  inbox_empty : (rank : ℕ) → inbox_of state rank ≡ []
  inbox_empty rank =
      let short = ltb-false 0 (length (inbox_of state rank)) (end (Take rank)) in
      nil_from_length (inbox_of state rank) (omega arith)

  pub none_held : (worker : ℕ) → held_by state worker ≡ None
  none_held worker = none_from_some (held_by state worker) (end (Finish worker))

  each_put : (src dst : ℕ) → src < ranks_of s → dst < ranks_of s → nat_eq src dst ≡ false → is_put state src dst ≡ true
  each_put src dst a b apart =
      let src_below = lt-ltb src (ranks_of s) a in
      let dst_below = lt-ltb dst (ranks_of s) b in
      let differ = not_from_false (nat_eq src dst) apart in
      not-false (is_put state src dst)
      (sym (λ i. src_below i && dst_below i && differ i && not (is_put state src dst)) ∙ end (Put src dst))

  arrived : (src dst : ℕ) → src < ranks_of s → dst < ranks_of s → nat_eq src dst ≡ false → list_any (nat_eq src) (arrivals_of state dst) ≡ true
  arrived src dst a b apart =
      let sources : sources_in state.arrivals state.inboxes dst ≡ arrivals_of state dst = ap (λ l. arrivals_of state dst ++ l) (inbox_empty dst) ∙ append-nil (arrivals_of state dst) in
      sym (ap (list_any (nat_eq src)) sources) ∙ sym (h.passed.lies src dst b) ∙ each_put src dst a b apart

  every_arrival : (rank : ℕ) → rank < ranks_of s → has_every_arrival state (ranks_of s) rank ≡ true
  every_arrival rank below =
      let test : ℕ → Bool = λ x. nat_eq x rank || list_any (nat_eq x) (arrivals_of state rank) in
      let range = range_with_len 0 (ranks_of s) in
      list_all-from_AllPass test range
      (λ i d within.
      let less : i < ranks_of s = (let long = length-range_with_len 0 (ranks_of s) in omega arith) in
      let at : get_or range i d ≡ i = (let e = get_or-range_with_len 0 (ranks_of s) i d less in omega arith) in
      let passes : test i ≡ true =
      elim (cases_Bool (nat_eq i rank)) [
        | inl same ↦ or_left (nat_eq i rank) (list_any (nat_eq i) (arrivals_of state rank)) same
        | inr other ↦ or_right (nat_eq i rank) (list_any (nat_eq i) (arrivals_of state rank)) (arrived i rank less below other)
      ] in
      ap test at ∙ passes)

  next_ready : state.claims < length (numbered_groups s) → is_ready s state (slice_get (numbered_groups s) state.claims) ≡ true
  next_ready left =
      let groups = numbered_groups s in
      let none : RankGroup = record { rank = 0; members = [] } in
      let group = get_or groups state.claims none in
      let below : group.rank < ranks_of s = ranks_below s state.claims none left in
      ap (is_ready s state) (slice_get-get_or groups state.claims none left) ∙ every_arrival group.rank below

  pub all_claimed : state.claims ≡ length (numbered_groups s)
  all_claimed =
      let claimed = h.claimed in
      elim (cases_lt state.claims (length (numbered_groups s))) [
        | inr done ↦ omega arith
        | inl left ↦ absurd
            (let worker = lt-ltb 0 s.workers (omega arith) in
            let free = ap (is_none {T = ℕ}) (none_held 0) in
            let ready = next_ready left in
            both_ways (is_legal s state (Claim 0)) (end (Claim 0)) (λ i. worker i && free i && ready i))
      ]

  pub finished_once : All (λ group. group < length (numbered_groups s)) state.finished → HasEachNumberOnce (length (numbered_groups s)) state.finished
  finished_once groups = record {
    once = λ k less.
        let all = all_claimed in
        let once = h.shared.once k in
        let below = counts (nat_lt k state.claims) (lt-ltb k state.claims (omega arith)) in
        let none = no_group_held k state.held none_held in
        omega arith;
    no_other = groups;
  }

  pub lists_whole : AllRanksHaveAll → IsDivision s.grid → partial_lists s state ≡ whole_lists s
  lists_whole law division =
      let partial_count = length-map (numbered_groups s) (λ (group : RankGroup). limited_group_list s.theta s.grid s.bodies group (group.rank ∷ arrivals_of state group.rank)) in
      let whole_count = length-map (numbered_groups s) (group_list s.theta s.bodies) in
      same_lists (partial_lists s state) (whole_lists s) (omega arith)
      (λ k d within.
      let all = all_claimed in
      let same = ready_is_whole law s state k division (h.ready k (omega arith)) in
      same_Some _ _ (sym (slice_get-get_or (partial_lists s state) k d within) ∙ same ∙ slice_get-get_or (whole_lists s) k d (omega arith)))

pub ends_finish_each_group_once : EndsFinishEachGroupOnce
ends_finish_each_group_once s events state r end =
    finished_once s state (length events) (run_reached s events state r) end r.settings.some_workers (finished_are_groups s events state r)

pub ends_have_whole_lists : AllRanksHaveAll → EndsHaveWholeLists
ends_have_whole_lists law s events state r end =
    lists_whole s state (length events) (run_reached s events state r) end r.settings.some_workers law r.division

pub ends_are_alike : EndsHaveWholeLists → EndsAreAlike
ends_are_alike law s events others state other r q end end' = law s events state r end ∙ sym (law s others other q end')

-- ---- how many events there are

-- of distinct numbers, at most n are below n
count_below_more : (n : ℕ) (xs : List ℕ) → count_by (λ x. nat_lt x (n + 1)) xs ≡ count_by (λ x. nat_lt x n) xs + count_by (nat_eq n) xs
count_below_more n [] = refl
count_below_more n (x ∷ xs) =
    let a = sum_by-cons (λ z. cond (nat_lt z (n + 1)) 1 0) x xs in
    let b = sum_by-cons (λ z. cond (nat_lt z n) 1 0) x xs in
    let c = sum_by-cons (λ z. cond (nat_eq n z) 1 0) x xs in
    let here = below_more x n in
    let turned : cond {A = ℕ} (nat_eq x n) 1 0 ≡ cond (nat_eq n x) 1 0 = ap (λ t. cond {A = ℕ} t 1 0) (same_either_way x n) in
    let rest = count_below_more n xs in
    omega arith

none_below_zero : (xs : List ℕ) → count_by (λ x. nat_lt x 0) xs ≡ 0
none_below_zero [] = refl
none_below_zero (x ∷ xs) =
    let a = sum_by-cons (λ z. cond (nat_lt z 0) 1 0) x xs in
    let here = counts_not (nat_lt x 0) (le-ltb x 0 (omega arith)) in
    let rest = none_below_zero xs in
    omega arith

few_below : (n : ℕ) (xs : List ℕ) → ((x : ℕ) → count_by (nat_eq x) xs ≤ 1) → count_by (λ x. nat_lt x n) xs ≤ n
few_below zero xs once = (let none = none_below_zero xs in omega arith)
few_below (suc n) xs once =
    let one_more : n + 1 ≡ suc n = omega arith in
    let more = sym (ap (λ k. count_by (λ x. nat_lt x k) xs) one_more) ∙ count_below_more n xs in
    let rest = few_below n xs once in
    let one = once n in
    omega arith

both_sums : (m : ℕ) (xs ys : List (List ℕ)) → length xs ≡ length ys → ((d : ℕ) → d < length xs → length (get_or xs d []) + length (get_or ys d []) ≤ m) → sum_by length xs + sum_by length ys ≤ length xs * m
both_sums m [] [] same each = omega arith
both_sums m [] (y ∷ ys) same each = absurd (omega arith)
both_sums m (x ∷ xs) [] same each = absurd (omega arith)
both_sums m (x ∷ xs) (y ∷ ys) same each =
    let a = sum_by-cons (length {A = ℕ}) x xs in
    let b = sum_by-cons (length {A = ℕ}) y ys in
    let here = each 0 (omega arith) in
    let rest = both_sums m xs ys (omega arith) (λ d less. each (suc d) (omega arith)) in
    omega arith

few_sources : (n : ℕ) (put : List (ℕ × ℕ)) (inboxes arrivals : List (List ℕ)) (d : ℕ) → IsPassed n put inboxes arrivals → d < n → length (get_or inboxes d []) + length (get_or arrivals d []) ≤ n - 1
few_sources n put inboxes arrivals d h below =
    let sources = sources_in arrivals inboxes d in
    let first = sum_by-cons (λ z. cond (nat_lt z n) 1 0) d sources in
    let itself = counts (nat_lt d n) (lt-ltb d n below) in
    let all = h.ranks d in
    let few = few_below n (d ∷ sources) (λ x. h.once x d) in
    let long = length-append (get_or arrivals d []) (get_or inboxes d []) in
    omega arith

pub runs_are_short : RunsAreShort
runs_are_short s events state r =
    let h = run_reached s events state r in
    let n = ranks_of s in
    let inboxes_long = h.passed.inboxes_long in
    let arrivals_long = h.passed.arrivals_long in
    let each : (d : ℕ) → d < length state.inboxes → length (get_or state.inboxes d []) + length (get_or state.arrivals d []) ≤ n - 1 =
    λ d less. few_sources n state.put state.inboxes state.arrivals d h.passed (omega arith) in
    let bound = both_sums (n - 1) state.inboxes state.arrivals (omega arith) each in
    let pairs : length state.inboxes * (n - 1) ≡ n * (n - 1) = ap (λ k. k * (n - 1)) inboxes_long in
    let claimed = h.claimed in
    let done = h.shared.done in
    let counted = h.counted in
    omega arith
