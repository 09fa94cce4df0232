-- What a core keeps, event by event.
use Rattle.std.proofs.Common.{◌≡◌, ℕ, ◌+◌, ◌^◌, ◌<◌, Bool, true, false, ◌&&◌, List, [], ◌∷◌, ◌++◌, length, Result, Ok, Err, inl, inr, refl, sym, ◌∙◌, ap, subst, arith}
use Rattle.std.specs.Prelude.{OnOk, OnErr, nat_lt, is_none}
use Rattle.std.specs.List.{All}
use Rattle.std.proofs.lemmas.Bool.{cases_lt, and_from, and_parts, ltb-true}
use Rattle.std.proofs.lemmas.List.{get_or_past}
use Rattle.pf_model.specs.declared.entry.Entry.{Entry}
use Rattle.pf_model.specs.Division.{IsDivision}
use Rattle.model_laws.specs.GroupLaws.{GroupsAreFew}
use Rattle.step_core.specs.declared.event.Event.{Event}
use Rattle.step_core.specs.declared.event.Event.TheVariants.{Put, Take, Claim}
use Rattle.step_core.specs.Core.{Settings, IsSettings, CoreState, start, ranks_of, numbered_groups, inbox_of, held_by, is_ready, next_group, is_legal, after, are_legal, after_all, partial_lists}
use Rattle.step_core.specs.Laws.{IsLegalRun, RunsGoOn}
use Rattle.step_core.specs.Plain.{IsKeptCore}
use Rattle.step_core.proofs.GroupingLemmas.{few_groups}
use Rattle.step_core.proofs.ReachedLemmas.{IsReached, some_group}
use Rattle.step_core.proofs.EndLemmas.{run_reached, finished_are_groups}

-- ---- events, and more events

and_assoc : (a b c : Bool) → (a && (b && c)) ≡ ((a && b) && c)
and_assoc true b c = refl
and_assoc false b c = refl

are_legal-append : (s : Settings) (state : CoreState) (events more : List Event) → are_legal s state (events ++ more) ≡ (are_legal s state events && are_legal s (after_all state events) more)
are_legal-append s state [] more = refl
are_legal-append s state (first ∷ events) more =
    ap (λ b. is_legal s state first && b) (are_legal-append s (after state first) events more)
    ∙ and_assoc (is_legal s state first) (are_legal s (after state first) events) (are_legal s (after_all (after state first) events) more)

after_all-append : (state : CoreState) (events more : List Event) → after_all state (events ++ more) ≡ after_all (after_all state events) more
after_all-append state [] more = refl
after_all-append state (first ∷ events) more = after_all-append (after state first) events more

pub runs_go_on : RunsGoOn
runs_go_on s events more state r legal = record {
  division = r.division;
  settings = r.settings;
  legal =
      are_legal-append s (start s) events more
      ∙ and_from (are_legal s (start s) events) (are_legal s (after_all (start s) events) more) r.legal (ap (λ (v : CoreState). are_legal s v more) (sym r.leaves) ∙ legal);
  leaves = ap (λ (v : CoreState). after_all v more) r.leaves ∙ sym (after_all-append (start s) events more);
}

run_more : (s : Settings) (events : List Event) (state : CoreState) (event : Event) → IsLegalRun s events state → is_legal s state event ≡ true → IsLegalRun s (events ++ event ∷ []) (after state event)
run_more s events state event r legal = runs_go_on s events (event ∷ []) state r (and_from (is_legal s state event) true legal refl)

pub kept_at_start : (s : Settings) (lists : List (List Entry)) → IsDivision s.grid → IsSettings s → lists ≡ partial_lists s (start s) → IsKeptCore s (start s) lists
kept_at_start s lists division settings are = record {
  past = ([], record { division = division; settings = settings; legal = refl; leaves = refl });
  lists = are;
}

pub kept_more : (s : Settings) (state : CoreState) (event : Event) (lists new : List (List Entry)) → IsKeptCore s state lists → is_legal s state event ≡ true → new ≡ partial_lists s (after state event) → IsKeptCore s (after state event) new
kept_more s state event lists new h legal are = record {
  past = (h.past.0 ++ event ∷ [], run_more s h.past.0 state event h.past.1 legal);
  lists = are;
}

-- so a core's state keeps all that a legal list of events leaves
pub kept_reached : (s : Settings) (state : CoreState) (lists : List (List Entry)) (h : IsKeptCore s state lists) → IsReached s state (length h.past.0)
kept_reached s state lists h = run_reached s h.past.0 state h.past.1

pub kept_finished : (s : Settings) (state : CoreState) (lists : List (List Entry)) → IsKeptCore s state lists → All (λ group. group < length (numbered_groups s)) state.finished
kept_finished s state lists h = finished_are_groups s h.past.0 state h.past.1

-- ---- what a legal event may rely on

put_parts : (s : Settings) (state : CoreState) (src dst : ℕ) → is_legal s state (Put src dst) ≡ true → dst < ranks_of s
put_parts s state src dst legal = ltb-true dst (ranks_of s) (and_parts _ _ (and_parts _ _ (and_parts _ _ legal).0).0).1

pub put_within : (s : Settings) (state : CoreState) (lists : List (List Entry)) (src dst : ℕ) → IsKeptCore s state lists → is_legal s state (Put src dst) ≡ true → dst < length state.inboxes
put_within s state lists src dst h legal =
    let below = put_parts s state src dst legal in
    let long = (kept_reached s state lists h).passed.inboxes_long in
    omega arith

pub take_within : (s : Settings) (state : CoreState) (lists : List (List Entry)) (rank : ℕ) → IsKeptCore s state lists → is_legal s state (Take rank) ≡ true → rank < length state.arrivals
take_within s state lists rank h legal =
    let some = ltb-true 0 (length (inbox_of state rank)) legal in
    let passed = (kept_reached s state lists h).passed in
    let inboxes = passed.inboxes_long in
    let arrivals = passed.arrivals_long in
    elim (cases_lt rank (length state.arrivals)) [
      | inl within ↦ within
      | inr past ↦ absurd (let none = ap (length {A = ℕ}) (get_or_past state.inboxes rank [] (omega arith)) in omega arith)
    ]

pub claim_within : (s : Settings) (state : CoreState) (lists : List (List Entry)) (worker : ℕ) → IsKeptCore s state lists → is_legal s state (Claim worker) ≡ true → worker < length state.held
claim_within s state lists worker h legal =
    let below = ltb-true worker s.workers (and_parts _ _ (and_parts _ _ legal).0).0 in
    let long = (kept_reached s state lists h).shared.long in
    omega arith

pub claim_few : GroupsAreFew → (s : Settings) (state : CoreState) (lists : List (List Entry)) (worker : ℕ) → IsKeptCore s state lists → is_legal s state (Claim worker) ≡ true → state.claims + 1 < 2 ^ 32
claim_few law s state lists worker h legal =
    let ready = and_parts (nat_lt worker s.workers && is_none (held_by state worker)) (is_ready s state (next_group s state)) legal in
    let left : state.claims < length (numbered_groups s) = some_group s state state.claims ready.1 in
    let few = few_groups law s h.past.1.division h.past.1.settings in
    omega arith

-- ---- an event that may be refused

pub kept_either : {T E : Type 0} (r : Result T E) (s : Settings) (state new : CoreState) (event : Event) (lists : List (List Entry))
    → OnOk r (new ≡ after state event) → OnErr r (new ≡ state) → IsKeptCore s state lists → is_legal s state event ≡ true → lists ≡ partial_lists s (after state event) → IsKeptCore s new lists
kept_either (Ok x) s state new event lists ok err h legal are = (let P : CoreState → Type 0 = λ v. IsKeptCore s v lists in subst P (sym ok) (kept_more s state event lists lists h legal are))
kept_either (Err e) s state new event lists ok err h legal are = (let P : CoreState → Type 0 = λ v. IsKeptCore s v lists in subst P (sym err) h)
