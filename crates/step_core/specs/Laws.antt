-- Laws of the core, over every list of events.
use Rattle.std.specs.Prelude.{◌≡◌, ℕ, ◌+◌, ◌-◌, ◌*◌, ◌<◌, ◌≤◌, true, false, List, ◌++◌, length, All, count_by, nat_eq}
use Rattle.std.specs.Prelude.{slice_get}
use Rattle.std.specs.Prelude.{Some}
use Rattle.pf_model.specs.Division.{IsDivision}
use Rattle.step_core.specs.declared.event.Event.{Event}
use Rattle.step_core.specs.Core.{Settings, IsSettings, CoreState, start, ranks_of, numbered_groups, held_by, is_legal}
use Rattle.step_core.specs.Core.{are_legal}
use Rattle.step_core.specs.Core.{after_all, partial_lists, whole_lists}

-- the settings of a core, with a list of events that is legal in it, and the state that they leave
pub record IsLegalRun (s : Settings) (events : List Event) (state : CoreState) : Type 0 where
  pub division : IsDivision s.grid
  pub settings : IsSettings s
  pub legal : are_legal s (start s) events ≡ true
  pub leaves : state ≡ after_all (start s) events

-- no event is legal any more
abbrev pub IsAtEnd : Settings → CoreState → Type 0
IsAtEnd s state = (event : Event) → is_legal s state event ≡ false

-- each number below the count is in the list once, and no other number is
pub record HasEachNumberOnce (count : ℕ) (numbers : List ℕ) : Type 0 where
  pub once : (n : ℕ) → n < count → count_by (nat_eq n) numbers ≡ 1
  pub no_other : All (λ n. n < count) numbers

-- a legal list of events goes on by events that are legal one after another from the state that it leaves
abbrev pub RunsGoOn : Type 0
RunsGoOn =
    (s : Settings) (events more : List Event) (state : CoreState) → IsLegalRun s events state →
    are_legal s state more ≡ true → IsLegalRun s (events ++ more) (after_all state more)

-- while a worker holds a group, as at each Finish, the group's partial list is its list over all particles
abbrev pub HeldGroupsHaveTheirLists : Type 0
HeldGroupsHaveTheirLists =
    (s : Settings) (events : List Event) (state : CoreState) (worker group : ℕ) → IsLegalRun s events state →
    held_by state worker ≡ Some group →
    (group < length (numbered_groups s)) × (slice_get (partial_lists s state) group ≡ slice_get (whole_lists s) group)

-- where no event is legal any more, every group is finished, once
abbrev pub EndsFinishEachGroupOnce : Type 0
EndsFinishEachGroupOnce =
    (s : Settings) (events : List Event) (state : CoreState) → IsLegalRun s events state → IsAtEnd s state →
    HasEachNumberOnce (length (numbered_groups s)) state.finished

-- a legal list has at most two events for each pair of different ranks, and two for each group
abbrev pub RunsAreShort : Type 0
RunsAreShort =
    (s : Settings) (events : List Event) (state : CoreState) → IsLegalRun s events state →
    length events ≤ 2 * (ranks_of s * (ranks_of s - 1)) + 2 * length (numbered_groups s)

-- where no event is legal any more, the partial lists are the lists over all particles
abbrev pub EndsHaveWholeLists : Type 0
EndsHaveWholeLists =
    (s : Settings) (events : List Event) (state : CoreState) → IsLegalRun s events state → IsAtEnd s state →
    partial_lists s state ≡ whole_lists s

-- so any two legal lists that can't go on end with the same lists
abbrev pub EndsAreAlike : Type 0
EndsAreAlike =
    (s : Settings) (events others : List Event) (state other : CoreState) → IsLegalRun s events state →
    IsLegalRun s others other → IsAtEnd s state → IsAtEnd s other → partial_lists s state ≡ partial_lists s other
