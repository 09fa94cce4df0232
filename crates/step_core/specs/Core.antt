-- The core: what essential trees, groups and workers may do at a build, one event after another.
use Rattle.std.specs.Prelude.{ℕ, ◌+◌, ◌≤◌, Bool, true, false, not, ◌&&◌, ◌||◌, List, [], ◌∷◌, ◌++◌, map, drop, take}
use Rattle.std.specs.Prelude.{replicate, nat_eq, nat_lt, slice_set, slice_index_or, length, Option, Some, None}
use Rattle.std.specs.Prelude.{is_some}
use Rattle.std.specs.Prelude.{is_none, option_to_list}
use Rattle.std.specs.List.{range_with_len, list_any, list_all}
use Rattle.pf_model.specs.declared.entry.Entry.{Entry}
use Rattle.pf_model.specs.declared.limits.TheConstants.{MOST_GROUP}
use Rattle.pf_model.specs.Particle.{Particle}
use Rattle.pf_model.specs.Particles.{AreBodies}
use Rattle.pf_model.specs.Criterion.{Criterion}
use Rattle.pf_model.specs.Division.{Division, rank_count}
use Rattle.pf_model.specs.Groups.{RankGroup, all_groups, group_numbered, group_list, limited_group_list}
use Rattle.step_core.specs.declared.event.Event.{Event}
use Rattle.step_core.specs.declared.event.Event.TheVariants.{Put, Take, Claim, Finish}
use Rattle.step_core.specs.declared.setup.TheConstants.{MOST_WORKERS}

-- a setup as clauses see it: the particles at the build, how the cube is divided among ranks, the criterion of the
-- opening test, the group limit, and how many workers there are
pub record Settings : Type 0 where
  pub bodies : List Particle
  pub grid : Division
  pub theta : Criterion
  pub limit : ℕ
  pub workers : ℕ

-- the settings that a core can be opened on
pub record IsSettings (s : Settings) : Type 0 where
  pub bodies : AreBodies s.bodies
  pub some_limit : 1 ≤ s.limit
  pub most_limit : s.limit ≤ MOST_GROUP
  pub some_workers : 1 ≤ s.workers
  pub most_workers : s.workers ≤ MOST_WORKERS

-- a state: of each rank the sources in its inbox and the list of its arrivals; the pairs put so far, each a source
-- and its destination; the number of claims; the group that each worker holds; the finished groups
pub record CoreState : Type 0 where
  pub inboxes : List (List ℕ)
  pub arrivals : List (List ℕ)
  pub put : List (ℕ × ℕ)
  pub claims : ℕ
  pub held : List (Option ℕ)
  pub finished : List ℕ

-- a core as clauses see it
pub record StandingCore : Type 0 where
  pub settings : Settings
  pub state : CoreState

-- the number of ranks
abbrev pub ranks_of : Settings → ℕ
ranks_of s = rank_count s.grid

-- the state of so many ranks and workers before any event: nothing is put, claimed or finished
abbrev pub started : ℕ → ℕ → CoreState
started ranks workers = record {
  inboxes = replicate ranks [];
  arrivals = replicate ranks [];
  put = [];
  claims = 0;
  held = replicate workers None;
  finished = [];
}

abbrev pub start : Settings → CoreState
start s = started (ranks_of s) s.workers

-- the sources in the inbox of a rank, in the order in which they were put
abbrev pub inbox_of : CoreState → ℕ → List ℕ
inbox_of state rank = slice_index_or state.inboxes rank []

-- the sources that a rank has taken, in order
abbrev pub arrivals_of : CoreState → ℕ → List ℕ
arrivals_of state rank = slice_index_or state.arrivals rank []

-- the group that a worker holds, if it holds one
abbrev pub held_by : CoreState → ℕ → Option ℕ
held_by state worker = slice_index_or state.held worker None

-- whether the source was put for the destination
abbrev pub is_put : CoreState → ℕ → ℕ → Bool
is_put state src dst = list_any (λ pair. nat_eq pair.0 src && nat_eq pair.1 dst) state.put

-- whether every other one of so many ranks is among the arrivals of a rank
abbrev pub has_every_arrival : CoreState → ℕ → ℕ → Bool
has_every_arrival state ranks rank =
    list_all (λ other. nat_eq other rank || list_any (nat_eq other) (arrivals_of state rank)) (range_with_len 0 ranks)

-- whether there is a group, and its rank has every arrival
abbrev pub is_ready : Settings → CoreState → Option RankGroup → Bool
is_ready s state None = false
is_ready s state (Some group) = has_every_arrival state (ranks_of s) group.rank

-- the groups of all ranks, by number
abbrev pub numbered_groups : Settings → List RankGroup
numbered_groups s = all_groups s.limit s.grid s.bodies

-- the next group, if one is left: that whose number is the count of claims
abbrev pub next_group : Settings → CoreState → Option RankGroup
next_group s state = group_numbered s.limit s.grid s.bodies state.claims

-- where an event is legal
abbrev pub is_legal : Settings → CoreState → Event → Bool
-- source and destination are different ranks, and the pair wasn't put
is_legal s state (Put src dst) =
    nat_lt src (ranks_of s) && nat_lt dst (ranks_of s) && not (nat_eq src dst) && not (is_put state src dst)
-- the rank's inbox isn't empty
is_legal s state (Take rank) = nat_lt 0 (length (inbox_of state rank))
-- a worker that holds nothing, and a group is left, whose rank has every arrival
is_legal s state (Claim worker) =
    nat_lt worker s.workers && is_none (held_by state worker) && is_ready s state (next_group s state)
-- the worker holds a group
is_legal s state (Finish worker) = is_some (held_by state worker)

-- the effect of an event: all else stays
abbrev pub after : CoreState → Event → CoreState
-- the source goes to the back of the destination's inbox
after state (Put src dst) = record state {
  inboxes = slice_set state.inboxes dst (inbox_of state dst ++ src ∷ []);
  put = state.put ++ (src, dst) ∷ [];
}
-- the front of the inbox becomes the last arrival
after state (Take rank) = record state {
  inboxes = slice_set state.inboxes rank (drop 1 (inbox_of state rank));
  arrivals = slice_set state.arrivals rank (arrivals_of state rank ++ take 1 (inbox_of state rank));
}
-- the worker holds the next group
after state (Claim worker) = record state {
  held = slice_set state.held worker (Some state.claims);
  claims = state.claims + 1;
}
-- the group is the last finished one, and the worker holds nothing
after state (Finish worker) = record state {
  held = slice_set state.held worker None;
  finished = state.finished ++ option_to_list (held_by state worker);
}

-- whether each event is legal at its place
abbrev pub are_legal : Settings → CoreState → List Event → Bool
are_legal s state [] = true
are_legal s state (event ∷ events) = is_legal s state event && are_legal s (after state event) events

-- the state that events leave
abbrev pub after_all : CoreState → List Event → CoreState
after_all state [] = state
after_all state (event ∷ events) = after_all (after state event) events

-- the core that is opened, and the core that events leave
abbrev pub opened : Settings → StandingCore
opened s = record { settings = s; state = start s }

abbrev pub left_by : Settings → List Event → StandingCore
left_by s events = record { settings = s; state = after_all (start s) events }

-- the partial list of each group, by number: its list limited to its own rank and that rank's arrivals
abbrev pub partial_lists : Settings → CoreState → List (List Entry)
partial_lists s state =
    map (λ group. limited_group_list s.theta s.grid s.bodies group (group.rank ∷ arrivals_of state group.rank))
    (numbered_groups s)

-- the list of each group, by number, over the particles of all ranks
abbrev pub whole_lists : Settings → List (List Entry)
whole_lists s = map (group_list s.theta s.bodies) (numbered_groups s)
