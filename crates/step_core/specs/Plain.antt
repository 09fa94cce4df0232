-- What the core computes by plain scans, in the words of its code.
use Rattle.std.specs.Prelude.{◌≡◌, ℕ, ◌^◌, ◌<◌, Bool, List, ◌∷◌, map, filter, length, nat_eq}
use Rattle.std.specs.List.{range_with_len, flat_map, list_any}
use Rattle.pf_geom.specs.Octant.{Octant}
use Rattle.pf_model.specs.declared.entry.Entry.{Entry}
use Rattle.pf_model.specs.Particle.{Particle}
use Rattle.pf_model.specs.Criterion.{Criterion}
use Rattle.pf_model.specs.Division.{Division}
use Rattle.pf_model.specs.Domains.{Multisection, cuts_for, owner_by}
use Rattle.pf_model.specs.Group.{particles_in, group_cells, box_of}
use Rattle.pf_model.specs.Groups.{RankGroup}
use Rattle.pf_model.specs.EssentialTree.{limited_list}
use Rattle.step_core.specs.declared.site.Site.{Site}
use Rattle.step_core.specs.declared.event.Event.{Event}
use Rattle.step_core.specs.Laws.{IsLegalRun}
use Rattle.step_core.specs.Core.{Settings, IsSettings, CoreState, numbered_groups, partial_lists}

-- the particles that a rank owns, by cuts
abbrev pub plain_owned : Multisection → List Particle → ℕ → List Particle
plain_owned cuts js rank = filter (λ j. nat_eq (owner_by cuts j.at) rank) js

-- what is kept of a group: its rank, and the box round its members
abbrev pub listed_site : RankGroup → Site
listed_site group = record { rank = group.rank; around = box_of group.members }

-- what is kept of the group of a cell of a rank
abbrev pub site_in : List Particle → ℕ → Octant → Site
site_in own rank c = record { rank = rank; around = box_of (particles_in c own) }

-- what is kept of the groups of so many ranks, by cuts
abbrev pub sites_by : ℕ → Multisection → List Particle → ℕ → List Site
sites_by limit cuts js ranks =
    flat_map
    (λ rank. map (site_in (plain_owned cuts js rank) rank) (group_cells limit (plain_owned cuts js rank)))
    (range_with_len 0 ranks)

-- the particles that some ranks own, by cuts
abbrev pub is_seen : Multisection → List ℕ → Particle → Bool
is_seen cuts ranks j = list_any (nat_eq (owner_by cuts j.at)) ranks

abbrev pub seen_by : Multisection → List Particle → List ℕ → List Particle
seen_by cuts js ranks = filter (is_seen cuts ranks) js

-- the list of a group limited to its own rank and the ranks that have arrived there
abbrev pub list_at : Criterion → Division → List Particle → List ℕ → Site → List Entry
list_at t g js arrivals site = limited_list t site.around g js (site.rank ∷ arrivals)

-- what each scene keeps: its cuts and what it has of groups are those of its settings
pub record IsScene (s : Settings) (cut : Multisection) (listed : List Site) : Type 0 where
  pub settings : IsSettings s
  pub cuts : cut ≡ cuts_for s.grid s.bodies
  pub sites : listed ≡ map listed_site (numbered_groups s)
  pub few : length listed < 2 ^ 32

-- what each core keeps: a legal list of events leaves its state, and its lists are the partial ones
pub record IsKeptCore (s : Settings) (state : CoreState) (kept : List (List Entry)) : Type 0 where
  pub past : (events : List Event) × IsLegalRun s events state
  pub lists : kept ≡ partial_lists s state
