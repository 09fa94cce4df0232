-- Partial lists, as code makes them.
use Rattle.std.proofs.Common.{◌≡◌, ℕ, ◌+◌, ◌<◌, List, [], ◌∷◌, ◌++◌, length, get_or, take, map, replicate, Some, inl, inr, refl, sym, ◌∙◌, ap, arith}
use Rattle.std.specs.Prelude.{slice_get, option_map}
use Rattle.std.proofs.lemmas.Bool.{cases_lt}
use Rattle.std.proofs.lemmas.List.{length-replicate, get_or-replicate, get_or_past, get_or-map, get_or-set_same, get_or-set_other, take_more}
use Rattle.std.proofs.lemmas.List.Sums.{length-filter, count_by-le-length}
use Rattle.std.proofs.lemmas.Option.{slice_get-map, slice_get-get_or, slice_get_within, get_or_from_slice_get}
use Rattle.pf_model.specs.declared.entry.Entry.{Entry}
use Rattle.pf_model.specs.Particle.{Particle}
use Rattle.pf_model.specs.Particles.{AreBodies}
use Rattle.model_laws.specs.ParticleLaws.{SomeHaveDistinctIds}
use Rattle.pf_model.specs.Division.{Division}
use Rattle.pf_model.specs.Domains.{Multisection, cuts_for, owner}
use Rattle.pf_model.specs.EssentialTree.{particles_of_ranks}
use Rattle.pf_model.specs.Groups.{RankGroup, limited_group_list}
use Rattle.step_core.specs.declared.event.Event.TheVariants.{Take}
use Rattle.step_core.specs.declared.site.Site.{Site}
use Rattle.step_core.specs.Core.{Settings, CoreState, start, ranks_of, numbered_groups, inbox_of, arrivals_of, after, partial_lists}
use Rattle.step_core.specs.Plain.{listed_site, is_seen, seen_by, list_at}

-- the particles that some ranks own have distinct ids too
pub seen_are_bodies : SomeHaveDistinctIds → (cuts : Multisection) (js : List Particle) (ranks : List ℕ) → AreBodies js → AreBodies (seen_by cuts js ranks)
seen_are_bodies law cuts js ranks h = record {
  few = (let a = length-filter (is_seen cuts ranks) js in let b = count_by-le-length (is_seen cuts ranks) js in let few = h.few in omega arith);
  distinct = law (is_seen cuts ranks) js h.distinct;
}

-- by the cuts that the particles make, they are the particles of these ranks
pub seen_are_owned : (g : Division) (js : List Particle) (ranks : List ℕ) → seen_by (cuts_for g js) js ranks ≡ particles_of_ranks g js ranks
unfolding owner
seen_are_owned g js ranks = refl

-- ---- the list of one group

no_group : RankGroup
no_group = record { rank = 0; members = [] }

group_at : Settings → ℕ → RankGroup
group_at s place = get_or (numbered_groups s) place no_group

partial_at : (s : Settings) (state : CoreState) (place : ℕ) → place < length (numbered_groups s) → slice_get (partial_lists s state) place ≡ Some (list_at s.theta s.grid s.bodies (arrivals_of state (group_at s place).rank) (listed_site (group_at s place)))
unfolding group_at no_group
partial_at s state place within =
    let list : RankGroup → List Entry = λ group. limited_group_list s.theta s.grid s.bodies group (group.rank ∷ arrivals_of state group.rank) in
    slice_get-map list (numbered_groups s) place ∙ ap (option_map list) (slice_get-get_or (numbered_groups s) place no_group within)

site_is : (s : Settings) (sites : List Site) (place : ℕ) (site : Site) → sites ≡ map listed_site (numbered_groups s) → place < length (numbered_groups s) → site ≡ get_or sites place site → site ≡ listed_site (group_at s place)
unfolding group_at no_group
site_is s sites place site kept within at =
    at ∙ ap (λ (l : List Site). get_or l place site) kept ∙ get_or-map listed_site (numbered_groups s) place no_group site within

-- a group whose rank has taken the front of its inbox
pub list_taken : (s : Settings) (state : CoreState) (rank : ℕ) (arrivals : List ℕ) (sites : List Site) (place : ℕ) (site : Site) (new : List Entry)
    → sites ≡ map listed_site (numbered_groups s) → place < length (numbered_groups s) → site ≡ get_or sites place site → site.rank ≡ rank → rank < length state.arrivals
    → arrivals ≡ arrivals_of state rank ++ take 1 (inbox_of state rank) → new ≡ list_at s.theta s.grid s.bodies arrivals site
    → slice_get (partial_lists s (after state (Take rank))) place ≡ Some new
list_taken s state rank arrivals sites place site new kept within at of_rank below now made =
    let is = site_is s sites place site kept within at in
    let same : (group_at s place).rank ≡ rank = sym (ap (λ (v : Site). v.rank) is) ∙ of_rank in
    let there : arrivals_of (after state (Take rank)) (group_at s place).rank ≡ arrivals =
    ap (arrivals_of (after state (Take rank))) same ∙ get_or-set_same state.arrivals rank (arrivals_of state rank ++ take 1 (inbox_of state rank)) [] below ∙ sym now in
    let lists : list_at s.theta s.grid s.bodies (arrivals_of (after state (Take rank)) (group_at s place).rank) (listed_site (group_at s place)) ≡ list_at s.theta s.grid s.bodies arrivals site =
    λ i. list_at s.theta s.grid s.bodies (there i) (sym is i) in
    partial_at s (after state (Take rank)) place within ∙ ap (λ (es : List Entry). Some es) (lists ∙ sym made)

-- a group of another rank
pub list_kept : (s : Settings) (state : CoreState) (rank : ℕ) (sites : List Site) (place : ℕ) (site : Site) (old new : List Entry)
    → sites ≡ map listed_site (numbered_groups s) → place < length (numbered_groups s) → site ≡ get_or sites place site → (site.rank ≡ rank → ⊥)
    → slice_get (partial_lists s state) place ≡ Some old → new ≡ old → slice_get (partial_lists s (after state (Take rank))) place ≡ Some new
list_kept s state rank sites place site old new kept within at other before copied =
    let is = site_is s sites place site kept within at in
    let differ : (group_at s place).rank ≡ rank → ⊥ = λ e. other (ap (λ (v : Site). v.rank) is ∙ e) in
    let there : arrivals_of (after state (Take rank)) (group_at s place).rank ≡ arrivals_of state (group_at s place).rank =
    get_or-set_other state.arrivals rank (group_at s place).rank (arrivals_of state rank ++ take 1 (inbox_of state rank)) [] differ in
    partial_at s (after state (Take rank)) place within
    ∙ ap (λ (arrivals : List ℕ). Some (list_at s.theta s.grid s.bodies arrivals (listed_site (group_at s place)))) there
    ∙ sym (partial_at s state place within) ∙ before ∙ ap (λ (es : List Entry). Some es) (sym copied)

-- ---- all lists

-- one element more of a list
pub take_next : {X : Type 0} (xs front : List X) (k : ℕ) (x : X) → front ≡ take k xs → slice_get xs k ≡ Some x → front ++ x ∷ [] ≡ take (k + 1) xs
take_next {X} xs front k x so_far at =
    let here = get_or_from_slice_get xs k x x at in
    ap (λ (l : List X). l ++ x ∷ []) so_far ∙ ap (λ (y : X). take k xs ++ y ∷ []) (sym here) ∙ sym (take_more xs k x (slice_get_within xs k x at))

none_arrived : (s : Settings) (rank : ℕ) → arrivals_of (start s) rank ≡ []
none_arrived s rank =
    elim (cases_lt rank (ranks_of s)) [
      | inl within ↦ get_or-replicate (ranks_of s) rank [] [] within
      | inr past ↦ get_or_past (replicate (ranks_of s) []) rank [] (let long : length (replicate {A = List ℕ} (ranks_of s) []) ≡ ranks_of s = length-replicate (ranks_of s) [] in omega arith)
    ]

first_lists_from : (s : Settings) (groups : List RankGroup) → map (list_at s.theta s.grid s.bodies []) (map listed_site groups)
    ≡ map (λ group. limited_group_list s.theta s.grid s.bodies group (group.rank ∷ arrivals_of (start s) group.rank)) groups
first_lists_from s [] = refl
first_lists_from s (group ∷ groups) =
    λ i. limited_group_list s.theta s.grid s.bodies group (group.rank ∷ sym (none_arrived s group.rank) i) ∷ first_lists_from s groups i

pub first_lists_are : (s : Settings) → map (list_at s.theta s.grid s.bodies []) (map listed_site (numbered_groups s)) ≡ partial_lists s (start s)
first_lists_are s = first_lists_from s (numbered_groups s)
