-- Entries that are particles, where these are now.
use Rattle.std.proofs.Common.{◌≡◌, ℕ, ◌+◌, ◌<◌, ◌≤◌, true, List, [], length, get_or, take, drop, map, Option, Some, None, refl, sym, ◌∙◌, ap, subst, arith, add-zero}
use Rattle.std.specs.List.{filter, Contains}
use Rattle.std.specs.List.Sorted.{IsPermutation}
use Rattle.std.specs.Option.{is_none}
use Rattle.std.specs.Prelude.{nat_eq}
use Rattle.std.proofs.lemmas.Bool.{eqb-true, eq-eqb, and_from, false≢true}
use Rattle.std.proofs.lemmas.List.{get_or-take, get_or-drop, get_or_default, get_or-map, length-take, length-drop, length-map, nil_from_length}
use Rattle.std.proofs.lemmas.List.Sorted.{IsPermutation-sym, length_permutation, Contains-permutation}
use Rattle.pf_model.specs.declared.entry.Entry.{Entry}
use Rattle.pf_model.specs.declared.entry.Entry.TheVariants.{Cell, One}
use Rattle.pf_model.specs.Particle.{Particle}
use Rattle.pf_model.specs.Domains.{owner, particles_of}
use Rattle.pf_model.specs.Sums.{moment_of}
use Rattle.pf_model.specs.Totals.{Totals}
use Rattle.model_laws.specs.ListLaws.{IsListOf}
use Rattle.pf_model.specs.Interaction.{level_of, entry_at, list_of, leads_to, members_of}
use Rattle.pf_model.specs.Sufficiency.{lies_in, items_in, moment_together}
use Rattle.pf_model.specs.Reuse.{present, as_in}
use Rattle.morton_tree.specs.declared.span.Span.{Span}
use Rattle.morton_tree.specs.Spans.{at_span}
use Rattle.group_lists.specs.Listing.{SourceItems, IsSource, items_at_span, body_lies_in}
use Rattle.list_reuse.specs.Keeping.{Motion, IsMotion, sent_from}
use Rattle.list_reuse.specs.Renewing.{IsSameEntry}
use Rattle.list_reuse.specs.KeepLaws.{Laws}
use Rattle.list_reuse.proofs.PartLemmas.{inner, outer, of_rank, members_now, item_now, own_is_there, own_moment, values_moment, sent_is, items_permuted}
use Rattle.list_reuse.proofs.SumLemmas.{counted}

same_one : (p q : Particle) → One p ≡ One q → p ≡ q
same_one p q e = cc

-- the particle of an entry
pub from_entry : (p j : Particle) (t : _) (box : _) (js : List Particle) (level : Option ℕ) → One p ≡ entry_at t box js j level → p ≡ j
from_entry p j t box js None e = same_one p j e
from_entry p j t box js (Some level) e = absurd (cc)

-- the first of a span that isn't empty
pub first_there : {X : Type 0} (first len : ℕ) (xs : List X) (d : X) → 1 ≤ len → first + len ≤ length xs → Contains (take len (drop first xs)) (get_or xs first d)
first_there first len xs d some within =
    let q = get_or xs first d in
    let rest = length-drop first xs in
    let taken = length-take len (drop first xs) in
    (0, omega arith, get_or-take len (drop first xs) 0 q (omega arith) ∙ get_or-drop first xs 0 q ∙ ap (λ (i : ℕ). get_or xs i q) (add-zero first) ∙ get_or_default xs first q d (omega arith))

nothing_there : (js : List Particle) → moment_of [] ≡ moment_of js → js ≡ []
nothing_there js e =
    let count = ap (λ (v : Totals). v.count) e in
    let none = counted [] in
    let all = counted js in
    nil_from_length js (omega arith)

take_none : {X : Type 0} (n : ℕ) (xs : List X) → n ≡ 0 → take n xs ≡ []
take_none n xs e = ap (λ (k : ℕ). take k xs) e

named : (f : Entry) (d : Entry) (p : Particle) → IsSameEntry (One p) d → lies_in f d ≡ true → (q : Particle) × (f ≡ One q) × (q.id ≡ p.id)
named f (Cell c m) p same e = absurd same
named (Cell c m) (One r) p same e = absurd (false≢true e)
named (One q) (One r) p same e = (q, refl, eqb-true q.id r.id e ∙ sym same)

module _ (laws : Laws) (m : Motion) (motion : IsMotion m) (built : List Particle) (mine : IsPermutation built (particles_of m.grid m.particles m.rank)) (span : Span) (some : 1 ≤ span.len) (inside : span.first + span.len ≤ length built) (p : Particle) where
  abbrev listed : List Entry
  listed = list_of m.theta (inner laws m motion built mine span some inside) m.particles

  is_there : Contains listed (One p) → Contains m.particles p
  is_there h =
      let is : IsListOf m.theta (inner laws m motion built mine span some inside) m.particles listed = (laws.lists m.theta (inner laws m motion built mine span some inside) m.particles listed motion.are_bodies.distinct).1 refl in
      let from = is.sound (One p) h in
      subst (Contains m.particles) (sym (from_entry p from.0 m.theta (inner laws m motion built mine span some inside) m.particles (level_of m.theta (inner laws m motion built mine span some inside) from.0.at) from.2)) from.1

  -- an own body
  pub own_one : (d : Entry) → Contains listed (One p) → IsSameEntry (One p) d → (s : Span) → 1 ≤ s.len → s.first + s.len ≤ length built → at_span s built ≡ filter (body_lies_in d) built → (bodies : List Particle) → bodies ≡ map (as_in m.now) built → (b : Particle) → b ≡ get_or bodies s.first b → b ≡ as_in m.now p
  own_one d h same s one within is bodies are b at =
      let q = get_or built s.first p in
      let found : Contains (filter (body_lies_in d) built) q = subst (λ (l : List Particle). Contains l q) is (first_there s.first s.len built p one within) in
      let both = (laws.passing_particles (body_lies_in d) built q).0 found in
      let name = named (One q) d p same both.1 in
      let id : q.id ≡ p.id = ap (λ (v : Particle). v.id) (same_one q name.0 name.1) ∙ name.2 in
      let alike : q ≡ p = laws.one_id m.particles q p motion.are_bodies.distinct (own_is_there laws m motion built mine span some inside q both.0) (is_there h) id in
      at ∙ ap (λ (l : List Particle). get_or l s.first b) are ∙ get_or-map (as_in m.now) built s.first p b (omega arith) ∙ ap (as_in m.now) alike

  pub own_none : (d : Entry) → Contains listed (One p) → IsSameEntry (One p) d → (s : Span) → s.len ≡ 0 → at_span s built ≡ filter (body_lies_in d) built → members_now laws m motion built mine span some inside (One p) m.rank ≡ []
  own_none d h same s none is =
      nothing_there (members_now laws m motion built mine span some inside (One p) m.rank)
      (ap moment_of (sym (take_none s.len (drop s.first (map (as_in m.now) built)) none)) ∙ own_moment laws m motion built mine span some inside (One p) d h same s is)

  -- the value of an item
  pub value_one : (d : Entry) → Contains listed (One p) → IsSameEntry (One p) d → (r : ℕ) (s : SourceItems) → IsSource (sent_from m r) r s → (sp : Span) → 1 ≤ sp.len → sp.first + sp.len ≤ length s.items → items_at_span sp s.items ≡ items_in d s.items → get_or (map (item_now laws m motion built mine span some inside r) s.items) sp.first d ≡ One (as_in m.now p)
  value_one d h same r s source sp one within is =
      let f = get_or s.items sp.first d in
      let P = item_now laws m motion built mine span some inside r in
      let found : Contains (items_in d s.items) f = subst (λ (l : List Entry). Contains l f) is (first_there sp.first sp.len s.items d one within) in
      let both = (laws.passing_items (λ (g : Entry). lies_in g d) s.items f).0 found in
      let name = named f d p same both.1 in
      let theirs = of_rank laws m motion built mine span some inside r in
      let box = outer laws m motion built mine span some inside in
      let sent : Contains (list_of m.theta box theirs) (One name.0) =
      subst (Contains (list_of m.theta box theirs)) name.1
      (subst (λ (l : List Entry). Contains l f) (sent_is laws m motion built mine span some inside r)
      (Contains-permutation s.items (sent_from m r) f (IsPermutation-sym (sent_from m r) s.items (items_permuted laws m motion built mine span some inside r s source d)) both.0)) in
      let owned = λ (j : Particle). nat_eq (owner m.grid m.particles j.at) r in
      let list : IsListOf m.theta box theirs (list_of m.theta box theirs) = (laws.lists m.theta box theirs (list_of m.theta box theirs) (laws.some owned m.particles motion.are_bodies.distinct)).1 refl in
      let from = list.sound (One name.0) sent in
      let there : Contains m.particles name.0 =
      subst (Contains m.particles) (sym (from_entry name.0 from.0 m.theta box theirs (level_of m.theta box from.0.at) from.2)) ((laws.passing_particles owned m.particles from.0).0 from.1).0 in
      let alike : name.0 ≡ p = laws.one_id m.particles name.0 p motion.are_bodies.distinct there (is_there h) name.2 in
      get_or-map P s.items sp.first d d (omega arith) ∙ ap P name.1 ∙ ap (λ (v : Particle). One (as_in m.now v)) alike

  pub value_none : (d : Entry) → Contains listed (One p) → IsSameEntry (One p) d → (r : ℕ) (s : SourceItems) → IsSource (sent_from m r) r s → (sp : Span) → sp.len ≡ 0 → items_at_span sp s.items ≡ items_in d s.items → members_now laws m motion built mine span some inside (One p) r ≡ []
  value_none d h same r s source sp none is =
      nothing_there (members_now laws m motion built mine span some inside (One p) r)
      (ap moment_together (sym (take_none sp.len (drop sp.first (map (item_now laws m motion built mine span some inside r) s.items)) none))
      ∙ values_moment laws m motion built mine span some inside (One p) d h same r s source sp is)

  -- some rank has it
  member_itself : (j : Particle) (level : Option ℕ) → Contains m.particles j → level_of m.theta (inner laws m motion built mine span some inside) j.at ≡ level → One p ≡ entry_at m.theta (inner laws m motion built mine span some inside) m.particles j level → Contains (members_of m.theta (inner laws m motion built mine span some inside) m.particles (One p)) j
  member_itself j (Some level) h near e = absurd (cc)
  member_itself j None h near e =
      (laws.passing_particles (leads_to m.theta (inner laws m motion built mine span some inside) (One p)) m.particles j).1
      (h, and_from (is_none (level_of m.theta (inner laws m motion built mine span some inside) j.at)) (nat_eq p.id j.id) (ap is_none near) (eq-eqb p.id j.id (ap (λ (q : Particle). q.id) (same_one p j e))))

  pub never_none : Contains listed (One p) → present m.now (members_of m.theta (inner laws m motion built mine span some inside) m.particles (One p)) ≡ [] → ⊥
  never_none h none =
      let box = inner laws m motion built mine span some inside in
      let is : IsListOf m.theta box m.particles listed = (laws.lists m.theta box m.particles listed motion.are_bodies.distinct).1 refl in
      let from = is.sound (One p) h in
      let leads = leads_to m.theta box (One p) in
      let members = members_of m.theta box m.particles (One p) in
      let member = member_itself from.0 (level_of m.theta box from.0.at) from.1 refl from.2 in
      let found = laws.are_found m.particles members m.now motion.are_bodies.distinct (laws.some leads m.particles motion.are_bodies.distinct) (λ k i. ((laws.passing_particles leads m.particles k).0 i).0) motion.same_ids in
      let same = length_permutation (map (as_in m.now) members) (present m.now members) found in
      let long = length-map members (as_in m.now) in
      let zero : length (present m.now members) ≡ 0 = ap length none in
      let inside_members : member.0 < length members = member.1 in
      omega arith
