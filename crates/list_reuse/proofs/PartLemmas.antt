-- What makes an entry of a kept list: the own bodies that lie in it, and the values of the items of each other rank.
use Rattle.std.proofs.Common.{◌≡◌, ℕ, suc, ◌+◌, ◌<◌, ◌≤◌, Bool, true, false, ◌&&◌, cond, List, [], ◌∷◌, length, get_or, take, drop, map, Option, Some, None, inl, inr, refl, sym, ◌∙◌, ap, subst, arith}
use Rattle.std.specs.List.{filter, All, Contains, range_with_len}
use Rattle.std.specs.List.Sorted.{IsPermutation}
use Rattle.std.specs.Option.{is_none}
use Rattle.std.specs.Prelude.{nat_eq}
use Rattle.std.proofs.lemmas.Bool.{eqb-true, eq-eqb, ne_eqb, false≢true, cases_eq}
use Rattle.std.proofs.lemmas.List.{take-map, drop-map, length-take, length-drop, get_or-map}
use Rattle.std.proofs.lemmas.List.FromFn.{fill_by_all, get_or-range_with_len, length-range_with_len}
use Rattle.std.proofs.lemmas.List.Elements.{All-weaker, All-take, All-drop, All-filter, filter_passes, filter_agree, Contains-append_right}
use Rattle.std.proofs.lemmas.List.Sorted.{IsPermutation-refl, IsPermutation-sym, IsPermutation-trans, IsPermutation-map, length_permutation, Contains-permutation, All-permutation}
use Rattle.pf_geom.specs.Position.{IsPosition}
use Rattle.pf_geom.specs.Bounds.{Bounds, IsBox, IsWithin}
use Rattle.pf_model.specs.declared.entry.Entry.{Entry}
use Rattle.pf_model.specs.declared.entry.Entry.TheVariants.{Cell, One}
use Rattle.pf_model.specs.Particle.{Particle, IsParticle}
use Rattle.pf_model.specs.Particles.{HaveDistinctIds}
use Rattle.pf_model.specs.Domains.{owner, particles_of, domain_box}
use Rattle.pf_model.specs.Sums.{moment_of}
use Rattle.model_laws.specs.ListLaws.{IsListOf, IsFirstPassing}
use Rattle.pf_model.specs.Interaction.{level_of, entry_at, list_of, leads_to, members_of}
use Rattle.pf_model.specs.Group.{box_of}
use Rattle.pf_model.specs.EssentialTree.{tree_for, essential_tree}
use Rattle.pf_model.specs.Sufficiency.{lies_in, items_in, moment_together}
use Rattle.pf_model.specs.Reuse.{present, as_in, present_entry}
use Rattle.morton_tree.specs.declared.span.Span.{Span}
use Rattle.morton_tree.specs.Spans.{at_span}
use Rattle.group_lists.specs.Listing.{SourceItems, IsSource, items_at_span, body_lies_in}
use Rattle.list_reuse.specs.Keeping.{Motion, IsMotion, sent_from, values_from}
use Rattle.list_reuse.specs.Renewing.{IsSameEntry}
use Rattle.list_reuse.specs.KeepLaws.{Laws}

-- tests that agree on the elements keep the same
agree_on : {X : Type 0} (p q : X → Bool) (xs : List X) → ((x : X) → Contains xs x → p x ≡ q x) → filter p xs ≡ filter q xs
agree_on p q [] h = refl
agree_on {X} p q (x ∷ xs) h =
    ap (λ (b : Bool). cond b (x ∷ filter p xs) (filter p xs)) (h x (0, omega arith, refl))
    ∙ ap (λ (l : List X). cond (q x) (x ∷ l) l) (agree_on p q xs (λ y i. h y (Contains-append_right (x ∷ []) xs y i)))

same_bools : (b : Bool) (m n : ℕ) → (m ≡ n → b ≡ true) → nat_eq m n ≡ (b && nat_eq n m)
same_bools true m n h = elim (cases_eq m n) [ inl e ↦ eq-eqb m n e ∙ sym (eq-eqb n m (sym e)) | inr a ↦ ne_eqb m n a ∙ sym (ne_eqb n m (λ e. a (sym e))) ]
same_bools false m n h = elim (cases_eq m n) [ inl e ↦ absurd (false≢true (h e)) | inr a ↦ ne_eqb m n a ]

-- an entry holds what the one that it stands for the same as holds
lies_in_same : (f e d : Entry) → IsSameEntry e d → lies_in f d ≡ lies_in f e
lies_in_same (Cell c m) (Cell a k) (Cell b l) h = ap (λ o. lies_in (Cell c m) (Cell o k)) (sym h.0)
lies_in_same (One p) (Cell a k) (Cell b l) h = ap (λ o. lies_in (One p) (Cell o k)) (sym h.0)
lies_in_same f (Cell a k) (One q) h = absurd h
lies_in_same f (One p) (Cell b l) h = absurd h
lies_in_same (Cell c m) (One p) (One q) h = refl
lies_in_same (One r) (One p) (One q) h = ap (nat_eq r.id) (sym h)

tree_for_some : (is : List Particle) (items : List Entry) → 1 ≤ length is → tree_for is items ≡ items
tree_for_some [] items some = absurd (omega arith)
tree_for_some (i ∷ is) items some = refl

values_placed : (P : Entry → Entry) (sent : List Entry) (places : List ℕ) (d : Entry) → All (λ k. k < length sent) places → map (λ k. get_or (map P sent) k d) places ≡ map P (map (λ k. get_or sent k d) places)
values_placed P sent [] d all = refl
values_placed P sent (k ∷ ks) d all =
    let head = get_or-map P sent k d d (all 0 k (omega arith)) in
    let tail = values_placed P sent ks d (λ i e w. all (suc i) e (omega arith)) in
    cc

module _ (laws : Laws) (m : Motion) (motion : IsMotion m) (built : List Particle) (mine : IsPermutation built (particles_of m.grid m.particles m.rank)) (span : Span) (some : 1 ≤ span.len) (inside : span.first + span.len ≤ length built) where
  abbrev pub inner : Bounds
  inner = box_of (at_span span built)

  abbrev pub outer : Bounds
  outer = domain_box m.grid m.particles m.rank

  abbrev pub of_rank : ℕ → List Particle
  of_rank r = particles_of m.grid m.particles r

  -- the present members of an entry that a rank has
  abbrev pub members_now : Entry → ℕ → List Particle
  members_now e r = present m.now (members_of m.theta inner (of_rank r) e)

  pub record AreNested : Type 0 where
    pub inner_is : IsBox inner
    pub outer_is : IsBox outer
    pub within : IsWithin inner outer

  pub nested : AreNested
  nested =
      let members = at_span span built in
      let back = IsPermutation-sym built (of_rank m.rank) mine in
      let owned : All (λ j. owner m.grid m.particles j.at ≡ m.rank) (of_rank m.rank) =
      All-weaker (λ (j : Particle). nat_eq (owner m.grid m.particles j.at) m.rank ≡ true) (λ j. owner m.grid m.particles j.at ≡ m.rank) (λ j e. eqb-true (owner m.grid m.particles j.at) m.rank e) (of_rank m.rank) (filter_passes (λ (j : Particle). nat_eq (owner m.grid m.particles j.at) m.rank) m.particles) in
      let places : All (λ j. IsPosition j.at) m.particles = All-weaker IsParticle (λ j. IsPosition j.at) (λ j p. p.in_cube) m.particles motion.within_limits in
      let of_members : (P : Particle → Type 0) → All P (of_rank m.rank) → All P members = λ P all.
      All-take P span.len (drop span.first built) (All-drop P span.first built (All-permutation P (of_rank m.rank) built back all)) in
      let rest = length-drop span.first built in
      let count : 1 ≤ length members = (let taken = length-take span.len (drop span.first built) in omega arith) in
      let boxes = laws.domains m.grid m.particles members m.rank motion.division places count (of_members (λ j. IsPosition j.at) (All-filter (λ (j : Particle). nat_eq (owner m.grid m.particles j.at) m.rank) (λ j. IsPosition j.at) m.particles places)) (of_members (λ j. owner m.grid m.particles j.at ≡ m.rank) owned) in
      record { inner_is = boxes.0; outer_is = boxes.1; within = boxes.2 }

  pub owns_some : 1 ≤ length (of_rank m.rank)
  owns_some = omega (arith, length_permutation built (of_rank m.rank) mine)

  -- the own bodies are among the particles
  pub own_is_there : (j : Particle) → Contains built j → Contains m.particles j
  own_is_there j h = ((laws.passing_particles (λ (i : Particle). nat_eq (owner m.grid m.particles i.at) m.rank) m.particles j).0 (Contains-permutation built (of_rank m.rank) j mine h)).0

  pub distinct_own : HaveDistinctIds built
  distinct_own = laws.distinct (of_rank m.rank) built (IsPermutation-sym built (of_rank m.rank) mine) (laws.some (λ (j : Particle). nat_eq (owner m.grid m.particles j.at) m.rank) m.particles motion.are_bodies.distinct)

  own_members_at : (j : Particle) → Contains m.particles j → (o : Option ℕ) → level_of m.theta inner j.at ≡ o → filter (body_lies_in (entry_at m.theta inner m.particles j o)) built ≡ members_of m.theta inner built (entry_at m.theta inner m.particles j o)
  own_members_at j h (Some level) near =
      let first : IsFirstPassing m.theta inner j.at level = ((laws.levels m.theta inner j.at).1 level).0 near in
      sym (laws.first_cells m.theta inner j.at level built first)
  own_members_at j h None near =
      agree_on (λ (q : Particle). nat_eq q.id j.id) (λ (q : Particle). is_none (level_of m.theta inner q.at) && nat_eq j.id q.id) built
      (λ q i. same_bools (is_none (level_of m.theta inner q.at)) q.id j.id
      (λ e. ap (λ (p : Particle). is_none (level_of m.theta inner p.at)) (laws.one_id m.particles q j motion.are_bodies.distinct (own_is_there q i) h e) ∙ ap is_none near))

  -- the own bodies that lie in an entry are its members
  pub own_members : (e : Entry) → Contains (list_of m.theta inner m.particles) e → filter (body_lies_in e) built ≡ members_of m.theta inner built e
  own_members e h =
      let listed : IsListOf m.theta inner m.particles (list_of m.theta inner m.particles) = (laws.lists m.theta inner m.particles (list_of m.theta inner m.particles) motion.are_bodies.distinct).1 refl in
      let from = listed.sound e h in
      let P : Entry → Type 0 = λ v. filter (body_lies_in v) built ≡ members_of m.theta inner built v in
      subst P (sym from.2) (own_members_at from.0 from.1 (level_of m.theta inner from.0.at) refl)

  -- where these are now, they have the moment of the present members of the own rank
  pub own_moment : (e d : Entry) → Contains (list_of m.theta inner m.particles) e → IsSameEntry e d → (s : Span) → at_span s built ≡ filter (body_lies_in d) built → moment_of (at_span s (map (as_in m.now) built)) ≡ moment_of (members_now e m.rank)
  own_moment e d h same s is =
      let leads = leads_to m.theta inner e in
      let some_own : List Particle = filter leads built in
      let of_own : List Particle = filter leads (of_rank m.rank) in
      let alike : filter (body_lies_in d) built ≡ filter (body_lies_in e) built = filter_agree (body_lies_in d) (body_lies_in e) (λ j. lies_in_same (One j) e d same) built in
      let found = laws.are_found m.particles some_own m.now motion.are_bodies.distinct (laws.some leads built distinct_own) (λ k i. own_is_there k ((laws.passing_particles leads built k).0 i).0) motion.same_ids in
      let moved = laws.present_order m.now m.now some_own of_own (IsPermutation-refl m.now) (laws.kept_particles leads built (of_rank m.rank) mine) in
      ap moment_of
      (ap (take s.len) (drop-map (as_in m.now) s.first built)
      ∙ take-map (as_in m.now) s.len (drop s.first built)
      ∙ ap (map (as_in m.now)) (is ∙ alike ∙ own_members e h))
      ∙ laws.order (map (as_in m.now) some_own) (present m.now of_own)
      (IsPermutation-trans (map (as_in m.now) some_own) (present m.now some_own) (present m.now of_own) found moved)

  -- what another rank sent is its list for the domain box
  pub sent_is : (r : ℕ) → sent_from m r ≡ list_of m.theta outer (of_rank r)
  unfolding essential_tree
  sent_is r = tree_for_some (of_rank m.rank) (list_of m.theta outer (of_rank r)) owns_some

  abbrev pub item_now : ℕ → Entry → Entry
  item_now r f = present_entry m.now (members_of m.theta outer (of_rank r) f) f

  -- the values in key order
  pub values_in_key_order : (r : ℕ) (s : SourceItems) → IsSource (sent_from m r) r s → (values : List Entry) → values ≡ values_from m r → (d : Entry) → map (λ k. get_or values k d) s.places ≡ map (item_now r) s.items
  values_in_key_order r s source values is d =
      let sent = sent_from m r in
      let below : All (λ k. k < length sent) (range_with_len 0 (length sent)) = λ k e w. (let long = length-range_with_len 0 (length sent) in let at = get_or-range_with_len 0 (length sent) k e (omega arith) in omega arith) in
      let within : All (λ k. k < length sent) s.places = All-permutation (λ k. k < length sent) (range_with_len 0 (length sent)) s.places source.placed.each_once below in
      ap (λ (vs : List Entry). map (λ k. get_or vs k d) s.places) is
      ∙ values_placed (item_now r) sent s.places d within
      ∙ ap (map (item_now r)) (sym (source.placed.items_are d))

  pub items_permuted : (r : ℕ) (s : SourceItems) → IsSource (sent_from m r) r s → Entry → IsPermutation (sent_from m r) s.items
  items_permuted r s source d =
      let sent = sent_from m r in
      let all = fill_by_all (λ k. get_or sent k d) sent (length sent) d refl (λ k w. refl) in
      subst (λ (l : List Entry). IsPermutation l s.items) (sym all)
      (subst (IsPermutation (map (λ k. get_or sent k d) (range_with_len 0 (length sent)))) (sym (source.placed.items_are d))
      (IsPermutation-map (λ k. get_or sent k d) (range_with_len 0 (length sent)) s.places source.placed.each_once))

  -- the values of the items in an entry have the moment of the present members of their rank
  pub values_moment : (e d : Entry) → Contains (list_of m.theta inner m.particles) e → IsSameEntry e d → (r : ℕ) (s : SourceItems) → IsSource (sent_from m r) r s → (sp : Span) → items_at_span sp s.items ≡ items_in d s.items →
      moment_together (take sp.len (drop sp.first (map (item_now r) s.items))) ≡ moment_of (members_now e r)
  values_moment e d h same r s source sp is =
      let test : Entry → Bool = λ f. lies_in f e in
      let alike : items_in d s.items ≡ items_in e s.items = filter_agree (λ f. lies_in f d) test (λ f. lies_in_same f e d same) s.items in
      let boxes = nested in
      ap moment_together
      (ap (take sp.len) (drop-map (item_now r) sp.first s.items)
      ∙ take-map (item_now r) sp.len (drop sp.first s.items)
      ∙ ap (map (item_now r)) (is ∙ alike))
      ∙ sym (laws.joins (map (item_now r) (filter test (sent_from m r))) (map (item_now r) (filter test s.items))
      (IsPermutation-map (item_now r) (filter test (sent_from m r)) (filter test s.items) (laws.kept_items test (sent_from m r) s.items (items_permuted r s source d))))
      ∙ ap (λ (l : List Entry). moment_together (map (item_now r) (items_in e l))) (sent_is r)
      ∙ sym (laws.of_some (λ (j : Particle). nat_eq (owner m.grid m.particles j.at) r) m.theta inner outer m.particles m.now e boxes.inner_is boxes.outer_is boxes.within motion.are_bodies.distinct motion.same_ids h)
