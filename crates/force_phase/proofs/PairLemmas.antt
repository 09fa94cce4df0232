-- The pairs of a particle, partner after partner.
use Rattle.std.proofs.Common.{◌≡◌, ℕ, suc, ◌+◌, ◌≤◌, Bool, true, false, List, [], ◌∷◌, length, Option, Some, None, Ok, map, refl, sym, ap, ◌∙◌, arith}
use Rattle.std.specs.List.{All}
use Rattle.std.proofs.lemmas.List.Elements.{All-nil, All-cons, All-head, All-tail, All-weaker}
use Rattle.pf_geom.specs.declared.edge.Edge.{Edge}
use Rattle.pf_model.specs.declared.entry.Entry.{Entry}
use Rattle.pf_model.specs.declared.entry.Entry.TheVariants.{Cell, One}
use Rattle.pf_model.specs.Particle.{Particle}
use Rattle.kern_tree.specs.declared.kernel.Kernel.{Kernel}
use Rattle.kern_types.specs.declared.force_var.ForceVar.{ForceVar}
use Rattle.kern_meaning.specs.declared.value.Value.{Value}
use Rattle.kern_meaning.specs.Pair.{OrPairStop, targets_in, given_to}
use Rattle.run_model.specs.Force.{first_given, pair_fault, pairs_of, is_other}
use Rattle.force_phase.specs.declared.partner.Partner.{Partner}
use Rattle.force_phase.specs.Partner.{is_another, pair_by, pairs_by, partner_of, entry_id}
use Rattle.force_phase.specs.Tally.{Tallied}
use Rattle.force_phase.specs.Gathered.{with_values, with_given, with_pairs, each_with}

abbrev APair : Type 0
APair = OrPairStop (List (Option Value))

each_each : {X Y : Type 0} (f g : X → Y → Y) (xs : List X) (ys : List Y) → each_with (λ x y. g x (f x y)) xs ys ≡ each_with g xs (each_with f xs ys)
each_each f g [] ys = refl
each_each f g (x ∷ xs) [] = refl
each_each f g (x ∷ xs) (y ∷ ys) = ap (λ rest. g x (f x y) ∷ rest) (each_each f g xs ys)

pub length-each_with : {X Y : Type 0} (f : X → Y → Y) (xs : List X) (ys : List Y) → length (each_with f xs ys) ≡ length ys
length-each_with f [] ys = refl
length-each_with f (x ∷ xs) [] = refl
length-each_with f (x ∷ xs) (y ∷ ys) = ap suc (length-each_with f xs ys)

pub each_of_none : (kernel : Kernel) (forces : List ForceVar) (tallies : List Tallied) → each_with (with_pairs kernel []) forces tallies ≡ tallies
each_of_none kernel [] tallies = refl
each_of_none kernel (v ∷ forces) [] = refl
each_of_none kernel (v ∷ forces) (t ∷ tallies) = ap (λ rest. t ∷ rest) (each_of_none kernel forces tallies)

module _ (edge : Edge) (kernel : Kernel) (i : Particle) where
  pub is_pair : (p : Partner) (rest : List Partner) → is_another i.id p.id ≡ true → pairs_by edge kernel i (p ∷ rest) ≡ pair_by edge kernel i p ∷ pairs_by edge kernel i rest
  is_pair p rest e = rw e refl

  pub is_self : (p : Partner) (rest : List Partner) → is_another i.id p.id ≡ false → pairs_by edge kernel i (p ∷ rest) ≡ pairs_by edge kernel i rest
  is_self p rest e = rw e refl

  pub no_fault_yet : (p : Partner) (rest : List Partner) (given : List (Option Value)) → is_another i.id p.id ≡ true → pair_by edge kernel i p ≡ Ok given
      → first_given pair_fault (pairs_by edge kernel i (p ∷ rest)) ≡ first_given pair_fault (pairs_by edge kernel i rest)
  no_fault_yet p rest given e g = ap (first_given pair_fault) (is_pair p rest e) ∙ ap (λ (x : APair). first_given pair_fault (x ∷ pairs_by edge kernel i rest)) g

  pub gathers : (p : Partner) (rest : List Partner) (given : List (Option Value)) (targets : List (List ℕ)) (forces : List ForceVar) (tallies : List Tallied)
      → is_another i.id p.id ≡ true → pair_by edge kernel i p ≡ Ok given → targets ≡ targets_in kernel.body
      → each_with (with_pairs kernel (pairs_by edge kernel i (p ∷ rest))) forces tallies
      ≡ each_with (with_pairs kernel (pairs_by edge kernel i rest)) forces (each_with (with_given targets given) forces tallies)
  gathers p rest given targets forces tallies e g h =
      ap (λ (pairs : List APair). each_with (with_pairs kernel pairs) forces tallies) (is_pair p rest e)
      ∙ ap (λ (x : APair). each_with (with_pairs kernel (x ∷ pairs_by edge kernel i rest)) forces tallies) g
      ∙ each_each (with_given (targets_in kernel.body) given) (with_pairs kernel (pairs_by edge kernel i rest)) forces tallies
      ∙ ap (λ (names : List (List ℕ)). each_with (with_pairs kernel (pairs_by edge kernel i rest)) forces (each_with (with_given names given) forces tallies)) (sym h)

  same_other : (e : Entry) → is_other i e ≡ is_another i.id (entry_id e)
  same_other (Cell c m) = refl
  same_other (One p) = refl

  pairs_more : (e : Entry) (entries : List Entry) (b : Bool) → is_other i e ≡ b → pairs_by edge kernel i (map partner_of entries) ≡ pairs_of edge kernel entries i
      → pairs_by edge kernel i (map partner_of (e ∷ entries)) ≡ pairs_of edge kernel (e ∷ entries) i
  unfolding pairs_of
  pairs_more e entries true h more = is_pair (partner_of e) (map partner_of entries) (sym (same_other e) ∙ h) ∙ ap (λ (pairs : List APair). pair_by edge kernel i (partner_of e) ∷ pairs) more ∙ rw h refl
  pairs_more e entries false h more = is_self (partner_of e) (map partner_of entries) (sym (same_other e) ∙ h) ∙ more ∙ rw h refl

  pub pairs_are : (entries : List Entry) → pairs_by edge kernel i (map partner_of entries) ≡ pairs_of edge kernel entries i
  unfolding pairs_of
  pairs_are [] = refl
  pairs_are (e ∷ entries) = pairs_more e entries (is_other i e) refl (pairs_are entries)

-- ---- how many contributions there are

few_values_by : (v : ForceVar) (targets : List (List ℕ)) (given : List (Option Value)) (t : Tallied) (x : List ℕ) (g o : Option Value) → given_to v.name (x, g) ≡ o
    → ((u : Tallied) → (with_given targets given v u).count ≤ u.count + length given)
    → (with_given (x ∷ targets) (g ∷ given) v t).count ≤ t.count + length (g ∷ given)
few_values_by v targets given t x g None e more = rw e (let rest = more t in omega (arith, rest))
few_values_by v targets given t x g (Some value) e more = rw e (let rest = more (with_values v t (value ∷ [])) in omega (arith, rest))

few_values : (v : ForceVar) (targets : List (List ℕ)) (given : List (Option Value)) (t : Tallied) → (with_given targets given v t).count ≤ t.count + length given
few_values v [] given t = omega arith
few_values v (x ∷ targets) [] t = omega arith
few_values v (x ∷ targets) (g ∷ given) t = few_values_by v targets given t x g (given_to v.name (x, g)) refl (few_values v targets given)

pub few_more : (targets : List (List ℕ)) (given : List (Option Value)) (forces : List ForceVar) (tallies : List Tallied) (n slots : ℕ) → slots ≡ length given
    → All (λ t. t.count ≤ n) tallies → All (λ t. t.count ≤ n + slots) (each_with (with_given targets given) forces tallies)
few_more targets given [] tallies n slots e h = All-weaker (λ t. t.count ≤ n) (λ t. t.count ≤ n + slots) (λ t a. omega (arith, a)) tallies h
few_more targets given (v ∷ forces) [] n slots e h = All-nil (λ t. t.count ≤ n + slots)
few_more targets given (v ∷ forces) (t ∷ tallies) n slots e h =
    let one = few_values v targets given t in
    let own = All-head (λ t. t.count ≤ n) t tallies h in
    All-cons (λ t. t.count ≤ n + slots) (with_given targets given v t) (each_with (with_given targets given) forces tallies)
    (omega (arith, one, own, e)) (few_more targets given forces tallies n slots e (All-tail (λ t. t.count ≤ n) t tallies h))
