-- The pairs of a particle added up, as far as a loop over its partners has come.
use Rattle.std.proofs.Common.{◌≡◌, ℕ, ◌+◌, ◌*◌, ◌^◌, ◌<◌, ◌≤◌, true, false, List, [], ◌∷◌, length, get_or, take, drop, ◌++◌, Option, Some, None, Ok, Err, refl, sym, ap, subst, ◌∙◌, arith}
use Rattle.std.specs.List.{All}
use Rattle.std.proofs.lemmas.List.{take_all, drop_all, append-nil}
use Rattle.std.proofs.lemmas.List.Elements.{All-nil, All-cons, All-weaker}
use Rattle.pf_geom.specs.declared.edge.Edge.{Edge}
use Rattle.pf_model.specs.declared.limits.TheConstants.{MOST_PARTICLES}
use Rattle.pf_model.specs.Particle.{Particle}
use Rattle.pf_model.specs.Totals.{Source}
use Rattle.kern_tree.specs.declared.kernel.Kernel.{Kernel}
use Rattle.kern_types.specs.declared.force_var.ForceVar.{ForceVar}
use Rattle.kern_types.specs.Declarations.{forces_of}
use Rattle.kern_meaning.specs.declared.fault.PairFault.{PairFault}
use Rattle.kern_meaning.specs.declared.stop.PairStop.TheVariants as stops
use Rattle.kern_meaning.specs.declared.value.Value.{Value}
use Rattle.kern_meaning.specs.Pair.{OrPairStop, pair_of}
use Rattle.kern_meaning.specs.Prepared.{Prepared, IsMadeFor}
use Rattle.run_model.specs.declared.fault.What.TheVariants as what
use Rattle.run_model.specs.Force.{first_given, pair_fault, received, exerted}
use Rattle.force_phase.specs.declared.partner.Partner.{Partner}
use Rattle.force_phase.specs.Gathered.{IsReady, each_with, with_given, with_pairs, nothing_yet}
use Rattle.force_phase.specs.Partner.{is_another, pair_by, pairs_by}
use Rattle.force_phase.specs.Tally.{Tallied}
use Rattle.force_phase.proofs.RowSteps.{from_drop}
use Rattle.force_phase.proofs.PairLemmas.{is_pair, is_self, no_fault_yet, gathers, each_of_none, few_more, length-each_with}

abbrev APair : Type 0
APair = OrPairStop (List (Option Value))

-- what the rest of the partners still gives makes of these tallies what all of them make of nothing
pub record IsUnderWay (edge : Edge) (kernel : Kernel) (i : Particle) (partners : List Partner) (k : ℕ) (scratch : Prepared) (targets : List (List ℕ)) (tallies : List Tallied) : Type 0 where
  pub ready : IsReady kernel scratch targets (length tallies)
  pub fault : first_given pair_fault (pairs_by edge kernel i (drop k partners)) ≡ first_given pair_fault (pairs_by edge kernel i partners)
  pub gathered : each_with (with_pairs kernel (pairs_by edge kernel i (drop k partners))) (forces_of kernel.decls) tallies
      ≡ each_with (with_pairs kernel (pairs_by edge kernel i partners)) (forces_of kernel.decls) (nothing_yet (forces_of kernel.decls))
  pub few : All (λ t. t.count ≤ k * 2 ^ 32) tallies

few_at_first : (forces : List ForceVar) → All (λ t. t.count ≤ 0 * 2 ^ 32) (nothing_yet forces)
few_at_first [] = All-nil (λ t. t.count ≤ 0 * 2 ^ 32)
few_at_first (v ∷ forces) = All-cons (λ t. t.count ≤ 0 * 2 ^ 32) _ (nothing_yet forces) (omega arith) (few_at_first forces)

-- what is written through a slice of all elements of a vector
pub written_back : {X : Type 0} (new old : List X) (n : ℕ) → length new ≡ n → length old ≤ n → take n (new ++ drop (length new) old) ≡ new
written_back new old n e h =
    let none : drop (length new) old ≡ [] = drop_all (length new) old (omega arith) in
    ap (λ l. take n (new ++ l)) none ∙ ap (take n) (append-nil new) ∙ take_all n new (omega arith)

-- the pair of a particle and an item as the kernel gets them
pub pair_seen : (edge : Edge) (kernel : Kernel) (i : Particle) (p : Partner) (taken : Particle) (item : Source) (answer : APair) → taken ≡ received edge i → item ≡ exerted edge i.at p.item
    → pair_of kernel taken item ≡ answer → pair_by edge kernel i p ≡ answer
pair_seen edge kernel i p taken item answer a b h = sym (ap (λ (x : Particle). pair_of kernel x item) a ∙ ap (pair_of kernel (received edge i)) b) ∙ h

module _ (edge : Edge) (kernel : Kernel) (i : Particle) (partners : List Partner) where
  pub begins : (scratch : Prepared) (targets : List (List ℕ)) (tallies : List Tallied) → IsReady kernel scratch targets (length tallies) → tallies ≡ nothing_yet (forces_of kernel.decls)
      → IsUnderWay edge kernel i partners 0 scratch targets tallies
  begins scratch targets tallies ready e =
      let P : List Tallied → Type 0 = λ ts. All (λ t. t.count ≤ 0 * 2 ^ 32) ts in
      record {
        ready = ready;
        fault = refl;
        gathered = ap (each_with (with_pairs kernel (pairs_by edge kernel i partners)) (forces_of kernel.decls)) e;
        few = subst P (sym e) (few_at_first (forces_of kernel.decls));
      }

  module _ (k : ℕ) (scratch : Prepared) (targets : List (List ℕ)) (tallies : List Tallied) (now : IsUnderWay edge kernel i partners k scratch targets tallies) where
    pub has_room : k ≤ MOST_PARTICLES → All (λ t. t.count < 2 ^ 59) tallies
    has_room h = All-weaker (λ t. t.count ≤ k * 2 ^ 32) (λ t. t.count < 2 ^ 59) (λ t few. omega (arith, h, few)) tallies now.few

    pub ends : k ≡ length partners
        → (first_given pair_fault (pairs_by edge kernel i partners) ≡ None)
        × (tallies ≡ each_with (with_pairs kernel (pairs_by edge kernel i partners)) (forces_of kernel.decls) (nothing_yet (forces_of kernel.decls)))
    ends e =
        let none : drop k partners ≡ [] = drop_all k partners (omega (arith, e)) in (
          sym now.fault ∙ ap (λ rest. first_given pair_fault (pairs_by edge kernel i rest)) none,
          sym (each_of_none kernel (forces_of kernel.decls) tallies)
              ∙ ap (λ rest. each_with (with_pairs kernel (pairs_by edge kernel i rest)) (forces_of kernel.decls) tallies) (sym none) ∙ now.gathered,
        )

    module _ (p : Partner) (inside : k < length partners) (is : p ≡ get_or partners k p) where
      rest_is : drop k partners ≡ p ∷ drop (k + 1) partners
      rest_is = from_drop partners k p inside is

      pub after_itself : is_another i.id p.id ≡ false → IsUnderWay edge kernel i partners (k + 1) scratch targets tallies
      after_itself e =
          let same : pairs_by edge kernel i (drop k partners) ≡ pairs_by edge kernel i (drop (k + 1) partners) =
          ap (pairs_by edge kernel i) rest_is ∙ is_self edge kernel i p (drop (k + 1) partners) e in
          record {
            ready = now.ready;
            fault = ap (first_given pair_fault) (sym same) ∙ now.fault;
            gathered = ap (λ (pairs : List APair). each_with (with_pairs kernel pairs) (forces_of kernel.decls) tallies) (sym same) ∙ now.gathered;
            few = All-weaker (λ t. t.count ≤ k * 2 ^ 32) (λ t. t.count ≤ (k + 1) * 2 ^ 32) (λ t h. omega (arith, h)) tallies now.few;
          }

      pub after_pair : (new : Prepared) (tallies' : List Tallied) (slots : ℕ) → is_another i.id p.id ≡ true → IsMadeFor kernel new → pair_by edge kernel i p ≡ Ok new.given → slots ≡ length new.given → slots < 2 ^ 32
          → tallies' ≡ each_with (with_given targets new.given) (forces_of kernel.decls) tallies
          → IsUnderWay edge kernel i partners (k + 1) new targets tallies'
      after_pair new tallies' slots e made gives count small gathered =
          let forces = forces_of kernel.decls in
          let P : List Tallied → Type 0 = λ ts. All (λ t. t.count ≤ k * 2 ^ 32 + slots) ts in
          let long : length tallies' ≡ length tallies = ap length gathered ∙ length-each_with (with_given targets new.given) forces tallies in
          let few = subst P (sym gathered) (few_more targets new.given forces tallies (k * 2 ^ 32) slots count now.few) in
          record {
            ready = record { made = made; targets = now.ready.targets; tallies = long ∙ now.ready.tallies };
            fault = sym (no_fault_yet edge kernel i p (drop (k + 1) partners) new.given e gives) ∙ ap (λ rest. first_given pair_fault (pairs_by edge kernel i rest)) (sym rest_is) ∙ now.fault;
            gathered =
                ap (each_with (with_pairs kernel (pairs_by edge kernel i (drop (k + 1) partners))) forces) gathered
                ∙ sym (gathers edge kernel i p (drop (k + 1) partners) new.given targets forces tallies e gives now.ready.targets)
                ∙ ap (λ rest. each_with (with_pairs kernel (pairs_by edge kernel i rest)) forces tallies) (sym rest_is) ∙ now.gathered;
            few = All-weaker (λ t. t.count ≤ k * 2 ^ 32 + slots) (λ t. t.count ≤ (k + 1) * 2 ^ 32) (λ t h. omega (arith, h, small)) tallies' few;
          }

      pub faults : (f : PairFault) → is_another i.id p.id ≡ true → pair_by edge kernel i p ≡ Err (stops.Fault f)
          → first_given pair_fault (pairs_by edge kernel i partners) ≡ Some (what.Pair f.kind f.statement)
      faults f e gives =
          sym now.fault ∙ ap (λ rest. first_given pair_fault (pairs_by edge kernel i rest)) rest_is
          ∙ ap (first_given pair_fault) (is_pair edge kernel i p (drop (k + 1) partners) e)
          ∙ ap (λ (x : APair). first_given pair_fault (x ∷ pairs_by edge kernel i (drop (k + 1) partners))) gives
