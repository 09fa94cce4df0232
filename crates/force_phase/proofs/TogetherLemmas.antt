-- What two workers found is what is found in the groups of both.
use Rattle.std.proofs.Common.{◌≡◌, ℕ, ◌+◌, List, [], ◌∷◌, ◌++◌, Option, Some, None, map, sym, ap, subst, ◌∙◌, refl, arith}
use Rattle.std.specs.Prelude.{slice_get}
use Rattle.std.specs.List.{range_with_len, filter_map}
use Rattle.std.proofs.lemmas.Grind.{flat_map-append}
use Rattle.std.proofs.lemmas.List.{append-nil, map-id, map_push}
use Rattle.std.proofs.lemmas.List.Elements.{filter_map-append}
use Rattle.std.proofs.lemmas.List.FromFn.{map-range_with_len_more}
use Rattle.pf_geom.specs.declared.edge.Edge.{Edge}
use Rattle.kern_tree.specs.declared.kernel.Kernel.{Kernel}
use Rattle.group_lists.specs.Whole.{GroupList}
use Rattle.run_model.specs.declared.fault.Fault.{Fault}
use Rattle.run_model.specs.Force.{force_row}
use Rattle.force_phase.specs.declared.phase.Claims.{Claims}
use Rattle.force_phase.specs.Claims.{groups_claimed}
use Rattle.force_phase.specs.Finished.{IsLeastOrNone, IsFoundIn}
use Rattle.force_phase.specs.Found.{FoundSoFar, least_of_two, of_both}
use Rattle.force_phase.specs.Phase.{rows_in, faults_in, fault_of}
use Rattle.force_phase.specs.Working.{groups_at}
use Rattle.force_phase.proofs.FoundLemmas.{least_of_both}

least_of_all : (xs ys : List Fault) (o p : Option Fault) → IsLeastOrNone xs o → IsLeastOrNone ys p → IsLeastOrNone (xs ++ ys) (least_of_two o p)
least_of_all xs ys o None first second = subst (λ zs. IsLeastOrNone zs o) (sym (ap (λ zs. xs ++ zs) second ∙ append-nil xs)) first
least_of_all xs ys o (Some fault) first second = least_of_both xs ys o fault first second

none_first : (o p : Option Fault) → least_of_two o p ≡ None → o ≡ None
none_first o None e = e
none_first o (Some fault) e = absurd (cc)

none_second : (o p : Option Fault) → least_of_two o p ≡ None → p ≡ None
none_second o None e = refl
none_second o (Some fault) e = absurd (cc)

pub found_both : (edge : Edge) (kernel : Kernel) (xs ys : List GroupList) (f g : FoundSoFar) → IsFoundIn edge kernel xs f → IsFoundIn edge kernel ys g → IsFoundIn edge kernel (xs ++ ys) (of_both f g)
found_both edge kernel xs ys f g first second = record {
  least = subst (λ faults. IsLeastOrNone faults (least_of_two f.least g.least))
      (sym (flat_map-append (λ l. filter_map (fault_of edge kernel l) l.bodies) xs ys))
      (least_of_all (faults_in edge kernel xs) (faults_in edge kernel ys) f.least g.least first.least second.least);
  rows = λ none.
      ap (λ l. l ++ g.rows) (first.rows (none_first f.least g.least none))
      ∙ ap (λ l. rows_in edge kernel xs ++ l) (second.rows (none_second f.least g.least none))
      ∙ sym (flat_map-append (λ l. map (λ i. record { id = i.id; row = force_row edge kernel l.entries i }) l.bodies) xs ys);
}

pub groups_of_both : (groups : List GroupList) (xs ys : List ℕ) → groups_at groups (xs ++ ys) ≡ groups_at groups xs ++ groups_at groups ys
groups_of_both groups xs ys = filter_map-append (slice_get groups) xs ys

-- the groups claimed by one worker more
pub claimed_more : (claims now : List Claims) (c : Claims) → now ≡ claims ++ c ∷ [] → groups_claimed now ≡ groups_claimed claims ++ c.groups.items
claimed_more claims now c e =
    ap groups_claimed e ∙ flat_map-append (λ (d : Claims). d.groups.items) claims (c ∷ []) ∙ ap (λ l. groups_claimed claims ++ l) (append-nil c.groups.items)

range_more : (n : ℕ) → range_with_len 0 (n + 1) ≡ range_with_len 0 n ++ n ∷ []
range_more n =
    sym (map-id (range_with_len 0 (n + 1))) ∙ map-range_with_len_more (λ (k : ℕ). k) 0 n n (omega arith) ∙ ap (λ l. l ++ n ∷ []) (map-id (range_with_len 0 n))

-- the numbers of workers with the next one
pub numbers_more : (claims now : List Claims) (c : Claims) (n m : ℕ) → now ≡ claims ++ c ∷ [] → map (λ d. d.worker) claims ≡ range_with_len 0 n → c.worker ≡ n → m ≡ n + 1 → map (λ d. d.worker) now ≡ range_with_len 0 m
numbers_more claims now c n m e before is next =
    ap (map (λ (d : Claims). d.worker)) e ∙ map_push (λ (d : Claims). d.worker) claims c
    ∙ ap (λ l. l ++ c.worker ∷ []) before ∙ ap (λ k. range_with_len 0 n ++ k ∷ []) is
    ∙ sym (ap (range_with_len 0) next ∙ range_more n)
