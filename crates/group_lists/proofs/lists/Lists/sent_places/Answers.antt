use Rattle.std.proofs.Common.{◌≡◌, ℕ, ◌<◌, List, length, map, slice_get, Some, sym, ◌∙◌, ap, subst, arith}
use Rattle.std.specs.List.{range_with_len}
use Rattle.std.specs.List.Sorted.{IsPermutation}
use Rattle.std.proofs.lemmas.List.FromFn.{length-range_with_len}
use Rattle.std.proofs.lemmas.List.Sorted.{length_permutation}
use Rattle.group_lists.specs.declared.kept_source.KeptSource.{KeptSource}
use Rattle.group_lists.specs.Indexed.{IsKept, source_items}
use Rattle.group_lists.specs.Listing.{Listing, SourceItems}
use Rattle.group_lists.proofs.ElementLemmas.{map-map}
use Rattle.group_lists.proofs.GatherLemmas.{read_through, place_within}
use Rattle.group_lists.proofs.ListsLemmas.{there_at, same_some}
use Rattle.group_lists.proofs.lists.Lists.sent_places.Goals as goal

pub returns-clause-value : goal.returns-clause-value
returns-clause-value c =
    let sources = c.self.inside.sources.items in
    let are = ap (λ (s : Listing). s.sources) c.self.view_is in
    let x = c.index.result.now in
    let within : c.args.source < length sources = place_within source_items sources c.args.self.now.sources c.args.source are c.requires in
    let places : map (λ s. s.places) c.args.self.now.sources ≡ map (λ s. s.places.items) sources =
    ap (map (λ (s : SourceItems). s.places)) (sym are) ∙ map-map (λ (s : SourceItems). s.places) source_items sources in
    ap (λ (ns : List (List ℕ)). slice_get ns c.args.source) places ∙ read_through (λ (s : KeptSource). s.places.items) sources c.args.source x within c.index.ensures ∙ ap Some (sym c.deref.ensures.value)

-- what is kept of the source
kept : (c : goal.After-deref) → IsKept c.index.result.now
kept c =
    let sources = c.self.inside.sources.items in
    let are = ap (λ (s : Listing). s.sources) c.self.view_is in
    let within : c.args.source < length sources = place_within source_items sources c.args.self.now.sources c.args.source are c.requires in
    c.self.invariant.kept c.index.result.now (there_at sources c.args.source c.index.result.now within c.index.ensures)

-- there are as many places as items
as_long : (c : goal.After-deref) → length c.index.result.now.items.items ≡ length c.deref.result.now
as_long c =
    let items = c.index.result.now.items.items in
    sym (length-range_with_len 0 (length items)) ∙ sym (length_permutation (range_with_len 0 (length items)) c.index.result.now.places.items (kept c).each_once) ∙ sym (ap length c.deref.ensures.value)

pub returns-clause-each_once : goal.returns-clause-each_once
returns-clause-each_once c =
    subst (λ (n : ℕ). IsPermutation (range_with_len 0 n) c.deref.result.now) (as_long c)
    (subst (IsPermutation (range_with_len 0 (length c.index.result.now.items.items))) (sym c.deref.ensures.value) (kept c).each_once)

pub returns-clause-few : goal.returns-clause-few
returns-clause-few c = (let few = (kept c).found.few in let long = as_long c in omega arith)

pub returns-clause-items : goal.returns-clause-items
returns-clause-items c = λ s at_s.
    let sources = c.self.inside.sources.items in
    let are = ap (λ (s : Listing). s.sources) c.self.view_is in
    let x = c.index.result.now in
    let within : c.args.source < length sources = place_within source_items sources c.args.self.now.sources c.args.source are c.requires in
    let same : source_items x ≡ s = same_some _ _ (sym (ap (λ (ss : List SourceItems). slice_get ss c.args.source) (sym are) ∙ read_through source_items sources c.args.source x within c.index.ensures) ∙ at_s) in
    sym (ap (λ (r : SourceItems). length r.items) same) ∙ as_long c
