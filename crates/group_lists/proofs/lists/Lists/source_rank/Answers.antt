use Rattle.std.proofs.Common.{◌≡◌, ℕ, ◌<◌, List, length, map, slice_get, sym, ◌∙◌, ap}
use Rattle.group_lists.specs.declared.kept_source.KeptSource.{KeptSource}
use Rattle.group_lists.specs.Indexed.{source_items}
use Rattle.group_lists.specs.Listing.{Listing, SourceItems}
use Rattle.group_lists.proofs.ElementLemmas.{map-map}
use Rattle.group_lists.proofs.GatherLemmas.{read_through, place_within}
use Rattle.group_lists.proofs.lists.Lists.source_rank.Goals as goal

pub returns : goal.returns
returns c =
    let sources = c.self.inside.sources.items in
    let are = ap (λ (s : Listing). s.sources) c.self.view_is in
    let x = c.index.result.now in
    let within : c.args.source < length sources = place_within source_items sources c.args.self.now.sources c.args.source are c.requires in
    let ranks : map (λ s. s.src) c.args.self.now.sources ≡ map (λ s. s.src) sources =
    ap (map (λ (s : SourceItems). s.src)) (sym are) ∙ map-map (λ (s : SourceItems). s.src) source_items sources in
    ap (λ (ns : List ℕ). slice_get ns c.args.source) ranks ∙ read_through (λ (s : KeptSource). s.src) sources c.args.source x within c.index.ensures
