use Rattle.std.proofs.Common.{◌≡◌, ◌∷◌, Some, take, map}
use Rattle.std.specs.List.{slice_get, flat_map}
use Rattle.pf_model.specs.declared.entry.Entry.{Entry}
use Rattle.pf_model.specs.Sums.{moment_of}
use Rattle.group_lists.specs.Whole.{GroupList}
use Rattle.group_lists.specs.Listing.{SourceItems}
use Rattle.list_reuse.specs.Renewing.{built_list, rank_members}
use Rattle.list_reuse.proofs.renewing.moment_now.Given as goal

abbrev pub ghost-part_of : goal.ghost-part_of
ghost-part_of g a = g.m

abbrev pub invariant-loop-source : goal.invariant-loop-source
invariant-loop-source g l =
    let ls = l.lists in
    (k : GroupList) (e : Entry) → slice_get ls.groups l.group ≡ Some k → slice_get (built_list g.m ls.built k) l.place ≡ Some e →
    l.moment ≡ moment_of (flat_map (rank_members g.m ls.built k e) (g.m.rank ∷ take l.source (map (λ (s : SourceItems). s.src) ls.sources)))
