use Rattle.std.proofs.Common.{◌≡◌, List, map, sym, ◌∙◌, ap}
use Rattle.pf_model.specs.Particle.{Particle}
use Rattle.group_lists.specs.Listing.{Listing, with_bodies}
use Rattle.group_lists.specs.Indexed.{group_list}
use Rattle.group_lists.proofs.ElementLemmas.{map-map}
use Rattle.group_lists.proofs.lists.Lists.set_own.Goals as goal

pub returns : goal.returns
returns c =
    let own : List Particle = c.args.own.now in
    let before = c.self.inside.own.items in
    let listed = c.self.inside.listed.items in
    let groups : map (group_list c.copy_from_slice.new.self.items) listed ≡ map (with_bodies own) c.args.self.now.groups =
    ap (λ (js : List Particle). map (group_list js) listed) c.copy_from_slice.ensures.items ∙ sym (map-map (with_bodies own) (group_list before) listed)
    ∙ ap (λ (s : Listing). map (with_bodies own) s.groups) c.self.view_is in
    λ i. record { built = (c.self.view_is i).built; own = c.copy_from_slice.ensures.items i; groups = groups i; sources = (c.self.view_is i).sources }
