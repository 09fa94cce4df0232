use Rattle.std.proofs.Common.{length, unwrap_or, sym, ◌∙◌, ap, subst, arith}
use Rattle.pf_model.specs.declared.entry.Entry.TheVariants.{One}
use Rattle.group_lists.specs.Whole.{GroupList}
use Rattle.list_reuse.specs.Renewing.{IsSameEntry, entry_now}
use Rattle.list_reuse.proofs.RenewLemmas.{some_at, field_at}
use Rattle.list_reuse.proofs.GroupLemmas.{cell_now, same_particle, kind_at}
use Rattle.list_reuse.proofs.renewing.entry_now.Goals as goal

pub bounds-entries-place : goal.bounds-entries-place
bounds-entries-place g c =
    let ls = c.args.lists.now in
    let l = some_at ls.groups c.args.group c.requires.1.1.0 in
    let long = ap length (field_at (λ (v : GroupList). v.entries) ls.groups c.args.group l.0 c.entries.result.now l.1 c.entries.ensures.value) in
    let below = c.requires.1.1.1 l.0 l.1 in
    omega arith

pub returns-in-Cell : goal.returns-in-Cell
returns-in-Cell g c l e hl he =
    let ls = c.args.lists.now in
    let entries = field_at (λ (v : GroupList). v.entries) ls.groups c.args.group l c.entries.result.now hl c.entries.ensures.value in
    let kind = kind_at c.laws.ensures g.m ls c.args.parcels.now c.requires.0 c.args.group c.args.place l e c.index-entries-place.result c.entries.result.now hl he entries (c.requires.1.1.1 l hl) c.index-entries-place.is in
    cell_now g.m ls.built l e c.in-Cell.cell c.in-Cell.field-1 c.moment_now.result (subst (IsSameEntry e) c.in-Cell.is kind) (c.moment_now.ensures l e hl he)

pub returns-in-One : goal.returns-in-One
returns-in-One g c l e hl he =
    let ls = c.args.lists.now in
    let entries = field_at (λ (v : GroupList). v.entries) ls.groups c.args.group l c.entries.result.now hl c.entries.ensures.value in
    let kind = kind_at c.laws.ensures g.m ls c.args.parcels.now c.requires.0 c.args.group c.args.place l e c.index-entries-place.result c.entries.result.now hl he entries (c.requires.1.1.1 l hl) c.index-entries-place.is in
    let p = same_particle e c.in-One.body (subst (IsSameEntry e) c.in-One.is kind) in
    let found = c.body_now-found.ensures l e hl he p.0 p.1 in
    ap One (c.unwrap_or.ensures ∙ ap (λ o. unwrap_or o c.in-One.body) found)
    ∙ ap (entry_now g.m ls.built l) (sym p.1)
