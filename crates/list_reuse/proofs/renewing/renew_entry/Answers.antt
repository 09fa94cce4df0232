use Rattle.std.proofs.Common.{sym, ◌∙◌, ap, set}
use Rattle.std.proofs.lemmas.Option.{slice_get_within}
use Rattle.pf_model.specs.declared.entry.Entry.{Entry}
use Rattle.pf_model.specs.declared.entry.Entry.TheVariants.{Cell, One}
use Rattle.list_reuse.specs.Renewing.{with_group}
use Rattle.list_reuse.proofs.RenewLemmas.{entry_at, built_at}
use Rattle.list_reuse.proofs.GroupLemmas.{current_same, has_count, has_id, moment_given}
use Rattle.list_reuse.proofs.renewing.renew_entry.Goals as goal

pub set_moment-requires-clause-count : goal.set_moment-requires-clause-count
set_moment-requires-clause-count g c d l hl hd =
    let ls = c.args.lists.now in
    let e = built_at c.laws.ensures g.m ls c.args.parcels.now c.requires.0 c.args.group c.args.place l hl (slice_get_within l.entries c.args.place d hd) in
    has_count d c.in-Cell.field-0 c.in-Cell.moment
    (current_same c.laws.ensures g.m ls c.args.parcels.now c.requires.0 c.args.group c.args.place l e.0 d (Cell c.in-Cell.field-0 c.in-Cell.moment) hl e.1 hd (sym c.in-Cell.is ∙ c.entry_now.ensures l e.0 hl e.1))

pub set_body-requires-clause-id : goal.set_body-requires-clause-id
set_body-requires-clause-id g c d l hl hd =
    let ls = c.args.lists.now in
    let e = built_at c.laws.ensures g.m ls c.args.parcels.now c.requires.0 c.args.group c.args.place l hl (slice_get_within l.entries c.args.place d hd) in
    has_id d c.in-One.body
    (current_same c.laws.ensures g.m ls c.args.parcels.now c.requires.0 c.args.group c.args.place l e.0 d (One c.in-One.body) hl e.1 hd (sym c.in-One.is ∙ c.entry_now.ensures l e.0 hl e.1))

pub returns-in-Cell : goal.returns-in-Cell
returns-in-Cell g c l e hl he =
    let ls = c.args.lists.now in
    let d = entry_at c.laws.ensures g.m ls c.args.parcels.now c.requires.0 c.args.group c.args.place l e hl he in
    let cell = c.in-Cell.field-0 in
    let is = sym c.in-Cell.is ∙ c.entry_now.ensures l e hl he in
    c.set_moment.ensures d.0 l hl d.1
    ∙ ap (λ (v : Entry). with_group ls c.args.group (record l { entries = set l.entries c.args.place v }))
    (moment_given d.0 cell c.in-Cell.moment (current_same c.laws.ensures g.m ls c.args.parcels.now c.requires.0 c.args.group c.args.place l e d.0 (Cell cell c.in-Cell.moment) hl he d.1 is) ∙ is)

pub returns-in-One : goal.returns-in-One
returns-in-One g c l e hl he =
    let ls = c.args.lists.now in
    let d = entry_at c.laws.ensures g.m ls c.args.parcels.now c.requires.0 c.args.group c.args.place l e hl he in
    c.set_body.ensures d.0 l hl d.1
    ∙ ap (λ (v : Entry). with_group ls c.args.group (record l { entries = set l.entries c.args.place v }))
    (sym c.in-One.is ∙ c.entry_now.ensures l e hl he)
