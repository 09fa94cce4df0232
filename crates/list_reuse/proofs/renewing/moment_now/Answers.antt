use Rattle.std.proofs.Common.{◌<◌, ◌≤◌, ℕ, ◌∙◌, subst}
use Rattle.list_reuse.proofs.RenewLemmas.{some_at, entry_at, built_at, first_sum, next_few, next_sum, all_sum, own_inside}
use Rattle.list_reuse.proofs.renewing.moment_now.Goals as goal

pub moment-moment-requires : goal.moment-moment-requires
moment-moment-requires g c =
    let ls = c.args.lists.now in
    let l = some_at ls.groups c.args.group c.requires.1.1.0 in
    let e = built_at c.laws.ensures g.m ls c.args.parcels.now c.requires.0 c.args.group c.args.place l.0 l.1 (c.requires.1.1.1 l.0 l.1) in
    let d = entry_at c.laws.ensures g.m ls c.args.parcels.now c.requires.0 c.args.group c.args.place l.0 e.0 l.1 e.1 in
    let inside = (c.own_in.ensures.exactly d.0 l.0 l.1 d.1).inside in
    own_inside g.m ls.built c.args.own.now c.requires.1.0 c.own_in.result inside

pub loop-source-init : goal.loop-source-init
loop-source-init g c l e hl he =
    let ls = c.args.lists.now in
    let d = entry_at c.laws.ensures g.m ls c.args.parcels.now c.requires.0 c.args.group c.args.place l e hl he in
    c.moment-moment.ensures
    ∙ first_sum c.laws.ensures g.m ls c.args.parcels.now c.requires.0 c.args.group c.args.place l e d.0 c.args.own.now c.own_in.result hl he d.2 c.requires.1.0 (c.own_in.ensures.bodies d.0 l hl d.1)

pub merge-moment-requires : goal.merge-moment-requires
merge-moment-requires g c =
    let ls = c.args.lists.now in
    let l = some_at ls.groups c.args.group c.requires.1.1.0 in
    let e = built_at c.laws.ensures g.m ls c.args.parcels.now c.requires.0 c.args.group c.args.place l.0 l.1 (c.requires.1.1.1 l.0 l.1) in
    let s = some_at ls.sources c.loop-source.source (subst (λ (n : ℕ). c.loop-source.source < n) c.sources-source-end.ensures c.loop-source-test.true) in
    next_few c.laws.ensures g.m ls c.args.parcels.now c.requires.0 c.args.group c.args.place c.loop-source.source l.0 e.0 s.0 c.loop-source.moment c.part_of.result l.1 e.1 s.1
    (c.loop-source.invariant l.0 e.0 l.1 e.1) (c.part_of.ensures l.0 e.0 l.1 e.1 s.0 s.1)

pub loop-source-preserved : goal.loop-source-preserved
loop-source-preserved g c l e hl he =
    let ls = c.args.lists.now in
    let s = some_at ls.sources c.loop-source.source (subst (λ (n : ℕ). c.loop-source.source < n) c.sources-source-end.ensures c.loop-source-test.true) in
    c.merge-moment.ensures
    ∙ next_sum c.laws.ensures g.m ls c.args.parcels.now c.requires.0 c.args.group c.args.place c.loop-source.source l e s.0 c.loop-source.moment c.part_of.result hl he s.1
    (c.loop-source.invariant l e hl he) (c.part_of.ensures l e hl he s.0 s.1)

pub returns : goal.returns
returns g c l e hl he =
    let ls = c.args.lists.now in
    c.loop-source.invariant l e hl he
    ∙ all_sum c.laws.ensures g.m ls c.args.parcels.now c.requires.0 c.args.group c.loop-source.source l e hl (subst (λ (n : ℕ). n ≤ c.loop-source.source) c.sources-source-end.ensures c.loop-source-test.false)
