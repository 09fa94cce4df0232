use Rattle.std.proofs.Common.{◌≡◌, codes, decimal, rules}
use Rattle.run_model.specs.StepText.{rank_line}
use Rattle.dump_text.proofs.PushedText.{rank_pushed}
use Rattle.dump_text.proofs.writing.push_rank_line.Goals as goal

pub returns : goal.returns
unfolding rank_line
returns c =
    let line = c.args.line in
    let particles : c.from.result ≡ line.particles = search rules in
    let groups : c.from-2.result ≡ line.groups = search rules in
    let cells : c.from-3.result ≡ line.cells = search rules in
    let parts : c.from-4.result ≡ line.parts = search rules in
    rank_pushed _ (codes "rank ") (decimal c.args.rank) (codes " particles ") (decimal line.particles) (codes " groups ") (decimal line.groups)
    (codes " cells ") (decimal line.cells) (codes " parts ") (decimal line.parts) (codes " listcells ") (decimal line.listcells)
    (codes " listparts ") (decimal line.listparts) (codes "\n") _ _ _ _ _ _ _ _
    c.in_ok-push_labelled.ensures (rw particles at c.in_ok-push_labelled-2.ensures) (rw groups at c.in_ok-push_labelled-3.ensures)
    (rw cells at c.in_ok-push_labelled-4.ensures) (rw parts at c.in_ok-push_labelled-5.ensures) c.in_ok-push_labelled-6.ensures
    c.in_ok-push_labelled-7.ensures c.in_ok-push.ensures.items
