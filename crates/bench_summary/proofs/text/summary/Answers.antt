use Rattle.std.proofs.Common.{◌≡◌, codes, decimal, rules}
use Rattle.bench_summary.specs.Summary.{summary_text}
use Rattle.bench_summary.proofs.SaidText.{lines_pushed}
use Rattle.bench_summary.proofs.text.summary.Goals as goal

pub returns : goal.returns
unfolding summary_text
returns c =
    let tally = c.args.tally.now in
    let count : c.from.result ≡ c.args.count = search rules in
    let seed : c.from-2.result ≡ c.args.seed = search rules in
    let digest : c.from-3.result ≡ tally.digest = search rules in
    lines_pushed (codes "bench particles ") (decimal c.args.count) (codes " seed ") (decimal c.args.seed) (codes "groups ") (decimal tally.counts.groups)
    (codes "listcells ") (decimal tally.counts.listcells) (codes "listparts ") (decimal tally.counts.listparts) (codes "bytes ") (decimal tally.bytes)
    (codes "digest ") (decimal tally.digest) (codes "\n") _ _ _ _ _ _ _
    (let first = rw (c.new-out.ensures.items, count) at c.in_ok-push_labelled.ensures in first) (rw seed at c.in_ok-push_line.ensures) c.in_ok-push_line-2.ensures
    c.in_ok-push_line-3.ensures c.in_ok-push_line-4.ensures c.in_ok-push_line-5.ensures (rw digest at c.in_ok-push_line-6.ensures)
