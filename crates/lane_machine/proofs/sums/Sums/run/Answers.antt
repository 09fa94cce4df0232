use Rattle.std.proofs.Common.{◌≡◌, ℕ, List, ◌+◌, ◌*◌, ◌^◌, length, sym, ap, subst, arith}
use Rattle.std.specs.List.{All}
use Rattle.lane_machine.specs.Sums.{IsCollected}
use Rattle.lane_machine.specs.Total.{Summed, AreFew}
use Rattle.lane_machine.proofs.BlockLemmas.{written_back}
use Rattle.lane_machine.proofs.TotalLemmas.{all_at_least}
use Rattle.lane_machine.proofs.sums.Sums.run.Goals as goal

back : (totals new kept room : List Summed) (items : ℕ) → totals ≡ new → kept ≡ room → IsCollected new room items → IsCollected totals kept items
back totals new kept room items e f h = subst (λ ts. IsCollected ts kept items) (sym e) (subst (λ ks. IsCollected new ks items) (sym f) h)

pub invariant_of-self-2 : goal.invariant_of-self-2
invariant_of-self-2 c =
    let totals = c.self.inside.totals in
    let kept = c.self.inside.kept in
    let items = c.self.inside.items in
    let count = length c.args.items.now in
    let new = c.run_or_keep.new.totals in
    let room = c.run_or_keep.new.kept in
    let totals_long : length new ≡ totals.len = omega (arith, c.run_or_keep.auto.totals, c.as_mut_slice-totals.ensures.len) in
    let kept_long : length room ≡ kept.len = omega (arith, c.run_or_keep.auto.kept, c.as_mut_slice-kept.ensures.len) in
    let totals_back = written_back new totals.items totals.len totals_long (omega (arith, totals.ok.0)) in
    let kept_back = written_back room kept.items kept.len kept_long (omega (arith, kept.ok.0)) in
    let few = c.in_ok-run_or_keep.ensures.added.few (items * 2 ^ 38)
    (subst (λ ts. All (AreFew (items * 2 ^ 38)) ts) (sym c.as_mut_slice-totals.ensures.value) c.self.invariant.few) in
    let all : IsCollected new room (items + count) = record {
      room = omega (
        arith,
        c.run_or_keep.auto.totals,
        c.run_or_keep.auto.kept,
        ap length c.as_mut_slice-totals.ensures.value,
        ap length c.as_mut_slice-kept.ensures.value,
        c.self.invariant.room,
      );
      limit = omega (arith, c.requires.few, ap (λ s. s.items) c.self.view_is);
      few = all_at_least (items * 2 ^ 38 + count * 2 ^ 38) ((items + count) * 2 ^ 38) new (omega arith) few;
    } in
    back _ new _ room (items + count) totals_back kept_back all
