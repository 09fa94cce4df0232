use Rattle.std.proofs.Common.{◌≡◌, length, map, vec_len, All}
use Rattle.std.specs.List.{range_with_len}
use Rattle.all_to_all.specs.Opening.{IsOpenTo, IsHandedOut, IsColumnOf}
use Rattle.all_to_all.proofs.opening.open.Given as goal

abbrev pub invariant-loop-rank : goal.invariant-loop-rank
invariant-loop-rank g l = IsOpenTo g.M.Named.source g.M.Named.target g.M.Named.has_terms l.rank l.ranks l.opening.inboxes.items l.opening.posts.items l.opening.columns.items

abbrev pub invariant-loop-column : goal.invariant-loop-column
invariant-loop-column g l = record {
  count : length l.opening.inboxes.items ≡ l.ranks;
  handed : IsHandedOut g.M.Named.source g.M.Named.target g.M.Named.has_terms (length l.opening.columns.items) l.opening.inboxes.items l.opening.posts.items;
  columns_fit : All (IsColumnOf (length l.opening.inboxes.items) l.opening.inboxes.items) l.opening.columns.items;
  columns_are : map (λ c. c.target) l.opening.columns.items ≡ range_with_len 0 (length l.opening.columns.items);
}

abbrev pub decreases-loop-column : goal.decreases-loop-column
decreases-loop-column g l = vec_len l.opening.columns
