use Rattle.std.proofs.Common.{◌≡◌, ◌+◌, List, length, map, All, Some, ap, sym, ◌∙◌, subst, arith}
use Rattle.std.specs.List.{range_with_len}
use Rattle.std.proofs.lemmas.List.{length-map}
use Rattle.std.proofs.lemmas.List.FromFn.{length-range_with_len}
use Rattle.std.proofs.lemmas.List.Elements.{All-pop}
use Rattle.let_inbox.specs.declared.inbox.Inbox.{Inbox}
use Rattle.all_to_all.specs.declared.opening.Column.{Column}
use Rattle.all_to_all.specs.Opening.{IsColumnOf, IsHandedOut, IsOpenTo}
use Rattle.all_to_all.proofs.Opened.{none_handed, column_last, all_handed}
use Rattle.all_to_all.proofs.Exchanged.{posts_counted, posts_fresh}
use Rattle.all_to_all.proofs.opening.open.Goals as goal

pub loop-column-init : goal.loop-column-init
loop-column-init g c =
    let M : Type 0 = g.row.M.Denot in
    let ranks = c.args.ranks in
    let inboxes = c.loop-rank.opening.inboxes.items in
    let posts = c.loop-rank.opening.posts.items in
    let columns = c.loop-rank.opening.columns.items in
    let done = c.loop-rank-test.false in
    let end = c.loop-rank.auto in
    let is : c.loop-rank.rank ≡ ranks = omega arith in
    let all = subst (λ k. IsOpenTo g.M.Named.source g.M.Named.target g.M.Named.has_terms k ranks inboxes posts columns) is c.loop-rank.invariant in
    let many : length columns ≡ ranks = sym (length-map columns (λ (c : Column M). c.target)) ∙ ap length all.columns_are ∙ length-range_with_len 0 ranks in
    record {
      count = all.count;
      handed = subst (λ k. IsHandedOut g.M.Named.source g.M.Named.target g.M.Named.has_terms k inboxes posts) (sym many) (none_handed g.M.Named.source g.M.Named.target g.M.Named.has_terms ranks inboxes posts columns all);
      columns_fit = subst (λ k. All (IsColumnOf k inboxes) columns) (sym all.count) all.columns_fit;
      columns_are = all.columns_are ∙ ap (range_with_len 0) (sym many);
    }

pub hand_out-requires-clause-column : goal.hand_out-requires-clause-column
hand_out-requires-clause-column g c =
    let inboxes = c.loop-column.opening.inboxes in
    let fits = (All-pop (IsColumnOf (length inboxes.items) inboxes.items) _ _ (Some c.in-Some.column) c.in-Some.ensures.items c.loop-column.invariant.columns_fit).1 in
    subst (λ k. IsColumnOf k inboxes.items c.in-Some.column) (sym inboxes.ok.0) fits

pub hand_out-requires-clause-above : goal.hand_out-requires-clause-above
hand_out-requires-clause-above g c =
    let last = column_last c.loop-column.opening.columns.items c.pop.new.self.items c.in-Some.column c.in-Some.ensures.items c.loop-column.invariant.columns_are in
    let is : length c.loop-column.opening.columns.items ≡ c.in-Some.column.target + 1 = omega arith in
    subst (λ k. IsHandedOut g.M.Named.source g.M.Named.target g.M.Named.has_terms k c.loop-column.opening.inboxes.items c.loop-column.opening.posts.items) is c.loop-column.invariant.handed

pub loop-column-preserved : goal.loop-column-preserved
loop-column-preserved g c =
    let M : Type 0 = g.row.M.Denot in
    let inv = c.loop-column.invariant in
    let inboxes = c.loop-column.opening.inboxes.items in
    let left = c.pop.new.self.items in
    let fits = (All-pop (IsColumnOf (length inboxes) inboxes) _ left (Some c.in-Some.column) c.in-Some.ensures.items inv.columns_fit).0 in
    let last = column_last c.loop-column.opening.columns.items left c.in-Some.column c.in-Some.ensures.items inv.columns_are in
    let done = c.in_ok-hand_out.ensures in
    let same : c.hand_out.new.self.inboxes.items ≡ inboxes = λ k. (done.inboxes k).items in
    let rest : c.hand_out.new.self.columns.items ≡ left = λ k. (done.rest k).items in
    record {
      count = ap length same ∙ inv.count;
      handed = subst (λ k. IsHandedOut g.M.Named.source g.M.Named.target g.M.Named.has_terms k c.hand_out.new.self.inboxes.items c.hand_out.new.self.posts.items) (last.0 ∙ ap length (sym rest)) done.here;
      columns_fit = subst (λ (z : List (Inbox M) × List (Column M)). All (IsColumnOf (length z.0) z.0) z.1) (λ k. (sym same k, sym rest k)) fits;
      columns_are = ap (map (λ (c : Column M). c.target)) rest ∙ last.1 ∙ ap (λ cs. range_with_len 0 (length cs)) (sym rest);
    }

pub returns-clause-of_inboxes : goal.returns-clause-of_inboxes
returns-clause-of_inboxes g c =
    let none = c.in_default.ensures.cases in
    let ok = c.loop-column.opening.columns.ok in
    (all_handed g.M.Named.source g.M.Named.target g.M.Named.has_terms c.args.ranks _ c.loop-column.opening.inboxes.items c.loop-column.opening.posts.items (omega arith) c.loop-column.invariant.count c.loop-column.invariant.handed).0

pub returns-clause-fresh : goal.returns-clause-fresh
returns-clause-fresh g c =
    let none = c.in_default.ensures.cases in
    let ok = c.loop-column.opening.columns.ok in
    (all_handed g.M.Named.source g.M.Named.target g.M.Named.has_terms c.args.ranks _ c.loop-column.opening.inboxes.items c.loop-column.opening.posts.items (omega arith) c.loop-column.invariant.count c.loop-column.invariant.handed).1

pub returns-clause-posts : goal.returns-clause-posts
returns-clause-posts g c =
    let none = c.in_default.ensures.cases in
    let ok = c.loop-column.opening.columns.ok in
    posts_counted g.M.Named.source g.M.Named.target g.M.Named.has_terms c.loop-column.opening.inboxes.items c.loop-column.opening.posts.items c.args.ranks c.loop-column.invariant.count (returns-clause-of_inboxes g c)

pub returns-clause-each : goal.returns-clause-each
returns-clause-each g c =
    posts_fresh g.M.Named.source g.M.Named.target g.M.Named.has_terms c.loop-column.opening.inboxes.items c.loop-column.opening.posts.items c.args.ranks c.loop-column.invariant.count (returns-clause-of_inboxes g c)
    (returns-clause-fresh g c)
