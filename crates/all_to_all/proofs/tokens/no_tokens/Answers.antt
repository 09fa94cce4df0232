use Rattle.std.proofs.Common.{◌≡◌, List, [], map, Vec, Global, arith}
use Rattle.std.proofs.lemmas.List.{length-map}
use Rattle.std.proofs.lemmas.List.Elements.{All-map}
use Rattle.let_inbox.specs.declared.tokens.Spent.{Spent}
use Rattle.all_to_all.proofs.Collecting.{none_below}
use Rattle.all_to_all.proofs.tokens.no_tokens.Goals as goal

pub returns-clause-tokens : goal.returns-clause-tokens
returns-clause-tokens g c =
    let M : Type 0 = g.row.M.Denot in
    let items : Vec (Spent M) Global → List (Spent M) = λ v. v.items in
    let lists = c.loop-inbox.lists.items in
    let done = c.loop-inbox-test.false in
    let end = c.loop-inbox.auto in
    let count = c.loop-inbox.invariant.count in
    let long = length-map lists items in
    none_below g.M.Named.source c.args.inboxes.now (map items lists) (omega arith) (All-map (λ list. list ≡ []) items lists c.loop-inbox.invariant.empty)
