use Rattle.std.proofs.Common.{◌≡◌, ◌<◌, length, get_or, sym, ap, subst, arith}
use Rattle.std.proofs.lemmas.List.{length_push, get_or_default}
use Rattle.pf_model.specs.declared.entry.Entry.{Entry}
use Rattle.tree_lists.specs.Pieces.{IsPieceOf}
use Rattle.tree_lists.proofs.ListingLemmas.{no_piece, IsEntryAt, each_pushed, entries_are}
use Rattle.tree_lists.proofs.listing.entries_of.Goals as goal

pub loop-piece-preserved : goal.loop-piece-preserved
loop-piece-preserved c =
    let before = c.loop-piece.invariant in
    let pushed = c.in_ok-push.ensures.items in
    let js = c.args.tree.now.built in
    let qs = c.args.pieces.now in
    let n = c.loop-piece.piece-index in
    let within : n < length qs = c.loop-piece-test.true in (
      (let long = ap length pushed in let more = length_push c.loop-piece.entries.items c.entry_of.result in let count = before.0 in omega arith),
      λ t box pieces.
          let of = pieces n no_piece within in
          let is : c.entry_of.result ≡ of.0 = c.entry_of.ensures t box of.0 of.1 in
          each_pushed (IsEntryAt t box js qs) c.loop-piece.entries.items c.push.new.self.items c.entry_of.result n pushed before.0 (before.1 t box pieces)
          (λ q. (let P : Entry → Type 0 = λ e. IsPieceOf t box js e (get_or qs n q) in subst P (sym is) (subst (IsPieceOf t box js of.0) (get_or_default qs n no_piece q within) of.1))),
    )

pub returns : goal.returns
returns c = λ t box pieces.
    let after = c.loop-piece.invariant in
    let done = c.loop-piece-test.false in
    let end = c.loop-piece.auto.piece-index-end in
    entries_are t box c.args.tree.now.built c.loop-piece.entries.items c.args.pieces.now (let count = after.0 in omega arith) (after.1 t box pieces)
