use Rattle.std.proofs.Common.{◌≡◌, ◌∙◌, ◌++◌, [], true, sym, ap, arith, Some, flat_map, length}
use Rattle.std.proofs.lemmas.List.{length_push, append_assoc, flat_map_more}
use Rattle.std.proofs.lemmas.List.Elements.{All-pop}
use Rattle.claim_board.specs.Seats.{IsSeatOf, claimed_by, was_told}
use Rattle.claim_board.proofs.Keeps.{unites}
use Rattle.claim_board.proofs.board.Board.join_seats.Goals as goal

pub join_seat-requires : goal.join_seat-requires
join_seat-requires c = let one = c.args.self.now.one_word in
    let of_board = All-pop (IsSeatOf c.args.self.now) _ _ (Some c.in-Some-pop.field-0) c.in-Some-pop.ensures.items c.loop-other.invariant.of_board in (
      c.loop-other.invariant.table,
      of_board.1.place,
      c.in-Some-pop.field-0.no_slot,
      omega arith,
      unites c.args.self.now.table.shared.key _ _ _ _ c.loop-other.invariant.some,
    )

pub loop-other-preserved : goal.loop-other-preserved
loop-other-preserved c =
    let seat = c.in-Some-pop.field-0 in
    let left = c.pop-in-loop-other.new.self.items in
    let items = c.in-Some-pop.ensures.items in
    let inv = c.loop-other.invariant in
    let me = c.join_seat.ensures.2 in
    let of_board = All-pop (IsSeatOf c.args.self.now) _ _ (Some seat) items inv.of_board in
    let told = All-pop (λ s. was_told s ≡ true) _ _ (Some seat) items inv.all_told in
    let share = ap (λ m. m.0.share) me in
    let nones = ap (λ m. m.0.nones) me in
    let one = seat.one_share in
    let fewer = ap length items ∙ length_push left seat in
    let shares = inv.shares in
    let some = inv.some in
    let told_before = inv.told in
    record {
      table = c.join_seat.ensures.0 ∙ inv.table;
      total = ap (λ m. m.0.total) me ∙ inv.total;
      shares = omega arith;
      some = omega arith;
      claimed = ap (λ m. flat_map claimed_by left ++ m.0.claimed) me
          ∙ sym (append_assoc (flat_map claimed_by left) (claimed_by seat) c.loop-other.place.me.0.claimed)
          ∙ ap (λ xs. xs ++ c.loop-other.place.me.0.claimed) (flat_map_more claimed_by [] left seat ∙ sym (ap (flat_map claimed_by) items))
          ∙ inv.claimed;
      told = omega arith;
      of_board = of_board.0;
      all_told = told.0;
    }
