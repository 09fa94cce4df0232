use Rattle.std.proofs.Common.{◌≡◌, ◌+◌, pos, to_z, of_z, w64, arith}
use Rattle.std.specs.Prelude.{slice_index_or}
use Rattle.std.proofs.lemmas.Int.{ints}
use Rattle.run_moves.proofs.MoveLemmas.{along_row}
use Rattle.run_moves.proofs.moves.acceleration.Goals as goal

pub returns : goal.returns
returns c =
    let x : to_z w64 (of_z w64 c.number.result) ≡ slice_index_or c.args.row.now c.args.place (pos 0) = omega (arith, ints) in
    let y : to_z w64 (of_z w64 c.number-2.result) ≡ slice_index_or c.args.row.now (c.args.place + 1) (pos 0) = omega (arith, ints) in
    let z : to_z w64 (of_z w64 c.number-3.result) ≡ slice_index_or c.args.row.now (c.args.place + 2) (pos 0) = omega (arith, ints) in
    along_row c.args.row.now c.args.place _ _ _ x y z
