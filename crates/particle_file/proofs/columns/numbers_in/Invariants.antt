use Rattle.std.proofs.Common.{◌≡◌, ◌+◌, length, take, drop}
use Rattle.particle_file.specs.Columns.{columns}
use Rattle.particle_file.specs.Reading.{numbers_in}
use Rattle.particle_file.proofs.ReadingLemmas.{after_front}
use Rattle.particle_file.proofs.columns.numbers_in.Given as goal

-- the numbers of the columns so far stand before those of the other columns
abbrev pub invariant-loop-i : goal.invariant-loop-i
invariant-loop-i l = record {
  twelve : length l.numbers ≡ 12;
  so_far : numbers_in l.fn.line.number 1 columns l.fn.line.fields ≡ after_front (take l.i l.numbers) (numbers_in l.number (l.i + 1) (drop l.i columns) l.fields);
}
