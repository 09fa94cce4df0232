use Rattle.std.proofs.Common.{◌≡◌}
use Rattle.particle_file.proofs.ReadSoFar.{IsReadSoFar}
use Rattle.particle_file.proofs.reading.bodies_in.Given as goal

abbrev pub invariant-loop : goal.invariant-loop
invariant-loop l = record {
  so_far : IsReadSoFar l.fn.lines.count l.due l.fn.lines.ahead l.counter l.bodies.items l.lines.ahead l.ids;
  count : l.lines.count ≡ l.fn.lines.count;
}
