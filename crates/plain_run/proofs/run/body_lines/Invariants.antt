use Rattle.std.proofs.Common.{◌≡◌, map, take}
use Rattle.run_model.specs.Text.{body_row}
use Rattle.plain_run.proofs.run.body_lines.Given as goal

abbrev pub invariant-loop-forced : goal.invariant-loop-forced
invariant-loop-forced l = l.lines.items ≡ map (body_row l.run l.built) (take l.forced-index l.bodies)
