use Rattle.std.proofs.Common.{◌≡◌, [], ◌∷◌, ◌++◌, length, take}
use Rattle.std.specs.Prelude.{codes}
use Rattle.std.specs.Fmt.{decimal}
use Rattle.std.specs.List.{flat_map}
use Rattle.text_lines.specs.Written.{written_line}
use Rattle.particle_file.specs.Printing.{number_fields}
use Rattle.particle_file.proofs.printing.print.Given as goal

-- the first two lines, and those of the particles so far
abbrev pub invariant-loop-body : goal.invariant-loop-body
invariant-loop-body l = l.out.items ≡ ((codes "particles 1\ncount " ++ decimal (length l.bodies)) ++ 10 ∷ []) ++ flat_map (λ p. written_line (number_fields p)) (take l.body-index l.bodies)
