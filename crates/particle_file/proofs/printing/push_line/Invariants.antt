use Rattle.std.proofs.Common.{◌≡◌, ◌∷◌, ◌++◌, take}
use Rattle.std.specs.Fmt.{decimal, signed_decimal}
use Rattle.std.specs.List.{flat_map}
use Rattle.particle_file.proofs.printing.push_line.Given as goal

-- the id, and each of the other numbers so far after a space
abbrev pub invariant-loop-number : goal.invariant-loop-number
invariant-loop-number l = l.out.items ≡ l.fn.out.items ++ (decimal l.fn.body.id ++ flat_map (λ n. 32 ∷ signed_decimal n) (take l.number-index l.number-items))
