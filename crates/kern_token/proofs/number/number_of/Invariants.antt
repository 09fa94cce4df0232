use Rattle.std.proofs.Common.{◌≡◌, ◌<◌, ◌^◌, take}
use Rattle.std.specs.Str.Parse.{digits_value}
use Rattle.kern_token.proofs.number.number_of.Given as goal

-- the number is the value of the digits so far, and below the limit
abbrev pub invariant-loop-byte : goal.invariant-loop-byte
invariant-loop-byte l = record { value : l.number ≡ digits_value 10 (take l.byte-index l.digits); small : l.number < 2 ^ 63 }
