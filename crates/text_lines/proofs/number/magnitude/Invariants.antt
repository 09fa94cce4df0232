use Rattle.std.proofs.Common.{◌≡◌, ◌-◌, ◌^◌, true, min, take}
use Rattle.std.specs.Str.{all_ascii_digits}
use Rattle.std.specs.Str.Parse.{digits_value}
use Rattle.text_lines.proofs.number.magnitude.Given as goal

abbrev pub invariant-loop-byte : goal.invariant-loop-byte
invariant-loop-byte l = record {
  digits_so_far : all_ascii_digits (take l.byte-index l.digits) ≡ true;
  value : l.number ≡ min (digits_value 10 (take l.byte-index l.digits)) (2 ^ 64 - 1);
}
