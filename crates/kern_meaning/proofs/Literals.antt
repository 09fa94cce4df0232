-- The value of a literal, by whether it is an i64.
use Rattle.std.proofs.Common.{◌≡◌, ℕ, ◌<◌, ◌≤◌, ◌^◌, true, false, pos, Ok, Err, ap, arith}
use Rattle.std.proofs.lemmas.Bool.Decides.{nat_tests}
use Rattle.std.proofs.lemmas.Bool.{cond-true, cond-false}
use Rattle.pf_num.specs.Exact.{exact, is_i64}
use Rattle.pf_num.specs.declared.fault.NumFault.TheVariants.{Overflow}
use Rattle.kern_meaning.specs.declared.stop.Stop.TheVariants.{Fault}
use Rattle.kern_meaning.specs.declared.value.Value.TheVariants.{Num}
use Rattle.kern_meaning.specs.Operators.{literal_value, num}

is_small : (m : ℕ) → m < 2 ^ 63 → is_i64 (pos m) ≡ true
is_small m h = grind (arith, nat_tests)

is_large : (m : ℕ) → 2 ^ 63 ≤ m → is_i64 (pos m) ≡ false
is_large m h = grind (arith, nat_tests)

exact_small : (m : ℕ) → m < 2 ^ 63 → exact (pos m) ≡ Ok (pos m)
unfolding exact
exact_small m h = cond-true (is_i64 (pos m)) (Ok (pos m)) (Err Overflow) (is_small m h)

exact_large : (m : ℕ) → 2 ^ 63 ≤ m → exact (pos m) ≡ Err Overflow
unfolding exact
exact_large m h = cond-false (is_i64 (pos m)) (Ok (pos m)) (Err Overflow) (is_large m h)

pub literal_value-small : (m s : ℕ) → m < 2 ^ 63 → literal_value m s ≡ Ok (Num (pos m) s)
literal_value-small m s h = ap (num s) (exact_small m h)

pub literal_value-large : (m s : ℕ) → 2 ^ 63 ≤ m → literal_value m s ≡ Err (Fault Overflow)
literal_value-large m s h = ap (num s) (exact_large m h)

pub ruleset literals = (literal_value-small, literal_value-large)
