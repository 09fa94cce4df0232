-- Keys made and read from the highest bit down.
use Rattle.std.proofs.Common.{◌≡◌, ℕ, zero, suc, ◌+◌, ◌-◌, ◌*◌, ◌/◌, ◌%◌, ◌^◌, ◌<◌, ◌≤◌, refl, sym, ap, ◌∙◌, arith, bit_and}
use Rattle.std.proofs.Math.Nat.{pow-suc, div-div-eq-div-mul, pow-le-pow_right}
use Rattle.std.proofs.lemmas.Nat.{shr-shr}
use Rattle.std.proofs.lemmas.Nat.Bits.{shr_and_one}
use Rattle.pf_geom.specs.Key.{spread_bits, every_third_bit}
use Rattle.pf_geom.proofs.KeyBits.{spread_bits-suc, spread_bits-bound, every_third_bit-suc, every_third_bit-lt}

fourth : (n : ℕ) → n / 4 / 8 ≡ n / 8 / 4
fourth n = omega arith

second : (n : ℕ) → n / 2 / 8 ≡ n / 8 / 2
second n = omega arith

-- one bit more of a spread number
pub spread_more : (count n b : ℕ) → 0 < b → b ≤ count → 8 * spread_bits (count - b) (n / 2 ^ b) + bit_and (n / 2 ^ (b - 1)) 1 ≡ spread_bits (count - (b - 1)) (n / 2 ^ (b - 1))
spread_more count n zero positive within = absurd (omega arith)
spread_more count n (suc m) positive within =
    let below : suc m - 1 ≡ m = omega arith in
    let rest : count - m ≡ suc (count - suc m) = omega arith in
    let half : n / 2 ^ m / 2 ≡ n / 2 ^ suc m = div-div-eq-div-mul n (2 ^ m) 2 ∙ ap (λ d. n / d) (sym (pow-suc 2 m)) in
    let same = ap (λ h. spread_bits (count - suc m) h) half in
    rw (below, rest) (omega (arith, spread_bits-suc (count - suc m) (n / 2 ^ m), shr_and_one n m, same))

-- coordinates whose lowest bits, so many of each, stand in turn in a key
pub record AreRead (count key x y z : ℕ) : Type 0 where
  pub of_x : x ≡ every_third_bit count (key / 4)
  pub of_y : y ≡ every_third_bit count (key / 2)
  pub of_z : z ≡ every_third_bit count key

-- with one digit more of the key
pub AreRead-more : (count k b x y z d : ℕ) → 0 < b → b ≤ count → d ≡ k / 2 ^ (3 * (b - 1)) % 8 → AreRead (count - b) (k / 2 ^ (3 * b)) x y z → AreRead (count - (b - 1)) (k / 2 ^ (3 * (b - 1))) (2 * x + d / 4) (2 * y + d / 2 % 2) (2 * z + d % 2)
AreRead-more count k zero x y z d positive within is_digit read = absurd (omega arith)
AreRead-more count k (suc m) x y z d positive within is_digit read =
    let below : suc m - 1 ≡ m = omega arith in
    let rest : count - m ≡ suc (count - suc m) = omega arith in
    let place : 3 * m + 3 ≡ 3 * suc m = omega arith in
    let n = count - suc m in
    let key = k / 2 ^ (3 * m) in
    let digit : d ≡ key % 8 = rw below at is_digit in
    let eighth : key / 8 ≡ k / 2 ^ (3 * suc m) = shr-shr k (3 * m) 3 ∙ ap (λ e. k / 2 ^ e) place in
    let same_x : every_third_bit n (key / 4 / 8) ≡ x = ap (every_third_bit n) (fourth key ∙ ap (λ e. e / 4) eighth) ∙ sym read.of_x in
    let same_y : every_third_bit n (key / 2 / 8) ≡ y = ap (every_third_bit n) (second key ∙ ap (λ e. e / 2) eighth) ∙ sym read.of_y in
    let same_z : every_third_bit n (key / 8) ≡ z = ap (every_third_bit n) eighth ∙ sym read.of_z in
    rw (below, rest) (record {
      of_x = omega (arith, every_third_bit-suc n (key / 4), same_x, digit);
      of_y = omega (arith, every_third_bit-suc n (key / 2), same_y, digit);
      of_z = omega (arith, every_third_bit-suc n key, same_z, digit);
    })

pub spread_bits-zero : (n : ℕ) → spread_bits 0 n ≡ 0
unfolding spread_bits
spread_bits-zero n = refl

pub AreRead-none : (key : ℕ) → AreRead 0 key 0 0 0
unfolding every_third_bit
AreRead-none key = record { of_x = refl; of_y = refl; of_z = refl }

-- a spread coordinate has at most 88 bits, and a bits one at most 30
pub spread_bits-lt : (count n : ℕ) → count ≤ 30 → 7 * spread_bits count n + 1 ≤ 8 ^ 30
spread_bits-lt count n within =
    let most : 8 ^ count ≤ 8 ^ 30 = pow-le-pow_right (omega arith) within in
    omega (arith, spread_bits-bound count n)

pub every_third_bit-fits : (count k : ℕ) → count ≤ 30 → every_third_bit count k < 2 ^ 30
every_third_bit-fits count k within =
    let most : 2 ^ count ≤ 2 ^ 30 = pow-le-pow_right (omega arith) within in
    omega (arith, every_third_bit-lt count k)

-- coordinates that are read so fit a point
pub record Fit (x y z : ℕ) : Type 0 where
  pub x_fits : x < 2 ^ 30
  pub y_fits : y < 2 ^ 30
  pub z_fits : z < 2 ^ 30

pub AreRead-fit : (count key x y z : ℕ) → count ≤ 30 → AreRead count key x y z → Fit x y z
AreRead-fit count key x y z within read = record {
  x_fits = omega (arith, read.of_x, every_third_bit-fits count (key / 4) within);
  y_fits = omega (arith, read.of_y, every_third_bit-fits count (key / 2) within);
  z_fits = omega (arith, read.of_z, every_third_bit-fits count key within);
}
