-- Interleaving bit by bit, from the lowest.
use Rattle.std.proofs.Common.{◌≡◌, ℕ, zero, suc, ◌+◌, ◌*◌, ◌/◌, ◌%◌, ◌^◌, ◌<◌, ◌≤◌, refl, sym, ap, ◌∙◌, arith, add-zero, add-suc}
use Rattle.std.proofs.Math.Nat.{pow-suc, pow-succ', div-one, div-div-eq-div-mul, mul_assoc, mul-one}
use Rattle.std.proofs.lemmas.Nat.{shr-shr}
use Rattle.std.specs.Int.{bit_at}
use Rattle.std.proofs.lemmas.Nat.Bits.{bit_at-suc, bit_at_lowest}
use Rattle.pf_geom.specs.Key.{spread_bits, every_third_bit}

-- a power of 8 under a factor
times-eight : (a b : ℕ) → a * 8 ^ suc b ≡ 8 * (a * 8 ^ b)
times-eight a b = rw pow-suc (omega (arith, sym (mul_assoc a (8 ^ b) 8)))

times-two : (a b : ℕ) → a * 2 ^ suc b ≡ 2 * (a * 2 ^ b)
times-two a b = rw pow-suc (omega (arith, sym (mul_assoc a (2 ^ b) 2)))

-- the lowest bit comes first
pub spread_bits-suc : (b n : ℕ) → spread_bits (suc b) n ≡ n % 2 + 8 * spread_bits b (n / 2)
unfolding spread_bits
spread_bits-suc zero n = omega (arith, bit_at_lowest n)
spread_bits-suc (suc b) n =
    let step : bit_at n (suc b) * 8 ^ suc b ≡ 8 * (bit_at (n / 2) b * 8 ^ b) = rw bit_at-suc (times-eight _ b) in
    omega (arith, spread_bits-suc b n)

-- a spread number has a zero at two places of three
pub spread_bits-bound : (b n : ℕ) → 7 * spread_bits b n + 1 ≤ 8 ^ b
unfolding spread_bits
spread_bits-bound zero n = omega arith
spread_bits-bound (suc b) n =
    omega (arith, spread_bits-suc b n, spread_bits-bound b (n / 2), pow-suc 8 b)

-- the lowest bits of three numbers, interleaved
unfoldable pub interleaved : ℕ → ℕ → ℕ → ℕ → ℕ
interleaved b x y z = 4 * spread_bits b x + 2 * spread_bits b y + spread_bits b z

-- the lowest bits of three numbers, as a digit to base 8
pub digit : ℕ → ℕ → ℕ → ℕ
digit x y z = 4 * (x % 2) + 2 * (y % 2) + z % 2

pub digit-lt : (x y z : ℕ) → digit x y z < 8
unfolding digit
digit-lt x y z = omega arith

interleaved-zero : (x y z : ℕ) → interleaved 0 x y z ≡ 0
unfolding interleaved spread_bits
interleaved-zero x y z = refl

pub interleaved-suc : (b x y z : ℕ) → interleaved (suc b) x y z ≡ 8 * interleaved b (x / 2) (y / 2) (z / 2) + digit x y z
unfolding interleaved digit
interleaved-suc b x y z = omega (arith, spread_bits-suc b x, spread_bits-suc b y, spread_bits-suc b z)

pub interleaved-lt : (b x y z : ℕ) → interleaved b x y z < 8 ^ b
unfolding interleaved
interleaved-lt b x y z = omega (arith, spread_bits-bound b x, spread_bits-bound b y, spread_bits-bound b z)

pub halves : (n j : ℕ) → n / 2 / 2 ^ j ≡ n / 2 ^ suc j
halves n j = div-div-eq-div-mul n 2 (2 ^ j) ∙ ap (λ m. n / m) (sym (pow-succ' 2 j))

eighths : (n j : ℕ) → n / 8 / 8 ^ j ≡ n / 8 ^ suc j
eighths n j = div-div-eq-div-mul n 8 (8 ^ j) ∙ ap (λ m. n / m) (sym (pow-succ' 8 j))

interleaved-eighth : (b x y z : ℕ) → interleaved (suc b) x y z / 8 ≡ interleaved b (x / 2) (y / 2) (z / 2)
interleaved-eighth b x y z = omega (arith, interleaved-suc b x y z, digit-lt x y z)

-- a shift by three bits drops the lowest digit
pub interleaved-shr : (b j x y z : ℕ) → interleaved (b + j) x y z / 8 ^ j ≡ interleaved b (x / 2 ^ j) (y / 2 ^ j) (z / 2 ^ j)
interleaved-shr b zero x y z = simp (div-one, add-zero)
interleaved-shr b (suc j) x y z =
    let first : interleaved (b + suc j) x y z / 8 ≡ interleaved (b + j) (x / 2) (y / 2) (z / 2) =
    rw add-suc (interleaved-eighth (b + j) x y z)
    in
    let rest = simp halves at (interleaved-shr b j (x / 2) (y / 2) (z / 2)) in
    sym (eighths (interleaved (b + suc j) x y z) j) ∙ ap (λ n. n / 8 ^ j) first ∙ rest

no_digit : (x y z j : ℕ) → digit (x * 2 ^ suc j) (y * 2 ^ suc j) (z * 2 ^ suc j) ≡ 0
unfolding digit
no_digit x y z j = omega (arith, times-two x j, times-two y j, times-two z j)

-- zeros added to three numbers are zeros added to their key
pub interleaved-shl : (b j x y z : ℕ) → interleaved (b + j) (x * 2 ^ j) (y * 2 ^ j) (z * 2 ^ j) ≡ interleaved b x y z * 8 ^ j
interleaved-shl b zero x y z = simp (mul-one, add-zero)
interleaved-shl b (suc j) x y z =
    let half : (n : ℕ) → n * 2 ^ suc j / 2 ≡ n * 2 ^ j = λ n. omega (arith, times-two n j) in
    let rest : interleaved (b + j) (x * 2 ^ suc j / 2) (y * 2 ^ suc j / 2) (z * 2 ^ suc j / 2) ≡ interleaved b x y z * 8 ^ j =
    simp half (interleaved-shl b j x y z)
    in
    rw add-suc (omega (arith, interleaved-suc (b + j) (x * 2 ^ suc j) (y * 2 ^ suc j) (z * 2 ^ suc j), no_digit x y z j, times-eight (interleaved b x y z) j))

bit_at-up : (k t : ℕ) → bit_at k (3 * suc t) ≡ bit_at (k / 8) (3 * t)
bit_at-up k t =
    let place : 3 * suc t ≡ 3 + 3 * t = omega arith in
    ap (λ m. bit_at k m) place ∙ ap (λ m. m % 2) (sym (shr-shr k 3 (3 * t)))

every_third_bit-zero : (k : ℕ) → every_third_bit 0 k ≡ 0
unfolding every_third_bit
every_third_bit-zero k = refl

pub every_third_bit-suc : (b k : ℕ) → every_third_bit (suc b) k ≡ k % 2 + 2 * every_third_bit b (k / 8)
unfolding every_third_bit
every_third_bit-suc zero k = omega (arith, bit_at_lowest k)
every_third_bit-suc (suc b) k =
    let step : bit_at k (3 * suc b) * 2 ^ suc b ≡ 2 * (bit_at (k / 8) (3 * b) * 2 ^ b) = rw bit_at-up (times-two _ b) in
    omega (arith, every_third_bit-suc b k)

pub every_third_bit-lt : (b k : ℕ) → every_third_bit b k < 2 ^ b
unfolding every_third_bit
every_third_bit-lt zero k = omega arith
every_third_bit-lt (suc b) k =
    omega (arith, every_third_bit-suc b k, every_third_bit-lt b (k / 8), pow-suc 2 b)

-- the three numbers are read back from their key
pub every_third_bit-z : (b x y z : ℕ) → z < 2 ^ b → every_third_bit b (interleaved b x y z) ≡ z
unfolding digit
every_third_bit-z zero x y z h = omega (arith, every_third_bit-zero (interleaved 0 x y z))
every_third_bit-z (suc b) x y z h =
    let rest : every_third_bit b (interleaved (suc b) x y z / 8) ≡ z / 2 =
    rw interleaved-eighth (every_third_bit-z b (x / 2) (y / 2) (z / 2) (omega (arith, pow-suc 2 b)))
    in
    omega (arith, every_third_bit-suc b (interleaved (suc b) x y z), interleaved-suc b x y z)

pub every_third_bit-y : (b x y z : ℕ) → y < 2 ^ b → every_third_bit b (interleaved b x y z / 2) ≡ y
unfolding digit
every_third_bit-y zero x y z h = omega (arith, every_third_bit-zero (interleaved 0 x y z / 2))
every_third_bit-y (suc b) x y z h =
    let past : interleaved (suc b) x y z / 2 / 8 ≡ interleaved b (x / 2) (y / 2) (z / 2) / 2 =
    omega (arith, interleaved-suc b x y z)
    in
    let rest : every_third_bit b (interleaved (suc b) x y z / 2 / 8) ≡ y / 2 =
    rw past (every_third_bit-y b (x / 2) (y / 2) (z / 2) (omega (arith, pow-suc 2 b)))
    in
    omega (arith, every_third_bit-suc b (interleaved (suc b) x y z / 2), interleaved-suc b x y z)

pub every_third_bit-x : (b x y z : ℕ) → x < 2 ^ b → every_third_bit b (interleaved b x y z / 4) ≡ x
unfolding digit
every_third_bit-x zero x y z h = omega (arith, every_third_bit-zero (interleaved 0 x y z / 4))
every_third_bit-x (suc b) x y z h =
    let past : interleaved (suc b) x y z / 4 / 8 ≡ interleaved b (x / 2) (y / 2) (z / 2) / 4 =
    omega (arith, interleaved-suc b x y z)
    in
    let rest : every_third_bit b (interleaved (suc b) x y z / 4 / 8) ≡ x / 2 =
    rw past (every_third_bit-x b (x / 2) (y / 2) (z / 2) (omega (arith, pow-suc 2 b)))
    in
    omega (arith, every_third_bit-suc b (interleaved (suc b) x y z / 4), interleaved-suc b x y z)

-- one key is that of no other three numbers
pub record IsSame3 (x y z u v w : ℕ) : Type 0 where
  pub first : x ≡ u
  pub second : y ≡ v
  pub third : z ≡ w

pub same_from_interleaved : (b x y z u v w : ℕ) → x < 2 ^ b → y < 2 ^ b → z < 2 ^ b → u < 2 ^ b → v < 2 ^ b → w < 2 ^ b → interleaved b x y z ≡ interleaved b u v w → IsSame3 x y z u v w
same_from_interleaved b x y z u v w hx hy hz hu hv hw e =
    record {
      first = sym (every_third_bit-x b x y z hx) ∙ ap (λ k. every_third_bit b (k / 4)) e ∙ every_third_bit-x b u v w hu;
      second = sym (every_third_bit-y b x y z hy) ∙ ap (λ k. every_third_bit b (k / 2)) e ∙ every_third_bit-y b u v w hv;
      third = sym (every_third_bit-z b x y z hz) ∙ ap (λ k. every_third_bit b k) e ∙ every_third_bit-z b u v w hw;
    }

-- each key is that of the three numbers read from it
pub interleaved-every_third_bit : (b k : ℕ) → k < 8 ^ b → interleaved b (every_third_bit b (k / 4)) (every_third_bit b (k / 2)) (every_third_bit b k) ≡ k
unfolding digit
interleaved-every_third_bit zero k h =
    omega (arith, interleaved-zero (every_third_bit 0 (k / 4)) (every_third_bit 0 (k / 2)) (every_third_bit 0 k))
interleaved-every_third_bit (suc b) k h =
    let half : (m : ℕ) → every_third_bit (suc b) m / 2 ≡ every_third_bit b (m / 8) = λ m. omega (arith, every_third_bit-suc b m) in
    let low : (m : ℕ) → every_third_bit (suc b) m % 2 ≡ m % 2 = λ m. omega (arith, every_third_bit-suc b m) in
    let up : interleaved b (every_third_bit (suc b) (k / 4) / 2) (every_third_bit (suc b) (k / 2) / 2) (every_third_bit (suc b) k / 2) ≡ k / 8 =
    let fourth : k / 4 / 8 ≡ k / 8 / 4 = omega arith in
    let second : k / 2 / 8 ≡ k / 8 / 2 = omega arith in
    simp (half, fourth, second) (interleaved-every_third_bit b (k / 8) (omega (arith, pow-suc 8 b)))
    in
    omega (arith, interleaved-suc b (every_third_bit (suc b) (k / 4)) (every_third_bit (suc b) (k / 2)) (every_third_bit (suc b) k), low (k / 4), low (k / 2), low k)

-- the bits of a key: bit t of the last number, or after a shift of the others, stands at place 3t
pub bit_at-z : (b t x y z : ℕ) → t < b → bit_at (interleaved b x y z) (3 * t) ≡ bit_at z t
unfolding digit
bit_at-z zero t x y z h = absurd (omega arith)
bit_at-z (suc b) zero x y z h =
    omega (arith, bit_at_lowest z, bit_at_lowest (interleaved (suc b) x y z), interleaved-suc b x y z)
bit_at-z (suc b) (suc t) x y z h =
    bit_at-up (interleaved (suc b) x y z) t ∙ ap (λ m. bit_at m (3 * t)) (interleaved-eighth b x y z) ∙ bit_at-z b t (x / 2) (y / 2) (z / 2) (omega arith) ∙ sym (bit_at-suc z t)

pub bit_at-y : (b t x y z : ℕ) → t < b → bit_at (interleaved b x y z / 2) (3 * t) ≡ bit_at y t
unfolding digit
bit_at-y zero t x y z h = absurd (omega arith)
bit_at-y (suc b) zero x y z h =
    omega (arith, bit_at_lowest y, bit_at_lowest (interleaved (suc b) x y z / 2), interleaved-suc b x y z)
bit_at-y (suc b) (suc t) x y z h =
    let past : interleaved (suc b) x y z / 2 / 8 ≡ interleaved b (x / 2) (y / 2) (z / 2) / 2 =
    omega (arith, interleaved-suc b x y z)
    in
    bit_at-up (interleaved (suc b) x y z / 2) t ∙ ap (λ m. bit_at m (3 * t)) past ∙ bit_at-y b t (x / 2) (y / 2) (z / 2) (omega arith) ∙ sym (bit_at-suc y t)

pub bit_at-x : (b t x y z : ℕ) → t < b → bit_at (interleaved b x y z / 4) (3 * t) ≡ bit_at x t
unfolding digit
bit_at-x zero t x y z h = absurd (omega arith)
bit_at-x (suc b) zero x y z h =
    omega (arith, bit_at_lowest x, bit_at_lowest (interleaved (suc b) x y z / 4), interleaved-suc b x y z)
bit_at-x (suc b) (suc t) x y z h =
    let past : interleaved (suc b) x y z / 4 / 8 ≡ interleaved b (x / 2) (y / 2) (z / 2) / 4 =
    omega (arith, interleaved-suc b x y z)
    in
    bit_at-up (interleaved (suc b) x y z / 4) t ∙ ap (λ m. bit_at m (3 * t)) past ∙ bit_at-x b t (x / 2) (y / 2) (z / 2) (omega arith) ∙ sym (bit_at-suc x t)
