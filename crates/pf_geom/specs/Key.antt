-- Morton keys: the bits of a position's coordinates in turn, x highest.
use Rattle.std.specs.Prelude.{◌≡◌, ℕ, zero, suc, ◌+◌, ◌*◌, ◌/◌, ◌^◌, ◌<◌}
use Rattle.std.specs.Int.{bit_at}
use Rattle.pf_geom.specs.Position.{Position}

-- the number with bit t of n at place 3t, for each t below the count
unfoldable pub spread_bits : ℕ → ℕ → ℕ
spread_bits zero n = 0
spread_bits (suc count) n = spread_bits count n + bit_at n count * 8 ^ count

-- the key with bit t of x at place 3t + 2, of y at 3t + 1 and of z at 3t
unfoldable pub morton_key : Position → ℕ
morton_key p = 4 * spread_bits 30 p.x + 2 * spread_bits 30 p.y + spread_bits 30 p.z

-- the number with bit 3t of k at place t, for each t below the count
unfoldable pub every_third_bit : ℕ → ℕ → ℕ
every_third_bit zero k = 0
every_third_bit (suc count) k = every_third_bit count k + bit_at k (3 * count) * 2 ^ count

-- the position that has this key
unfoldable pub position_of_key : ℕ → Position
position_of_key k =
    record { x = every_third_bit 30 (k / 4); y = every_third_bit 30 (k / 2); z = every_third_bit 30 k }

-- the bits of the key are those of the position, and it has no others
pub record HasBitsOf (p : Position) (key : ℕ) : Type 0 where
  pub of_x : (t : ℕ) → t < 30 → bit_at key (3 * t + 2) ≡ bit_at p.x t
  pub of_y : (t : ℕ) → t < 30 → bit_at key (3 * t + 1) ≡ bit_at p.y t
  pub of_z : (t : ℕ) → t < 30 → bit_at key (3 * t) ≡ bit_at p.z t
  pub no_others : key < 2 ^ 90
