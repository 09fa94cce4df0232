-- Morton keys and positions.
use Rattle.std.proofs.Common.{◌≡◌, ℕ, ◌+◌, ◌*◌, ◌/◌, ◌%◌, ◌^◌, ◌<◌, refl, sym, ap, ◌∙◌, arith}
use Rattle.std.specs.Int.{bit_at}
use Rattle.std.proofs.lemmas.Nat.{shr-shr}
use Rattle.pf_geom.specs.Position.{Position, IsPosition}
use Rattle.pf_geom.specs.Key.{morton_key, position_of_key, HasBitsOf}
use Rattle.pf_geom.proofs.KeyBits.{interleaved, interleaved-lt, every_third_bit-lt, every_third_bit-x, every_third_bit-y, every_third_bit-z, interleaved-every_third_bit, bit_at-x, bit_at-y, bit_at-z}

abbrev pub position : ℕ → ℕ → ℕ → Position
position x y z = record { x = x; y = y; z = z }

pub position_eq : (p q : Position) → p.x ≡ q.x → p.y ≡ q.y → p.z ≡ q.z → p ≡ q
position_eq p q same_x same_y same_z =
    ap (λ v. position v p.y p.z) same_x ∙ ap (λ v. position q.x v p.z) same_y ∙ ap (λ v. position q.x q.y v) same_z

pub morton_key-is : (p : Position) → morton_key p ≡ interleaved 30 p.x p.y p.z
unfolding morton_key interleaved
morton_key-is p = refl

pub morton_key-lt : (p : Position) → morton_key p < 8 ^ 30
morton_key-lt p = omega (arith, morton_key-is p, interleaved-lt 30 p.x p.y p.z)

pub IsPosition-position_of_key : (k : ℕ) → IsPosition (position_of_key k)
unfolding position_of_key
IsPosition-position_of_key k = record {
  x_fits = every_third_bit-lt 30 (k / 4);
  y_fits = every_third_bit-lt 30 (k / 2);
  z_fits = every_third_bit-lt 30 k;
}

-- a key gives its position back
pub position_of_key-morton_key : (p : Position) → IsPosition p → position_of_key (morton_key p) ≡ p
unfolding position_of_key
position_of_key-morton_key p h =
    rw morton_key-is (position_eq _ p (every_third_bit-x 30 p.x p.y p.z h.x_fits) (every_third_bit-y 30 p.x p.y p.z h.y_fits) (every_third_bit-z 30 p.x p.y p.z h.z_fits))

-- a position gives its key back
pub morton_key-position_of_key : (k : ℕ) → k < 8 ^ 30 → morton_key (position_of_key k) ≡ k
unfolding position_of_key
morton_key-position_of_key k h = rw morton_key-is (interleaved-every_third_bit 30 k h)

-- equal keys are those of one position
pub same_from_key : (p q : Position) → IsPosition p → IsPosition q → morton_key p ≡ morton_key q → p ≡ q
same_from_key p q p_fits q_fits e =
    sym (position_of_key-morton_key p p_fits) ∙ ap position_of_key e ∙ position_of_key-morton_key q q_fits

bit_at-past : (k t o : ℕ) → bit_at k (3 * t + o) ≡ bit_at (k / 2 ^ o) (3 * t)
bit_at-past k t o =
    let place : 3 * t + o ≡ o + 3 * t = omega arith in
    ap (λ m. bit_at k m) place ∙ ap (λ m. m % 2) (sym (shr-shr k o (3 * t)))

pub HasBitsOf-morton_key : (p : Position) → HasBitsOf p (morton_key p)
HasBitsOf-morton_key p = record {
  of_x = λ t h. bit_at-past (morton_key p) t 2 ∙ rw morton_key-is (bit_at-x 30 t p.x p.y p.z h);
  of_y = λ t h. bit_at-past (morton_key p) t 1 ∙ rw morton_key-is (bit_at-y 30 t p.x p.y p.z h);
  of_z = λ t h. rw morton_key-is (bit_at-z 30 t p.x p.y p.z h);
  no_others = morton_key-lt p;
}
