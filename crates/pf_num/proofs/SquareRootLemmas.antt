-- The root without its fraction is the one that `floor_root` computes.
use Rattle.std.proofs.Common.{◌≡◌, ℕ, zero, suc, ◌+◌, ◌*◌, ◌/◌, ◌≤◌, nat_le, true, false, refl, sym, ap, arith, ℤ, pos, negsuc, nat_abs, Ok, Err}
use Rattle.std.specs.Int.Signed.{lt_z}
use Rattle.std.proofs.Math.Nat.{mul-le-mul}
use Rattle.std.proofs.lemmas.Bool.{leb-true, leb-false, ltb-true, cond_both, false≢true}
use Rattle.std.proofs.lemmas.Int.{to_z-of_z, to_z_pos}
use Rattle.pf_num.specs.SquareRoot.{IsFloorRoot, raised_root, root_within, floor_root, exact_root}
use Rattle.pf_num.specs.declared.fault.NumFault.TheVariants.{NegativeRoot}

IsFloorRoot-raised_root : (x r : ℕ) → IsFloorRoot (x / 4) r → IsFloorRoot x (raised_root x (2 * r))
IsFloorRoot-raised_root x r h =
    cond_both (nat_le ((2 * r + 1) * (2 * r + 1)) x) (2 * r + 1) (2 * r) (IsFloorRoot x)
    (λ e. let p = leb-true _ _ e in record { square_le = p; next_square_gt = grind (arith, h.next_square_gt) })
    (λ e. let p = leb-false _ _ e in record { square_le = grind (arith, h.square_le); next_square_gt = p })

IsFloorRoot-root_within : (k x : ℕ) → x ≤ k → IsFloorRoot x (root_within k x)
unfolding root_within
IsFloorRoot-root_within zero x h = record { square_le = omega arith; next_square_gt = omega arith }
IsFloorRoot-root_within (suc k) zero h = record { square_le = omega arith; next_square_gt = omega arith }
IsFloorRoot-root_within (suc k) (suc n) h =
    IsFloorRoot-raised_root (suc n) (root_within k (suc n / 4)) (IsFloorRoot-root_within k (suc n / 4) (omega arith))

pub IsFloorRoot-floor_root : (x : ℕ) → IsFloorRoot x (floor_root x)
unfolding floor_root
IsFloorRoot-floor_root x = IsFloorRoot-root_within x x (omega arith)

root_le : (x r s : ℕ) → IsFloorRoot x r → IsFloorRoot x s → r ≤ s
root_le x r s h k = grind (arith, h.square_le, k.next_square_gt, mul-le-mul)

pub same_floor_root : (x r s : ℕ) → IsFloorRoot x r → IsFloorRoot x s → r ≡ s
same_floor_root x r s h k = omega (arith, root_le x r s h k, root_le x s r k h)

pub exact_root-negative : (z : ℤ) → lt_z z (pos 0) ≡ true → Err NegativeRoot ≡ exact_root z
unfolding exact_root
exact_root-negative (pos n) h = absurd (omega (arith, ltb-true n 0 h))
exact_root-negative (negsuc n) h = refl

pub exact_root-non_negative : (z : ℤ) (r : ℕ) → lt_z z (pos 0) ≡ false → r ≡ floor_root (nat_abs z) → Ok (pos r) ≡ exact_root z
unfolding exact_root
exact_root-non_negative (pos n) r h e = ap (λ s. Ok (pos s)) e
exact_root-non_negative (negsuc n) r h e = absurd (false≢true (sym h))

pub ruleset exact_roots = (to_z-of_z, to_z_pos, exact_root-negative, exact_root-non_negative)
