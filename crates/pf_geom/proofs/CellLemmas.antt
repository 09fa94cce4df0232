-- Cells by their keys and by their floored coordinates.
use Rattle.std.proofs.Common.{◌≡◌, ℕ, zero, suc, ◌+◌, ◌-◌, ◌*◌, ◌/◌, ◌%◌, ◌^◌, ◌<◌, ◌≤◌, refl, sym, ap, ◌∙◌, subst, arith}
use Rattle.std.proofs.Math.Nat.{mul_comm, div-div-eq-div-mul, div-mul-le_self, lt-mul-div-succ, div-eq_of_lt-le, pow-suc, mul-le-mul_right, mod-eq_of_lt}
use Rattle.std.proofs.lemmas.Nat.{pow_pos, pow-add, div_below}
use Rattle.pf_geom.specs.Position.{Position, IsPosition}
use Rattle.pf_geom.specs.Key.{morton_key}
use Rattle.pf_geom.specs.Octant.{Octant, IsCell, side_at, HaveEqualFloors, cell_at, IsIn, ancestor_at}
use Rattle.pf_geom.proofs.KeyBits.{interleaved, interleaved-shr, same_from_interleaved}
use Rattle.pf_geom.proofs.KeyLemmas.{morton_key-is, morton_key-lt}

abbrev pub octant : ℕ → ℕ → Octant
octant level key = record { level = level; key = key }

pub octant_eq : (c d : Octant) → c.level ≡ d.level → c.key ≡ d.key → c ≡ d
octant_eq c d same_level same_key =
    ap (λ l. octant l c.key) same_level ∙ ap (λ k. octant d.level k) same_key

-- the cells of a level along an axis, and all of them, fill the cube
pub sides_fill : (level : ℕ) → level ≤ 30 → 2 ^ level * side_at level ≡ 2 ^ 30
sides_fill level within =
    let whole : level + (30 - level) ≡ 30 = omega arith in
    sym (pow-add 2 level (30 - level)) ∙ ap (λ e. 2 ^ e) whole

pub keys_fill : (level : ℕ) → level ≤ 30 → 8 ^ level * 8 ^ (30 - level) ≡ 8 ^ 30
keys_fill level within =
    let whole : level + (30 - level) ≡ 30 = omega arith in
    sym (pow-add 8 level (30 - level)) ∙ ap (λ e. 8 ^ e) whole

pub side_pos : (level : ℕ) → 0 < side_at level
side_pos level = pow_pos (30 - level)

pub eight_pos : (n : ℕ) → 0 < 8 ^ n
eight_pos zero = omega arith
eight_pos (suc n) = omega (arith, pow-suc 8 n, eight_pos n)

-- the key of a position's cell is that of its floored coordinates
pub cell_key : (p : Position) (level : ℕ) → level ≤ 30 → morton_key p / 8 ^ (30 - level) ≡ interleaved level (p.x / side_at level) (p.y / side_at level) (p.z / side_at level)
cell_key p level within =
    let whole : 30 ≡ level + (30 - level) = omega arith in
    let whole_key : morton_key p ≡ interleaved (level + (30 - level)) p.x p.y p.z =
    morton_key-is p ∙ ap (λ b. interleaved b p.x p.y p.z) whole
    in
    ap (λ n. n / 8 ^ (30 - level)) whole_key ∙ interleaved-shr level (30 - level) p.x p.y p.z

pub cell_key-lt : (p : Position) (level : ℕ) → level ≤ 30 → morton_key p / 8 ^ (30 - level) < 8 ^ level
cell_key-lt p level within =
    div_below (morton_key p) (8 ^ (30 - level)) (8 ^ level) (eight_pos (30 - level)) (omega (arith, keys_fill level within, morton_key-lt p))

pub floor_lt : (n level : ℕ) → level ≤ 30 → n < 2 ^ 30 → n / side_at level < 2 ^ level
floor_lt n level within fits =
    div_below n (side_at level) (2 ^ level) (side_pos level) (omega (arith, sides_fill level within))

pub IsCell-cell_at : (p : Position) (level : ℕ) → level ≤ 30 → IsCell (cell_at p level)
IsCell-cell_at p level within = record { level_fits = within; key_fits = cell_key-lt p level within }

-- a cell is the set of the positions with the same floored coordinates
pub floors_from_cell : (p x : Position) (level : ℕ) → IsPosition p → IsPosition x → level ≤ 30 → cell_at p level ≡ cell_at x level → HaveEqualFloors level p x
floors_from_cell p x level p_fits x_fits within e =
    let keys : interleaved level (p.x / side_at level) (p.y / side_at level) (p.z / side_at level) ≡ interleaved level (x.x / side_at level) (x.y / side_at level) (x.z / side_at level) =
    sym (cell_key p level within) ∙ ap (λ (c : Octant). c.key) e ∙ cell_key x level within
    in
    let same = same_from_interleaved level _ _ _ _ _ _ (floor_lt p.x level within p_fits.x_fits) (floor_lt p.y level within p_fits.y_fits) (floor_lt p.z level within p_fits.z_fits) (floor_lt x.x level within x_fits.x_fits) (floor_lt x.y level within x_fits.y_fits) (floor_lt x.z level within x_fits.z_fits) keys in
    record { same_x = same.first; same_y = same.second; same_z = same.third }

pub cell_from_floors : (p x : Position) (level : ℕ) → level ≤ 30 → HaveEqualFloors level p x → cell_at p level ≡ cell_at x level
cell_from_floors p x level within h =
    let keys : morton_key p / 8 ^ (30 - level) ≡ morton_key x / 8 ^ (30 - level) =
    cell_key p level within ∙ rw (h.same_x, h.same_y, h.same_z) (sym (cell_key x level within))
    in
    octant_eq (cell_at p level) (cell_at x level) refl keys

-- the keys of a cell are a run
pub key_range_from_cell : (p : Position) (c : Octant) → IsIn p c → (c.key * 8 ^ (30 - c.level) ≤ morton_key p) × (morton_key p < (c.key + 1) * 8 ^ (30 - c.level))
key_range_from_cell p c h =
    let width = 8 ^ (30 - c.level) in
    let e : morton_key p / width ≡ c.key = ap (λ (d : Octant). d.key) h in
    let below : morton_key p / width * width ≤ morton_key p = div-mul-le_self (morton_key p) width in
    let above : morton_key p < width * (morton_key p / width + 1) = lt-mul-div-succ (morton_key p) (eight_pos (30 - c.level)) in
    (rw e at below, subst (λ n. morton_key p < n) (mul_comm width (c.key + 1)) (rw e at above))

pub cell_from_key_range : (p : Position) (c : Octant) → c.key * 8 ^ (30 - c.level) ≤ morton_key p → morton_key p < (c.key + 1) * 8 ^ (30 - c.level) → IsIn p c
cell_from_key_range p c low high =
    octant_eq (cell_at p c.level) c refl (div-eq_of_lt-le (8 ^ (30 - c.level)) low high)

-- a cell of a position lies in those of lower levels
pub ancestor_at-cell_at : (p : Position) (lower higher : ℕ) → lower ≤ higher → higher ≤ 30 → ancestor_at (cell_at p higher) lower ≡ cell_at p lower
ancestor_at-cell_at p lower higher order within =
    let exponents : (30 - higher) + (higher - lower) ≡ 30 - lower = omega arith in
    let keys : morton_key p / 8 ^ (30 - higher) / 8 ^ (higher - lower) ≡ morton_key p / 8 ^ (30 - lower) =
    div-div-eq-div-mul (morton_key p) (8 ^ (30 - higher)) (8 ^ (higher - lower)) ∙ ap (λ d. morton_key p / d) (sym (pow-add 8 (30 - higher) (higher - lower)) ∙ ap (λ e. 8 ^ e) exponents)
    in
    octant_eq (ancestor_at (cell_at p higher) lower) (cell_at p lower) refl keys

pub shared_cell : (p q : Position) (lower higher : ℕ) → lower ≤ higher → higher ≤ 30 → cell_at p higher ≡ cell_at q higher → cell_at p lower ≡ cell_at q lower
shared_cell p q lower higher order within same =
    sym (ancestor_at-cell_at p lower higher order within) ∙ ap (λ (c : Octant). ancestor_at c lower) same ∙ ancestor_at-cell_at q lower higher order within

-- the shift of a key to a level
pub eight_pow : (n : ℕ) → 2 ^ (3 * n) ≡ 8 ^ n
eight_pow zero = refl
eight_pow (suc n) =
    let place : 3 * suc n ≡ 3 * n + 3 = omega arith in
    let step : 2 ^ (3 * suc n) ≡ 2 ^ (3 * n) * 8 = ap (λ e. 2 ^ e) place ∙ pow-add 2 (3 * n) 3 in
    step ∙ ap (λ m. m * 8) (eight_pow n) ∙ sym (pow-suc 8 n)

-- shifted to the deepest level, a key of a level loses no bit
pub shifted : (level key : ℕ) → level ≤ 30 → key ≤ 8 ^ level → key * 2 ^ (3 * (30 - level)) % 2 ^ 128 ≡ key * 8 ^ (30 - level)
shifted level key within few =
    let width = 8 ^ (30 - level) in
    let fill = keys_fill level within in
    let most : key * width ≤ 8 ^ level * width = mul-le-mul_right width few in
    ap (λ (w : ℕ). key * w % 2 ^ 128) (eight_pow (30 - level)) ∙ mod-eq_of_lt (omega arith)
