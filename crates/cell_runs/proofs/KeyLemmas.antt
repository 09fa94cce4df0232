-- Keys in ascending order, and the cells that they lie in.
use Rattle.std.proofs.Common.{◌≡◌, ℕ, zero, suc, ◌+◌, ◌-◌, ◌*◌, ◌/◌, ◌%◌, ◌^◌, ◌<◌, ◌≤◌, ◌↔◌, true, false, List, length, get_or, take, nat_lt, inl, inr, refl, sym, ◌∙◌, ap, subst, arith, bit_and}
use Rattle.std.specs.List.Sorted.{IsNonDecreasing, IsPartitionedBy, IsPartitionPoint}
use Rattle.std.proofs.Math.Nat.{div-mul-le_self, pow-suc, mul-one, mul_comm, add-mul, one-mul, div-add-mod', div-eq_of_lt, div-eq_of_lt-le, lt-mul-div-succ, pow-le-pow_right}
use Rattle.std.proofs.lemmas.Nat.{pow-add, pow_pos, le-div, div_below, xor_lt, xor_shr, leading_length, and_mask}
use Rattle.std.specs.Int.Bits.{bit_xor, xor_self, xor_assoc, xor_zero_r}
use Rattle.std.specs.Int.Count.{count_leading_zeros}
use Rattle.std.proofs.lemmas.Bool.{cases_lt, ltb-true, ltb-false, lt-ltb}
use Rattle.std.proofs.lemmas.List.{length-take-le, get_or-take}
use Rattle.pf_geom.specs.CellLaws.{LevelsTakeThreeBits}
use Rattle.pf_geom.specs.Octant.{Octant, IsCell}
use Rattle.cell_runs.specs.Finding.{cell_of_key, IsCellFront, past_cell}

abbrev octant : ℕ → ℕ → Octant
octant level key = record { level = level; key = key }

eight_pos : (n : ℕ) → 0 < 8 ^ n
eight_pos zero = omega arith
eight_pos (suc n) = omega (arith, pow-suc 8 n, eight_pos n)

-- the cells of a level take up all keys
levels_fill : (level : ℕ) → level ≤ 30 → 8 ^ level * 8 ^ (30 - level) ≡ 2 ^ 90
levels_fill level within =
    let whole : level + (30 - level) ≡ 30 = omega arith in
    sym (pow-add 8 level (30 - level)) ∙ ap (λ e. 8 ^ e) whole

pub IsCell-of_key : (key level : ℕ) → key < 2 ^ 90 → level ≤ 30 → IsCell (cell_of_key key level)
IsCell-of_key key level fits within = record {
  level_fits = within;
  key_fits = div_below key (8 ^ (30 - level)) (8 ^ level) (eight_pos (30 - level)) (let fill = levels_fill level within in omega arith);
}

-- keys in one cell at a level
same_cell : (key other level : ℕ) → key / 8 ^ (30 - level) ≡ other / 8 ^ (30 - level) → cell_of_key key level ≡ cell_of_key other level
same_cell key other level same = ap (octant level) same

cells_ascend : (keys : List ℕ) (level i j d : ℕ) → IsNonDecreasing keys → i ≤ j → j < length keys → get_or keys i d / 8 ^ (30 - level) ≤ get_or keys j d / 8 ^ (30 - level)
cells_ascend keys level i j d ascending least within =
    let low = get_or keys i d in
    let high = get_or keys j d in
    let width = 8 ^ (30 - level) in
    let rise : low ≤ high = ascending i j d least within in
    le-div (low / width) high width (eight_pos (30 - level)) (omega (arith, div-mul-le_self low width))

-- a key from the first of a cell's keys on lies in the cell exactly where it lies before the first past it
in_cell : (first key level : ℕ) → first ≤ key → (key < past_cell first level) ↔ (key / 8 ^ (30 - level) ≡ first / 8 ^ (30 - level))
in_cell first key level from =
    let width = 8 ^ (30 - level) in
    let least : first / width * width ≤ key = omega (arith, div-mul-le_self first width) in (
      λ before. div-eq_of_lt-le width least before,
      λ same.
          let below : key < width * (key / width + 1) = lt-mul-div-succ key (eight_pos (30 - level)) in
          let turned : width * (key / width + 1) ≡ past_cell first level = mul_comm width (key / width + 1) ∙ ap (λ q. (q + 1) * width) same in
          omega (arith, turned),
    )

-- keys before a limit stand first
pub before_first : (keys : List ℕ) (past : ℕ) → IsNonDecreasing keys → IsPartitionedBy (λ key. nat_lt key past) keys
before_first keys past ascending i j d least within before =
    let rise : get_or keys i d ≤ get_or keys j d = ascending i j d least within in
    lt-ltb (get_or keys i d) past (omega (arith, ltb-true (get_or keys j d) past before))

pub ascending_front : (keys : List ℕ) (reach : ℕ) → reach ≤ length keys → IsNonDecreasing keys → IsNonDecreasing (take reach keys)
ascending_front keys reach within ascending i j d least inside =
    let long = length-take-le reach keys within in
    let low = get_or-take reach keys i d (omega arith) in
    let high = get_or-take reach keys j d (omega arith) in
    let rise : get_or keys i d ≤ get_or keys j d = ascending i j d least (omega arith) in
    omega (arith, low, high)

-- the search for the end of the first cell, among so many keys that it has no more
pub front_from_search : (keys : List ℕ) (level past reach len : ℕ) → IsNonDecreasing keys → past ≡ past_cell (get_or keys 0 0) level → 1 ≤ reach → reach ≤ length keys → (reach < length keys → past ≤ get_or keys reach 0) → len ≤ length (take reach keys) → IsPartitionPoint (λ key. nat_lt key past ≡ true) (λ key. nat_lt key past ≡ false) (take reach keys) len → IsCellFront keys level len
front_from_search keys level past reach len ascending past_is some within ends bound point =
    let first = get_or keys 0 0 in
    let long = length-take-le reach keys within in
    let from : (k : ℕ) → k < length keys → first ≤ get_or keys k 0 = λ k inside. ascending 0 k 0 (omega arith) inside in
    let before : (k : ℕ) → k < len → get_or keys k 0 < past = λ k less. (let read = get_or-take reach keys k 0 (omega arith) in let yes = ltb-true (get_or (take reach keys) k 0) past (point.0 k 0 (omega arith) less) in omega (arith, read)) in
    let after : (k : ℕ) → len ≤ k → k < length keys → past ≤ get_or keys k 0 = λ k more inside. elim (cases_lt k reach) [
      | inl near ↦ (let read = get_or-take reach keys k 0 near in let no = ltb-false (get_or (take reach keys) k 0) past (point.1 k 0 more (omega arith)) in omega (arith, read))
      | inr far ↦ (let end = ends (omega arith) in let rise : get_or keys reach 0 ≤ get_or keys k 0 = ascending reach k 0 far inside in omega arith)
    ] in
    let own : first < past = rw past_is ((in_cell first first level (omega arith)).1 refl) in
    record {
      some = elim (cases_lt 0 len) [
        | inl more ↦ more
        | inr none ↦ absurd (let no = after 0 none (omega arith) in omega (arith, own))
      ];
      inside = omega arith;
      whole = λ k inside.
          let cell = in_cell first (get_or keys k 0) level (from k inside) in (
            λ less. same_cell (get_or keys k 0) first level (cell.0 (subst (λ n. get_or keys k 0 < n) past_is (before k less))),
            λ same. elim (cases_lt k len) [
              | inl less ↦ less
              | inr more ↦ absurd (let least = cell.1 (ap (λ (c : Octant). c.key) same) in let no = after k more inside in omega (arith, past_is))
            ],
          );
    }

-- the first key past a cell, from the last bits of a key in it
pub past_from_bits : LevelsTakeThreeBits → (key n : ℕ) → key - bit_and key (2 ^ (3 * n) - 1) + 2 ^ (3 * n) ≡ (key / 8 ^ n + 1) * 8 ^ n
past_from_bits bits key n =
    let width = 2 ^ (3 * n) in
    let rest : bit_and key (width - 1) ≡ key % width = and_mask key (3 * n) in
    let whole : key - bit_and key (width - 1) + width ≡ (key / width + 1) * width = omega (arith, rest, div-add-mod' key width, add-mul (key / width) 1 width, one-mul width) in
    whole ∙ ap (λ w. (key / w + 1) * w) (bits n)

pub width_fits : (n : ℕ) → n ≤ 30 → 2 ^ (3 * n) ≤ 2 ^ 90
width_fits n within =
    let two : 1 ≤ 2 = omega arith in
    let places : 3 * n ≤ 90 = omega arith in
    pow-le-pow_right two places

-- numbers of which no bit differs are equal
same_from_xor : (a b : ℕ) → bit_xor a b ≡ 0 → a ≡ b
same_from_xor a b none =
    sym (xor_zero_r a) ∙ ap (bit_xor a) (sym (xor_self b)) ∙ sym (xor_assoc a b b) ∙ ap (λ n. bit_xor n b) none

-- numbers are equal past their last bits, so many of them, exactly where no other bits differ
equal_past : (a b k : ℕ) → (bit_xor a b < 2 ^ k) ↔ (a / 2 ^ k ≡ b / 2 ^ k)
equal_past a b k = (
  λ few. same_from_xor (a / 2 ^ k) (b / 2 ^ k) (sym (xor_shr a b k) ∙ div-eq_of_lt few),
  λ same.
      let none : bit_xor a b / 2 ^ k ≡ 0 = xor_shr a b k ∙ ap (λ n. bit_xor n (b / 2 ^ k)) same ∙ xor_self (b / 2 ^ k) in
      let whole : 2 ^ k * (bit_xor a b / 2 ^ k + 1) ≡ 2 ^ k = ap (λ q. 2 ^ k * (q + 1)) none ∙ mul-one (2 ^ k) in
      omega (arith, lt-mul-div-succ (bit_xor a b) (pow_pos k), whole),
)

-- a number has at most so many bits exactly where its length is no more
fits_by_length : (n m k : ℕ) → n < 2 ^ m → 2 ^ m ≤ 2 * n + 1 → (n < 2 ^ k) ↔ (m ≤ k)
fits_by_length n m k below above =
    let two : 1 ≤ 2 = omega arith in (
      λ fits. elim (cases_lt k m) [
        | inl less ↦ absurd (let more = pow-le-pow_right two less in omega (arith, more, pow-suc 2 k))
        | inr most ↦ most
      ],
      λ most. (let more = pow-le-pow_right two most in omega (arith, more)),
    )

-- how many bits there are from the highest on in which two keys differ
differing_bits : (one other : ℕ) → one < 2 ^ 90 → other < 2 ^ 90 → (m : ℕ) × (count_leading_zeros 128 (bit_xor one other) + m ≡ 128) × (bit_xor one other < 2 ^ m) × (2 ^ m ≤ 2 * bit_xor one other + 1)
differing_bits one other one_fits other_fits =
    let fits = xor_lt 90 one other one_fits other_fits in
    leading_length 128 (bit_xor one other) (omega arith)

pub leading_bits : (one other : ℕ) → one < 2 ^ 90 → other < 2 ^ 90 → 38 ≤ count_leading_zeros 128 (bit_xor one other)
leading_bits one other one_fits other_fits =
    let top = differing_bits one other one_fits other_fits in
    let short = (fits_by_length (bit_xor one other) top.0 90 top.2 top.3).0 (xor_lt 90 one other one_fits other_fits) in
    omega (arith, top.1)

-- how many levels two keys have in common, from how many of their leading bits are equal
pub levels_in_common : LevelsTakeThreeBits → (one other level : ℕ) → one < 2 ^ 90 → other < 2 ^ 90 → level ≤ 30 → (level < (count_leading_zeros 128 (bit_xor one other) - 38) / 3 + 1) ↔ (cell_of_key one level ≡ cell_of_key other level)
levels_in_common bits one other level one_fits other_fits within =
    let apart = bit_xor one other in
    let top = differing_bits one other one_fits other_fits in
    let m = top.0 in
    let places = 3 * (30 - level) in
    let short = leading_bits one other one_fits other_fits in
    let narrow = fits_by_length apart m places top.2 top.3 in
    let equal = equal_past one other places in
    let width = bits (30 - level) in (
      λ less. same_cell one other level (ap (λ w. one / w) (sym width) ∙ equal.0 (narrow.1 (omega (arith, top.1, less))) ∙ ap (λ w. other / w) width),
      λ same.
          let keys = ap (λ w. one / w) width ∙ ap (λ (c : Octant). c.key) same ∙ ap (λ w. other / w) (sym width) in
          let few = narrow.0 (equal.1 keys) in
          omega (arith, top.1),
    )
