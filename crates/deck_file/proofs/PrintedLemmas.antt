-- Values that were printed are read again.
use Rattle.std.proofs.Common.{◌≡◌, ◌∙◌, ℕ, suc, ◌*◌, ◌^◌, ◌<◌, ◌≤◌, true, false, ◌&&◌, ◌==◌, nat_le, refl, sym, ap, ap₂, true≢false, lt-ltb, List, [], ◌∷◌, ◌++◌, length, take, drop, get_or, decimal, Some, length-append, append_assoc, arith}
use Rattle.std.specs.Char.{is_ascii_digit}
use Rattle.std.specs.List.{AllByRecursion, list_all, position_or_len}
use Rattle.std.specs.Str.{all_ascii_digits}
use Rattle.std.proofs.lemmas.Bool.{and_parts, le-leb, leb-true, ne_eqb}
use Rattle.std.proofs.lemmas.Bool.Decides.{nat_tests}
use Rattle.std.proofs.lemmas.Fmt.{length-decimal-le}
use Rattle.std.proofs.Math.Nat.{mul-le-mul_left}
use Rattle.pf_geom.specs.declared.edge.Edge.{Edge}
use Rattle.pf_geom.specs.declared.edge.Edge.TheVariants.{Open, Periodic}
use Rattle.pf_model.specs.Criterion.{IsAngle}
use Rattle.pf_model.specs.Division.{Division, IsDivision, IsGrid}
use Rattle.pf_model.specs.declared.limits.TheConstants.{MOST_RANKS}
use Rattle.text_lines.specs.Laws.{DigitsReadBack}
use Rattle.text_lines.specs.Numbers.{is_digits}
use Rattle.text_lines.specs.Written.{IsField, IsFieldByte, IsWritable}
use Rattle.deck_file.specs.declared.keyword.Keyword.{Keyword}
use Rattle.deck_file.specs.declared.keyword.Keyword.TheVariants as keys
use Rattle.deck_file.specs.declared.limits.TheConstants.{MOST_NAME}
use Rattle.deck_file.specs.Keywords.{keyword_text}
use Rattle.deck_file.specs.Printed.{angle_text, division_text, edge_text}
use Rattle.deck_file.specs.Values.{angle_of, angle_with, cut_at, division_of, division_with, edge_of, is_name, is_visible, number_within, slabs}

-- ---- a value cut at a byte

first_place : (byte : ℕ) (front back : List ℕ) → AllByRecursion (λ b. (b == byte) ≡ false) front
    → position_or_len (λ b. b == byte) (front ++ byte ∷ back) ≡ length front
first_place byte [] back others = rw (same byte) refl
  where
    same : (b : ℕ) → (b == b) ≡ true
    same b = grind (arith, nat_tests)
first_place byte (b ∷ front) back others =
    let later = first_place byte front back others.1 in
    rw others.0 (omega arith)

taken : (front back : List ℕ) → take (length front) (front ++ back) ≡ front
taken [] back = refl
taken (b ∷ front) back = ap (λ rest. b ∷ rest) (taken front back)

left : (front back : List ℕ) (byte : ℕ) → drop (suc (length front)) (front ++ byte ∷ back) ≡ back
left [] back byte = refl
left (b ∷ front) back byte = left front back byte

pub cut_at-joined : (byte : ℕ) (front back : List ℕ) → AllByRecursion (λ b. (b == byte) ≡ false) front
    → cut_at byte (front ++ byte ∷ back) ≡ Some (front, back)
cut_at-joined byte front back others =
    let inside : length front < length (front ++ byte ∷ back) = omega (arith, length-append front (byte ∷ back)) in
    rw (first_place byte front back others, lt-ltb _ _ inside) (λ i. Some (taken front (byte ∷ back) i, left front back byte i))

-- ---- numbers

no_digit : (byte : ℕ) → is_ascii_digit byte ≡ false → (digits : List ℕ) → all_ascii_digits digits ≡ true
    → AllByRecursion (λ b. (b == byte) ≡ false) digits
no_digit byte other [] all = tt
no_digit byte other (d ∷ digits) all =
    let parts = and_parts (is_ascii_digit d) (all_ascii_digits digits) all in
    (ne_eqb d byte (λ e. true≢false (sym parts.0 ∙ ap is_ascii_digit e ∙ other)), no_digit byte other digits parts.1)

all_digits : (digits : List ℕ) → is_digits digits ≡ true → all_ascii_digits digits ≡ true
all_digits [] h = cc
all_digits (d ∷ digits) h = h

-- each factor is at most the product
pub slab_counts : (x y z : ℕ) → IsGrid x y z → (x ≤ MOST_RANKS) × (y ≤ MOST_RANKS) × (z ≤ MOST_RANKS)
slab_counts x y z h =
    let x_below : x * 1 ≤ x * y = mul-le-mul_left x h.some_y in
    let y_below : y * 1 ≤ y * x = mul-le-mul_left y h.some_x in
    let some : 1 ≤ x * y = omega (arith, h.some_x) in
    let xy_below : x * y * 1 ≤ x * y * z = mul-le-mul_left (x * y) h.some_z in
    let z_below : z * 1 ≤ z * (x * y) = mul-le-mul_left z some in
    (omega (arith, h.few), omega (arith, h.few), omega (arith, h.few))

module _ (digits_back : DigitsReadBack) where
  decimal_without : (byte : ℕ) → is_ascii_digit byte ≡ false → (n : ℕ) → n < 2 ^ 64 → AllByRecursion (λ b. (b == byte) ≡ false) (decimal n)
  decimal_without byte other n small = no_digit byte other (decimal n) (all_digits (decimal n) (digits_back n small).1)

  pub number_of-decimal : (least most n : ℕ) → least ≤ n → n ≤ most → most < 10 ^ 10 → number_within least most (decimal n) ≡ Some n
  number_of-decimal least most n low high short =
      let small : n < 2 ^ 64 = omega arith in
      let below : n < 10 ^ 10 = omega arith in
      let len : length (decimal n) ≤ 10 = length-decimal-le 10 n (omega arith) below small in
      let back = digits_back n small in
      rw (le-leb _ _ len, back.1, back.2, le-leb _ _ low, le-leb _ _ high) refl

  pub angle_of-text : (a b : ℕ) → IsAngle a b → angle_of (angle_text a b) ≡ Some (a, b)
  angle_of-text a b within =
      let small : a < 2 ^ 64 = omega (arith, within.numerator_fits) in
      let above = number_of-decimal 0 1024 a (omega arith) within.numerator_fits (omega arith) in
      let below = number_of-decimal 1 1024 b within.denominator_positive within.denominator_fits (omega arith) in
      rw (cut_at-joined 47 (decimal a) (decimal b) (decimal_without 47 refl a small)) (ap₂ angle_with above below)

  slabs-decimal : (n : ℕ) → 1 ≤ n → n ≤ MOST_RANKS → slabs (decimal n) ≡ Some n
  slabs-decimal n some few = number_of-decimal 1 MOST_RANKS n some few (omega arith)

  pub division_of-text : (grid : Division) → IsDivision grid → division_of (division_text grid) ≡ Some grid
  division_of-text grid within =
      let x = decimal grid.nx in
      let y = decimal grid.ny in
      let z = decimal grid.nz in
      let few = slab_counts grid.nx grid.ny grid.nz within in
      let x_small : grid.nx < 2 ^ 64 = omega (arith, few.0) in
      let y_small : grid.ny < 2 ^ 64 = omega (arith, few.1) in
      let product = le-leb _ _ within.few in
      let nx = slabs-decimal grid.nx within.some_x few.0 in
      let ny = slabs-decimal grid.ny within.some_y few.1 in
      let nz = slabs-decimal grid.nz within.some_z few.2 in
      let made : division_with (slabs x) (slabs y) (slabs z) ≡ Some grid =
      ap₂ (λ a b. division_with a b (slabs z)) nx ny ∙ ap (division_with (Some grid.nx) (Some grid.ny)) nz ∙ rw product refl in
      ap division_of (append_assoc x (120 ∷ y) (120 ∷ z))
      ∙ rw (cut_at-joined 120 x (y ++ 120 ∷ z) (decimal_without 120 refl grid.nx x_small), cut_at-joined 120 y z (decimal_without 120 refl grid.ny y_small)) made

-- ---- names and edges

pub edge_of-text : (edge : Edge) → edge_of (edge_text edge) ≡ Some edge
edge_of-text Open = refl
edge_of-text Periodic = refl

-- ---- fields

visible_byte : (b : ℕ) → is_visible b ≡ true → IsFieldByte b
visible_byte b visible =
    let low : 33 ≤ b = leb-true 33 b (and_parts (nat_le 33 b) (nat_le b 126) visible).0 in
    record { no_line_feed = λ e. omega arith; no_return = λ e. omega arith; no_space = λ e. omega arith; no_tab = λ e. omega arith }

visible_bytes : (bytes : List ℕ) → list_all is_visible bytes ≡ true → AllByRecursion IsFieldByte bytes
visible_bytes [] visible = tt
visible_bytes (b ∷ bytes) visible =
    let parts = and_parts (is_visible b) (list_all is_visible bytes) visible in
    (visible_byte b parts.0, visible_bytes bytes parts.1)

pub name_field : (name : List ℕ) → is_name name ≡ true → IsField name
name_field name h =
    let outer = and_parts (nat_le 1 (length name) && nat_le (length name) MOST_NAME) (list_all is_visible name) h in
    let inner = and_parts (nat_le 1 (length name)) (nat_le (length name) MOST_NAME) outer.0 in
    let some = leb-true 1 (length name) inner.0 in
    record { nonempty = omega arith; bytes = visible_bytes name outer.1 }

keyword_name : (key : Keyword) → is_name (keyword_text key) ≡ true
keyword_name keys.Kernel = refl
keyword_name keys.Particles = refl
keyword_name keys.Out = refl
keyword_name keys.Grid = refl
keyword_name keys.Theta = refl
keyword_name keys.Group = refl
keyword_name keys.Steps = refl
keyword_name keys.Dt = refl
keyword_name keys.Reuse = refl
keyword_name keys.Box = refl

begins_other : (key : Keyword) → (get_or (keyword_text key) 0 0 == 35) ≡ false
begins_other keys.Kernel = refl
begins_other keys.Particles = refl
begins_other keys.Out = refl
begins_other keys.Grid = refl
begins_other keys.Theta = refl
begins_other keys.Group = refl
begins_other keys.Steps = refl
begins_other keys.Dt = refl
begins_other keys.Reuse = refl
begins_other keys.Box = refl

pub edge_field : (edge : Edge) → IsField (edge_text edge)
edge_field Open = name_field (edge_text Open) refl
edge_field Periodic = name_field (edge_text Periodic) refl

both_bytes : (xs ys : List ℕ) → AllByRecursion IsFieldByte xs → AllByRecursion IsFieldByte ys → AllByRecursion IsFieldByte (xs ++ ys)
both_bytes [] ys first second = second
both_bytes (x ∷ xs) ys first second = (first.0, both_bytes xs ys first.1 second)

-- two fields with a byte between them
pub joined_field : (front : List ℕ) (byte : ℕ) (back : List ℕ) → IsField front → is_visible byte ≡ true → IsField back → IsField (front ++ byte ∷ back)
joined_field front byte back first between second = record {
  nonempty = omega (arith, length-append front (byte ∷ back));
  bytes = both_bytes front (byte ∷ back) first.bytes (visible_byte byte between, second.bytes);
}

-- the line of a key with its value
pub setting_line : (key : Keyword) {value : List ℕ} → IsField value → IsWritable (keyword_text key ∷ value ∷ [])
setting_line key {value} field = record {
  some = omega arith;
  each = (name_field (keyword_text key) (keyword_name key), (field, tt));
  no_comment = λ first more is hash.
      let same : keyword_text key ≡ first = cc is in
      true≢false (sym (eqb_same 35) ∙ ap (λ b. b == 35) (sym hash) ∙ ap (λ t. get_or t 0 0 == 35) (sym same) ∙ begins_other key);
}
  where
    eqb_same : (b : ℕ) → (b == b) ≡ true
    eqb_same b = grind (arith, nat_tests)
