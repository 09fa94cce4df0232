-- The canonical text of particles.
use Rattle.std.proofs.Common.{◌≡◌, ◌≢◌, ℕ, suc, ◌+◌, ◌<◌, ◌^◌, true, ℤ, pos, neg_ℤ, ◌≤ℤ◌, List, [], ◌∷◌, ◌++◌, length, get_or, take, map, append_assoc, refl, sym, ap, ap₂, ◌∙◌, subst, arith}
use Rattle.std.specs.Fmt.{decimal}
use Rattle.std.specs.Prelude.{codes, unsigned_abs, nat_le}
use Rattle.std.specs.Fmt.{signed_decimal}
use Rattle.std.specs.List.{AllByRecursion, flat_map, join_with_byte, list_all}
use Rattle.std.proofs.lemmas.Bool.{and_parts, leb-true}
use Rattle.std.proofs.lemmas.Fmt.{decimal_is_IsNumeral}
use Rattle.std.proofs.lemmas.Str.Parse.{digit_at}
use Rattle.std.proofs.lemmas.Int.{ints}
use Rattle.std.proofs.lemmas.List.{append-nil, take_more}
use Rattle.std.proofs.lemmas.List.Concat.{flat_map-append}
use Rattle.std.proofs.lemmas.List.Folds.{flat_map-map}
use Rattle.std.specs.Int.Signed.{le_z_yes}
use Rattle.pf_model.specs.Particle.{Particle, IsParticle}
use Rattle.pf_model.specs.Particles.{AreBodies}
use Rattle.text_lines.specs.Laws.{IntegersReadBack, DigitsReadBack, WrittenLinesReadBack}
use Rattle.text_lines.specs.Written.{IsFieldByte, IsField, IsWritable, written_line, numbered_from}
use Rattle.particle_file.specs.Columns.{columns, AreWithin, numbers}
use Rattle.particle_file.specs.Printing.{number_fields, lines_of, particles_text}
use Rattle.particle_file.specs.Spelling.{IsPlain, SpellNumbers, SpellParticles, SpellsText}
use Rattle.particle_file.specs.declared.columns.Limits.{Limits}
use Rattle.particle_file.proofs.NumberLemmas.{three_out, numbers-within}

-- numbers within these columns are below 2^64 either way
small_at : (cs : List Limits) (ns : List ℤ) → AllByRecursion (λ c. (neg_ℤ (pos (2 ^ 47)) ≤ℤ c.least) × (c.most ≤ℤ pos (2 ^ 47))) cs → AreWithin cs ns → AllByRecursion (λ n. unsigned_abs n < 2 ^ 64) ns
small_at [] [] narrow within = tt
small_at [] (n ∷ ns) narrow within = absurd within
small_at (c ∷ cs) [] narrow within = absurd within
small_at (c ∷ cs) (n ∷ ns) narrow within =
    let low = narrow.0.0 in
    let high = narrow.0.1 in
    let first : unsigned_abs n < 2 ^ 64 = bounded c.least c.most n low high within.0 within.1 in
    (first, small_at cs ns narrow.1 within.2) where
      bounded : (least most n : ℤ) → neg_ℤ (pos (2 ^ 47)) ≤ℤ least → most ≤ℤ pos (2 ^ 47) → least ≤ℤ n → n ≤ℤ most → unsigned_abs n < 2 ^ 64
      bounded least most n a b low high = omega (arith, ints)

columns_narrow : AllByRecursion (λ c. (neg_ℤ (pos (2 ^ 47)) ≤ℤ c.least) × (c.most ≤ℤ pos (2 ^ 47))) columns
columns_narrow =
    let narrow = λ (c : Limits). (neg_ℤ (pos (2 ^ 47)) ≤ℤ c.least) × (c.most ≤ℤ pos (2 ^ 47)) in
    ((le_z_yes tt, le_z_yes tt), ((le_z_yes tt, le_z_yes tt), ((le_z_yes tt, le_z_yes tt), ((le_z_yes tt, le_z_yes tt), ((le_z_yes tt, le_z_yes tt), ((le_z_yes tt, le_z_yes tt), ((le_z_yes tt, le_z_yes tt), ((le_z_yes tt, le_z_yes tt), ((le_z_yes tt, le_z_yes tt), ((le_z_yes tt, le_z_yes tt), ((le_z_yes tt, le_z_yes tt), ((le_z_yes tt, le_z_yes tt), tt))))))))))))

numbers_small : (p : Particle) → IsParticle p → IsPlain p → AllByRecursion (λ n. unsigned_abs n < 2 ^ 64) (numbers p)
numbers_small p good plain = small_at columns (numbers p) columns_narrow (numbers-within p good plain)

decimals_spell : (ns : List ℤ) → IntegersReadBack → AllByRecursion (λ n. unsigned_abs n < 2 ^ 64) ns → SpellNumbers (map signed_decimal ns) ns
decimals_spell [] back small = tt
decimals_spell (n ∷ ns) back small = let first = back n small.0 in (record { digits = first.1; value = first.2 }, decimals_spell ns back small.1)

decimals_are_fields : (ns : List ℤ) → IntegersReadBack → AllByRecursion (λ n. unsigned_abs n < 2 ^ 64) ns → AllByRecursion IsField (map signed_decimal ns)
decimals_are_fields [] back small = tt
decimals_are_fields (n ∷ ns) back small = ((back n small.0).0, decimals_are_fields ns back small.1)

-- the first byte of a number is a digit
first_digit : (n : ℕ) → n < 2 ^ 64 → get_or (decimal n) 0 0 ≢ 35
first_digit n fits = λ e.
    let numeral = (decimal_is_IsNumeral n fits).0 in
    let range = digit_at (decimal n) 0 numeral.1 numeral.0 in
    omega arith

particle_writable : (p : Particle) → IntegersReadBack → IsParticle p → IsPlain p → IsWritable (number_fields p)
particle_writable p back good plain = record {
  some = omega arith;
  each = decimals_are_fields (numbers p) back (numbers_small p good plain);
  no_comment = λ first more e. let named = good.named in let same : decimal p.id ≡ first = cc in subst (λ f. get_or f 0 0 ≢ 35) same (first_digit p.id (omega arith));
}

particles_writable : (ps : List Particle) → IntegersReadBack → AllByRecursion IsParticle ps → AllByRecursion IsPlain ps → AllByRecursion IsWritable (map number_fields ps)
particles_writable [] back good plain = tt
particles_writable (p ∷ ps) back good plain = (particle_writable p back good.0 plain.0, particles_writable ps back good.1 plain.1)

-- a word of printable bytes
word_bytes : (bytes : List ℕ) → list_all (λ b. nat_le 33 b) bytes ≡ true → AllByRecursion IsFieldByte bytes
word_bytes [] high = tt
word_bytes (b ∷ bytes) high =
    let parts = and_parts (nat_le 33 b) (list_all (λ b. nat_le 33 b) bytes) high in
    let above = leb-true 33 b parts.0 in
    (record { no_line_feed = λ e. omega arith; no_return = λ e. omega arith; no_space = λ e. omega arith; no_tab = λ e. omega arith }, word_bytes bytes parts.1)

header_writable : IsWritable (codes "particles" ∷ codes "1" ∷ [])
header_writable = record {
  some = omega arith;
  each = (record { nonempty = omega arith; bytes = word_bytes (codes "particles") refl }, (record { nonempty = omega arith; bytes = word_bytes (codes "1") refl }, tt));
  no_comment = λ first more e. let same : codes "particles" ≡ first = cc in subst (λ f. get_or f 0 0 ≢ 35) same (λ h. omega arith);
}

count_writable : (n : ℕ) → n < 2 ^ 64 → DigitsReadBack → IsWritable (codes "count" ∷ decimal n ∷ [])
count_writable n fits back = record {
  some = omega arith;
  each = (record { nonempty = omega arith; bytes = word_bytes (codes "count") refl }, ((back n fits).0, tt));
  no_comment = λ first more e. let same : codes "count" ≡ first = cc in subst (λ f. get_or f 0 0 ≢ 35) same (λ h. omega arith);
}

lines_spell : (number : ℕ) (ps : List Particle) → IntegersReadBack → AllByRecursion IsParticle ps → AllByRecursion IsPlain ps → SpellParticles (numbered_from number (map number_fields ps)) ps
lines_spell number [] back good plain = tt
lines_spell number (p ∷ ps) back good plain =
    (record { particle = good.0; plain = plain.0; numbers = decimals_spell (numbers p) back (numbers_small p good.0 plain.0) }, lines_spell (suc number) ps back good.1 plain.1)

-- the text of particles spells them
pub printed_spells : (ps : List Particle) → WrittenLinesReadBack → DigitsReadBack → IntegersReadBack → AreBodies ps → AllByRecursion IsParticle ps → AllByRecursion IsPlain ps → SpellsText (particles_text ps) ps
printed_spells ps lines digits integers bodies good plain =
    let few = bodies.few in
    let fits : length ps < 2 ^ 64 = omega arith in
    let back = digits (length ps) fits in
    record {
      header = record { number = 1; fields = codes "particles" ∷ codes "1" ∷ [] };
      count = record { number = 2; fields = codes "count" ∷ decimal (length ps) ∷ [] };
      lines = numbered_from 3 (map number_fields ps);
      lines_are = lines (lines_of ps) (header_writable, (count_writable (length ps) fits digits, particles_writable ps integers good plain));
      is_header = refl;
      is_count = record { field = decimal (length ps); fields_are = refl; digits = back.1; value = back.2 };
      each = lines_spell 3 ps integers good plain;
      bodies = bodies;
    }

-- fields with single spaces between them: the first, and each other after a space
pub join-after_first : (f : List ℕ) (fs : List (List ℕ)) → join_with_byte 32 (f ∷ fs) ≡ f ++ flat_map (λ g. 32 ∷ g) fs
join-after_first f [] = sym (append-nil f)
join-after_first f (g ∷ fs) = ap (λ t. f ++ (32 ∷ t)) (join-after_first g fs)

-- a line of a number and others
pub written_line-numbers : (id : ℕ) (others : List ℤ) → written_line (map signed_decimal (pos id ∷ others)) ≡ (decimal id ++ flat_map (λ n. 32 ∷ signed_decimal n) others) ++ 10 ∷ []
written_line-numbers id others = ap (λ t. t ++ 10 ∷ []) (join-after_first (decimal id) (map signed_decimal others) ∙ ap (λ t. decimal id ++ t) (flat_map-map (λ g. 32 ∷ g) signed_decimal others))

-- one number more
pub spaced-more : (ns : List ℤ) (i : ℕ) → i < length ns → flat_map (λ n. 32 ∷ signed_decimal n) (take (i + 1) ns) ≡ flat_map (λ n. 32 ∷ signed_decimal n) (take i ns) ++ (32 ∷ signed_decimal (get_or ns i (pos 0)))
spaced-more ns i inside =
    ap (flat_map (λ n. 32 ∷ signed_decimal n)) (take_more ns i (pos 0) inside)
    ∙ flat_map-append (λ n. 32 ∷ signed_decimal n) (take i ns) (get_or ns i (pos 0) ∷ [])
    ∙ ap (λ t. flat_map (λ n. 32 ∷ signed_decimal n) (take i ns) ++ t) (append-nil (32 ∷ signed_decimal (get_or ns i (pos 0))))

-- one particle's line more
pub lines-more : (ps : List Particle) (i : ℕ) (d : Particle) → i < length ps → flat_map (λ p. written_line (number_fields p)) (take (i + 1) ps) ≡ flat_map (λ p. written_line (number_fields p)) (take i ps) ++ written_line (number_fields (get_or ps i d))
lines-more ps i d inside =
    ap (flat_map (λ p. written_line (number_fields p))) (take_more ps i d inside)
    ∙ flat_map-append (λ p. written_line (number_fields p)) (take i ps) (get_or ps i d ∷ [])
    ∙ ap (λ t. flat_map (λ p. written_line (number_fields p)) (take i ps) ++ t) (append-nil (written_line (number_fields (get_or ps i d))))

-- the whole text, as it is written
pub particles_text-is : (ps : List Particle) → ((codes "particles 1\ncount " ++ decimal (length ps)) ++ 10 ∷ []) ++ flat_map (λ p. written_line (number_fields p)) ps ≡ particles_text ps
particles_text-is ps =
    ap (λ t. ((codes "particles 1\ncount " ++ decimal (length ps)) ++ 10 ∷ []) ++ t) (sym (flat_map-map written_line number_fields ps))

pub others-are : (x y z mass : ℤ) (vel attr : List ℤ) → length vel ≡ 3 → length attr ≡ 8
    → x ∷ y ∷ z ∷ get_or vel 0 (pos 0) ∷ get_or vel 1 (pos 0) ∷ get_or vel 2 (pos 0) ∷ mass ∷ get_or attr 0 (pos 0) ∷ get_or attr 1 (pos 0) ∷ get_or attr 2 (pos 0) ∷ get_or attr 3 (pos 0) ∷ []
    ≡ x ∷ y ∷ z ∷ (vel ++ mass ∷ [] ++ take 4 attr)
others-are x y z mass vel attr three eight = ap₂ (λ vs as_. x ∷ y ∷ z ∷ (vs ++ mass ∷ [] ++ as_)) (sym (three_out vel three)) (sym (first_four attr eight)) where
  first_four : (xs : List ℤ) → length xs ≡ 8 → take 4 xs ≡ get_or xs 0 (pos 0) ∷ get_or xs 1 (pos 0) ∷ get_or xs 2 (pos 0) ∷ get_or xs 3 (pos 0) ∷ []
  first_four (a ∷ b ∷ c ∷ d ∷ rest) n = refl
  first_four _ n = absurd (omega arith)

-- a number pushed after a space
pub pushed-more : (old front so_far out mid new num : List ℕ) → out ≡ old ++ (front ++ so_far) → mid ≡ out ++ 32 ∷ [] → new ≡ mid ++ num → new ≡ old ++ (front ++ (so_far ++ (32 ∷ num)))
pushed-more old front so_far out mid new num a b c = c ∙ ap (λ t. t ++ num) (b ∙ ap (λ t. t ++ 32 ∷ []) a) ∙ simp append_assoc
