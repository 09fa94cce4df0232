-- What was written is read again.
use Rattle.std.proofs.Common.{◌≡◌, ◌≢◌, ℕ, zero, suc, ◌-◌, false, not, eqb, cond, List, [], ◌∷◌, ◌++◌, length, get_or, append_assoc, map, filter, refl, ap, ap₂, ◌∙◌, arith}
use Rattle.std.specs.List.{AllByRecursion, join_with_byte}
use Rattle.std.specs.Str.Lines.{strip_carriage_return}
use Rattle.std.proofs.lemmas.Bool.{ne_eqb}
use Rattle.text_lines.specs.Lines.{is_blank, is_line_feed, is_skipped, without_empty_last, lines, fields, field_lines_from}
use Rattle.text_lines.specs.Written.{IsFieldByte, IsField, IsWritable, written, numbered_from}
use Rattle.text_lines.proofs.SplitLemmas.{split_none, split_at}
use Rattle.text_lines.proofs.LineLemmas.{without_empty_last-more}

each_weaker : (P Q : ℕ → Type 0) → ((b : ℕ) → P b → Q b) → (bytes : List ℕ) → AllByRecursion P bytes → AllByRecursion Q bytes
each_weaker P Q weaker [] each = tt
each_weaker P Q weaker (b ∷ bytes) each = (weaker b each.0, each_weaker P Q weaker bytes each.1)

each_append : (P : ℕ → Type 0) (xs ys : List ℕ) → AllByRecursion P xs → AllByRecursion P ys → AllByRecursion P (xs ++ ys)
each_append P [] ys first second = second
each_append P (x ∷ xs) ys first second = (first.0, each_append P xs ys first.1 second)

line_bytes : (fs : List (List ℕ)) → AllByRecursion IsField fs → AllByRecursion (λ b. (b ≢ 10) × (b ≢ 13)) (join_with_byte 32 fs)
line_bytes [] each = tt
line_bytes (f ∷ []) each = each_weaker IsFieldByte (λ b. (b ≢ 10) × (b ≢ 13)) (λ b h. (h.no_line_feed, h.no_return)) f each.0.bytes
line_bytes (f ∷ g ∷ more) each =
    each_append (λ b. (b ≢ 10) × (b ≢ 13)) f (32 ∷ join_with_byte 32 (g ∷ more))
    (each_weaker IsFieldByte (λ b. (b ≢ 10) × (b ≢ 13)) (λ b h. (h.no_line_feed, h.no_return)) f each.0.bytes)
    (((λ e. omega arith), (λ e. omega arith)), line_bytes (g ∷ more) each.1)

no_return_at : (bytes : List ℕ) (i : ℕ) → AllByRecursion (λ b. (b ≢ 10) × (b ≢ 13)) bytes → get_or bytes i 0 ≢ 13
no_return_at [] i each = λ e. omega arith
no_return_at (b ∷ bytes) zero each = each.0.1
no_return_at (b ∷ bytes) (suc i) each = no_return_at bytes i each.1

nothing_stripped : (line : List ℕ) → AllByRecursion (λ b. (b ≢ 10) × (b ≢ 13)) line → strip_carriage_return line ≡ line
nothing_stripped line each =
    let other : eqb (get_or line (length line - 1) 0) 13 ≡ false = ne_eqb _ 13 (no_return_at line (length line - 1) each) in
    rw other refl

lines-written : (fs : List (List ℕ)) (more : List (List (List ℕ))) → IsWritable fs → lines (written (fs ∷ more)) ≡ join_with_byte 32 fs ∷ lines (written more)
lines-written fs more good =
    let each = line_bytes fs good.each in
    ap lines (append_assoc (join_with_byte 32 fs) (10 ∷ []) (written more))
    ∙ ap (λ parts. map strip_carriage_return (without_empty_last parts)) (split_at is_line_feed (join_with_byte 32 fs) 10 (written more) (each_weaker (λ b. (b ≢ 10) × (b ≢ 13)) (λ b. is_line_feed b ≡ false) (λ b h. ne_eqb b 10 h.0) (join_with_byte 32 fs) each) refl)
    ∙ ap (map strip_carriage_return) (without_empty_last-more (join_with_byte 32 fs) (written more))
    ∙ ap (λ line. line ∷ lines (written more)) (nothing_stripped (join_with_byte 32 fs) each)

no_blank : (b : ℕ) → IsFieldByte b → is_blank b ≡ false
no_blank b h = rw (ne_eqb b 32 h.no_space, ne_eqb b 9 h.no_tab) refl

no_blanks : (f : List ℕ) → IsField f → AllByRecursion (λ b. is_blank b ≡ false) f
no_blanks f good = each_weaker IsFieldByte (λ b. is_blank b ≡ false) no_blank f good.bytes

some_bytes : (f : List ℕ) → IsField f → eqb (length f) 0 ≡ false
some_bytes f good = let some = good.nonempty in ne_eqb (length f) 0 (λ e. omega arith)

fields-joined : (fs : List (List ℕ)) → AllByRecursion IsField fs → fields (join_with_byte 32 fs) ≡ fs
fields-joined [] each = refl
fields-joined (f ∷ []) each =
    ap (filter (λ part. not (eqb (length part) 0))) (split_none is_blank f (no_blanks f each.0))
    ∙ ap (λ b. cond (not b) (f ∷ []) []) (some_bytes f each.0)
fields-joined (f ∷ g ∷ more) each =
    ap (filter (λ part. not (eqb (length part) 0))) (split_at is_blank f 32 (join_with_byte 32 (g ∷ more)) (no_blanks f each.0) refl)
    ∙ ap (λ b. cond (not b) (f ∷ fields (join_with_byte 32 (g ∷ more))) (fields (join_with_byte 32 (g ∷ more)))) (some_bytes f each.0)
    ∙ ap (λ gs. f ∷ gs) (fields-joined (g ∷ more) each.1)

-- a line is not skipped where its first byte is of a field and is no `#`
begins_field : (b : ℕ) (bytes : List ℕ) → IsFieldByte b → b ≢ 35 → is_skipped (b ∷ bytes) ≡ false
begins_field b bytes good other = rw (no_blank b good) (ne_eqb b 35 other)

not_skipped : (fs : List (List ℕ)) → IsWritable fs → is_skipped (join_with_byte 32 fs) ≡ false
not_skipped [] good = let some = good.some in absurd (omega arith)
not_skipped ([] ∷ more) good = let some = good.each.0.nonempty in absurd (omega arith)
not_skipped ((b ∷ bytes) ∷ []) good = begins_field b bytes good.each.0.bytes.0 (good.no_comment (b ∷ bytes) [] refl)
not_skipped ((b ∷ bytes) ∷ g ∷ more) good = begins_field b (bytes ++ 32 ∷ join_with_byte 32 (g ∷ more)) good.each.0.bytes.0 (good.no_comment (b ∷ bytes) (g ∷ more) refl)

pub field_lines-written : (number : ℕ) (ls : List (List (List ℕ))) → AllByRecursion IsWritable ls → field_lines_from number (lines (written ls)) ≡ numbered_from number ls
field_lines-written number [] good = refl
field_lines-written number (fs ∷ more) good =
    ap (field_lines_from number) (lines-written fs more good.0)
    ∙ ap (λ b. (cond b [] (record { number = number; fields = fields (join_with_byte 32 fs) } ∷ [])) ++ field_lines_from (suc number) (lines (written more))) (not_skipped fs good.0)
    ∙ ap₂ (λ gs rest. record { number = number; fields = gs } ∷ rest) (fields-joined fs good.0.each) (field_lines-written (suc number) more good.1)
