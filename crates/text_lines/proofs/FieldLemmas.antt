-- The first field of a line, and the line after it.
use Rattle.std.proofs.Common.{◌≡◌, ℕ, ◌<◌, Bool, true, false, not, cond, eqb, List, [], ◌∷◌, length, take, drop, refl, sym, ap, ◌∙◌, filter, ⊎_elim, one-add, ◌+◌, ap₂, arith}
use Rattle.std.proofs.lemmas.List.Folds.{length-prefix_len}
use Rattle.std.specs.List.{prefix_len}
use Rattle.std.proofs.lemmas.Bool.{cases_Bool, ne_eqb}
use Rattle.text_lines.specs.Lines.{is_blank, fields}
use Rattle.text_lines.proofs.SplitLemmas.{first_len, split_front, split_rest}

-- a part that is a field
abbrev pub is_some : List ℕ → Bool
is_some part = not (eqb (length part) 0)

-- blanks in front make no field
pub fields-blanks : (line : List ℕ) → fields (drop (prefix_len is_blank line) line) ≡ fields line
fields-blanks [] = refl
fields-blanks (b ∷ bytes) =
    ⊎_elim
    (λ (blank : is_blank b ≡ true). (rw (blank, one-add) (fields-blanks bytes)))
    (λ (other : is_blank b ≡ false). (rw (other, other) refl))
    (cases_Bool (is_blank b))

-- the bytes up to the first blank are the first field, if there are any
pub fields-first : (line : List ℕ) → fields line ≡ cond (is_some (take (first_len is_blank line) line)) (take (first_len is_blank line) line ∷ fields (drop (first_len is_blank line) line)) (fields (drop (first_len is_blank line) line))
fields-first line =
    ap (filter is_some) (split_front is_blank line)
    ∙ ap (λ rest. cond (is_some (take (first_len is_blank line) line)) (take (first_len is_blank line) line ∷ rest) rest) (sym (ap (filter is_some) (split_rest is_blank line)))

-- where no byte stands before the first blank, and the first byte is no blank, there is nothing
nothing_left : (line : List ℕ) → prefix_len is_blank line ≡ 0 → first_len is_blank line ≡ 0 → line ≡ []
nothing_left [] blanks others = refl
nothing_left (b ∷ bytes) blanks others =
    ⊎_elim
    (λ (blank : is_blank b ≡ true). let one : 1 + prefix_len is_blank bytes ≡ 0 = rw blank at blanks in absurd (omega arith))
    (λ (other : is_blank b ≡ false). let one : 1 + first_len is_blank bytes ≡ 0 = rw other at others in absurd (omega arith))
    (cases_Bool (is_blank b))

-- after the blanks no blank is next
no_more_blanks : (line : List ℕ) → prefix_len is_blank (drop (prefix_len is_blank line) line) ≡ 0
no_more_blanks [] = refl
no_more_blanks (b ∷ bytes) =
    ⊎_elim
    (λ (blank : is_blank b ≡ true). (rw (blank, one-add) (no_more_blanks bytes)))
    (λ (other : is_blank b ≡ false). (rw (other, other) refl))
    (cases_Bool (is_blank b))

-- the first field and what follows it, as they are found
pub record IsFirstField (line field rest : List ℕ) : Type 0 where
  pub after_blanks : List ℕ
  pub blanks : after_blanks ≡ drop (prefix_len is_blank line) line
  pub field_is : field ≡ take (first_len is_blank after_blanks) after_blanks
  pub rest_is : rest ≡ drop (first_len is_blank after_blanks) after_blanks

first_len-inside : (line : List ℕ) → length (take (first_len is_blank line) line) ≡ first_len is_blank line
first_len-inside line = length-prefix_len (λ b. not (is_blank b)) line

pub no_field : (line field rest : List ℕ) → IsFirstField line field rest → length field ≡ 0 → (fields line ≡ []) × (fields rest ≡ [])
no_field line field rest found none =
    let none_before : first_len is_blank found.after_blanks ≡ 0 = sym (first_len-inside found.after_blanks) ∙ sym (ap length found.field_is) ∙ none in
    let nothing : found.after_blanks ≡ [] = nothing_left found.after_blanks (ap (prefix_len is_blank) found.blanks ∙ no_more_blanks line) none_before in
    (sym (fields-blanks line) ∙ ap fields (sym found.blanks ∙ nothing), ap fields (found.rest_is ∙ ap (λ bs. drop (first_len is_blank bs) bs) nothing))

pub some_field : (line field rest : List ℕ) → IsFirstField line field rest → 0 < length field → fields line ≡ field ∷ fields rest
some_field line field rest found some =
    let test : eqb (length (take (first_len is_blank found.after_blanks) found.after_blanks)) 0 ≡ false = ne_eqb _ 0 (λ e. let none : length field ≡ 0 = ap length found.field_is ∙ e in omega arith) in
    sym (fields-blanks line) ∙ ap fields (sym found.blanks) ∙ fields-first found.after_blanks
    ∙ ap (λ b. cond (not b) (take (first_len is_blank found.after_blanks) found.after_blanks ∷ fields (drop (first_len is_blank found.after_blanks) found.after_blanks)) (fields (drop (first_len is_blank found.after_blanks) found.after_blanks))) test
    ∙ ap₂ (λ f r. f ∷ fields r) (sym found.field_is) (sym found.rest_is)
