-- The first line of a text, and the text after it.
use Rattle.std.proofs.Common.{◌≡◌, ℕ, ◌+◌, ◌<◌, false, eqb, List, [], ◌∷◌, length, take, drop, refl, sym, ap, ◌∙◌, map, arith, take-append-drop, length-append}
use Rattle.std.specs.List.{slice_split}
use Rattle.std.specs.Str.Lines.{strip_carriage_return}
use Rattle.std.proofs.lemmas.Bool.{ne_eqb}
use Rattle.text_lines.specs.Lines.{is_line_feed, without_empty_last, lines}
use Rattle.text_lines.proofs.SplitLemmas.{first_len, parts_after, split_front}

-- how many bytes the first line has, with its carriage return
abbrev pub line_len : List ℕ → ℕ
line_len text = first_len is_line_feed text

-- a part that others follow is no empty last one
pub without_empty_last-more : (part : List ℕ) (text : List ℕ) → without_empty_last (part ∷ slice_split is_line_feed text) ≡ part ∷ without_empty_last (slice_split is_line_feed text)
without_empty_last-more part text = rw (split_front is_line_feed text) refl

without_empty_last-one : (part : List ℕ) → 0 < length part → without_empty_last (part ∷ []) ≡ part ∷ []
without_empty_last-one part some =
    let test : eqb (length part) 0 ≡ false = ne_eqb (length part) 0 (λ e. omega arith) in
    rw test refl

-- by what stands after the first line: nothing, or its line feed and the other lines
lines_by_rest : (part rest : List ℕ) → (rest ≡ [] → 0 < length part) → without_empty_last (part ∷ parts_after is_line_feed rest) ≡ part ∷ without_empty_last (slice_split is_line_feed (drop 1 rest))
lines_by_rest part [] some = without_empty_last-one part (some refl)
lines_by_rest part (feed ∷ rest) some = without_empty_last-more part rest

pub lines-first : (text : List ℕ) → 0 < length text → lines text ≡ strip_carriage_return (take (line_len text) text) ∷ lines (drop 1 (drop (line_len text) text))
lines-first text some =
    ap (λ parts. map strip_carriage_return (without_empty_last parts)) (split_front is_line_feed text)
    ∙ ap (map strip_carriage_return) (lines_by_rest (take (line_len text) text) (drop (line_len text) text)
    (λ ends.
    let whole : length text ≡ length (take (line_len text) text) + length (drop (line_len text) text) = ap length (sym (take-append-drop (line_len text) text)) ∙ length-append (take (line_len text) text) (drop (line_len text) text) in
    let none : length (drop (line_len text) text) ≡ 0 = ap length ends in
    omega arith))
