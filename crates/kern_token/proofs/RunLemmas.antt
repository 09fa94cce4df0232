-- Runs of bytes that pass a test, and the pieces that begin with such a byte.
use Rattle.std.proofs.Common.{◌≡◌, ℕ, ◌+◌, ◌/◌, ◌%◌, ◌<◌, ◌≤◌, Bool, true, false, not, eqb, List, [], ◌∷◌, ◌++◌, length, get_or, take, drop, Option, Some, None, sym, refl, ap, ◌∙◌, subst, inr, ⊎_elim, take-append-drop, one-add, arith}
use Rattle.std.specs.Prelude.{IsTrue, take_while}
use Rattle.std.specs.Char.{is_ascii_digit}
use Rattle.std.specs.Str.Parse.{AllDigits, IsNumeral}
use Rattle.std.specs.Fmt.{decimal}
use Rattle.std.specs.List.{AllByRecursion, list_all, prefix_len}
use Rattle.std.proofs.lemmas.Bool.{and_parts, cases_Bool, ne_eqb, eqb-false, not-true}
use Rattle.std.proofs.lemmas.Bool.Decides.{nat_tests}
use Rattle.std.proofs.lemmas.List.Sums.{prefix_len-le-length}
use Rattle.std.proofs.lemmas.List.Folds.{length-prefix_len}
use Rattle.kern_token.specs.declared.token.TokenKind.{TokenKind}
use Rattle.kern_token.specs.declared.token.TokenKind.TheVariants as kinds
use Rattle.kern_token.specs.declared.token.Word.{Word}
use Rattle.kern_token.specs.declared.token.Word.TheVariants as words
use Rattle.kern_token.proofs.FirstBytes.{class_of, class_of_kind, class_of_piece, class_of-name_start, class_of-digit, digit_test, digit_value_below}
use Rattle.kern_token.specs.Pieces.{Piece, IsToken, IsNameLike, IsPiece, Begins, is_name_byte, is_name_start, is_space}
use Rattle.kern_token.specs.Spelling.{word_text}
use Rattle.kern_token.proofs.Decimals.{decimal_forms}

-- each byte passes the test
abbrev pub EachPasses : (ℕ → Bool) → List ℕ → Type 0
EachPasses test xs = AllByRecursion (λ b. IsTrue (test b)) xs

EachPasses-from_test : (test : ℕ → Bool) (xs : List ℕ) → list_all test xs ≡ true → EachPasses test xs
EachPasses-from_test test [] h = tt
EachPasses-from_test test (x ∷ xs) h =
    let parts = and_parts (test x) (list_all test xs) h in (parts.0, EachPasses-from_test test xs parts.1)

-- a run that passes is no longer than the longest
pub length-le-prefix_len : (test : ℕ → Bool) (xs ys : List ℕ) → EachPasses test xs → length xs ≤ prefix_len test (xs ++ ys)
length-le-prefix_len test [] ys all = omega arith
length-le-prefix_len test (x ∷ xs) ys all =
    let passes : test x ≡ true = all.0 in
    rw passes (omega (arith, length-le-prefix_len test xs ys all.1))

-- the longest run is a piece that begins the text, where every piece that begins it is such a run
pub Begins-run : (test : ℕ → Bool) (text : List ℕ) (kind : Option TokenKind) (n : ℕ) → n ≡ length (take_while test text) → IsPiece (record { kind = kind; bytes = take n text }) → ((other : Piece) (after : List ℕ) → IsPiece other → text ≡ other.bytes ++ after → EachPasses test other.bytes) → Begins text (record { kind = kind; bytes = take n text }) (drop n text)
Begins-run test text kind n is piece runs =
    let run : n ≡ prefix_len test text = is ∙ length-prefix_len test text in
    let whole : length (take n text) ≡ n = ap (λ k. length (take k text)) run ∙ length-prefix_len test text ∙ sym run in
    record {
      whole = piece;
      front = sym (take-append-drop n text);
      longest = λ other after other_piece front.
          let shorter = length-le-prefix_len test other.bytes after (runs other after other_piece front) in
          let same : prefix_len test text ≡ prefix_len test (other.bytes ++ after) = ap (prefix_len test) front in
          omega arith;
    }

-- the bytes of the longest run pass
EachPasses-take_while : (test : ℕ → Bool) (xs : List ℕ) → EachPasses test (take_while test xs)
EachPasses-take_while test [] = tt
EachPasses-take_while test (x ∷ xs) =
    ⊎_elim
    (λ (passes : test x ≡ true). rw (passes, one-add) (passes, EachPasses-take_while test xs))
    (λ (fails : test x ≡ false). rw fails tt)
    (cases_Bool (test x))

take-run : (test : ℕ → Bool) (text : List ℕ) (n : ℕ) → n ≡ length (take_while test text) → take n text ≡ take_while test text
take-run test text n is = ap (λ k. take k text) (is ∙ length-prefix_len test text)

pub run_inside : (test : ℕ → Bool) (text : List ℕ) (n : ℕ) → n ≡ length (take_while test text) → n ≤ length text
run_inside test text n is =
    let run : n ≡ prefix_len test text = is ∙ length-prefix_len test text in
    omega (arith, prefix_len-le-length test text)

word_bytes : (word : Word) → list_all is_name_byte (word_text word) ≡ true
word_bytes words.Epi = refl
word_bytes words.Epj = refl
word_bytes words.Force = refl
word_bytes words.Param = refl
word_bytes words.Num = refl
word_bytes words.Vec = refl
word_bytes words.Sum = refl
word_bytes words.Max = refl
word_bytes words.Min = refl
word_bytes words.If = refl
word_bytes words.Else = refl
word_bytes words.To = refl
word_bytes words.Muldiv = refl
word_bytes words.Isqrt = refl
word_bytes words.Abs = refl

name_byte_from_start : (b : ℕ) → is_name_start b ≡ true → is_name_byte b ≡ true
name_byte_from_start b start = grind (arith, nat_tests)

name_byte_from_digit : (n : ℕ) → n < 10 → is_name_byte (48 + n) ≡ true
name_byte_from_digit n small = grind (arith, nat_tests)

decimal_name_bytes : (n : ℕ) → n ≤ 62 → EachPasses is_name_byte (decimal n)
decimal_name_bytes n limit =
    ⊎_elim
    (λ one. subst (EachPasses is_name_byte) (sym one.1) (name_byte_from_digit n one.0, tt))
    (λ two. subst (EachPasses is_name_byte) (sym two.1) (name_byte_from_digit (n / 10) (omega arith), (name_byte_from_digit (n % 10) (omega arith), tt)))
    (decimal_forms n limit)

-- a piece that begins as a name does has only bytes of names
name_piece : (kind : Option TokenKind) (b : ℕ) (bytes : List ℕ) → class_of b ≡ 1 → class_of b ≡ class_of_kind kind → IsPiece (record { kind = kind; bytes = b ∷ bytes }) → EachPasses is_name_byte (b ∷ bytes)
name_piece None b bytes class same piece = absurd (omega arith)
name_piece (Some (kinds.Name name)) b bytes class same piece =
    (name_byte_from_start b piece.1.name_like.0, piece.1.name_like.1)
name_piece (Some (kinds.Word word)) b bytes class same piece =
    subst (EachPasses is_name_byte) (sym piece) (EachPasses-from_test is_name_byte (word_text word) (word_bytes word))
name_piece (Some (kinds.Scale scale)) b bytes class same piece =
    subst (EachPasses is_name_byte) (sym piece.spelled) (refl, decimal_name_bytes scale piece.limit)
name_piece (Some (kinds.Number number)) b bytes class same piece = absurd (omega arith)
name_piece (Some (kinds.Symbol symbol)) b bytes class same piece = absurd (omega arith)

digits_pass : (bytes : List ℕ) → AllDigits 10 bytes → EachPasses is_ascii_digit bytes
digits_pass [] digits = tt
digits_pass (b ∷ bytes) digits = (digit_test b digits.0, digits_pass bytes digits.1)

-- a piece that begins with a digit has only digits
digit_piece : (kind : Option TokenKind) (b : ℕ) (bytes : List ℕ) → class_of b ≡ 2 → class_of b ≡ class_of_kind kind → IsPiece (record { kind = kind; bytes = b ∷ bytes }) → EachPasses is_ascii_digit (b ∷ bytes)
digit_piece None b bytes class same piece = absurd (omega arith)
digit_piece (Some (kinds.Name name)) b bytes class same piece = absurd (omega arith)
digit_piece (Some (kinds.Word word)) b bytes class same piece = absurd (omega arith)
digit_piece (Some (kinds.Scale scale)) b bytes class same piece = absurd (omega arith)
digit_piece (Some (kinds.Number number)) b bytes class same piece = digits_pass (b ∷ bytes) piece.0.1
digit_piece (Some (kinds.Symbol symbol)) b bytes class same piece = absurd (omega arith)

-- a byte of a comment
abbrev pub is_line_byte : ℕ → Bool
is_line_byte b = not (eqb b 10)

line_passes : (bytes : List ℕ) → AllByRecursion (λ b. b ≡ 10 → ⊥) bytes → EachPasses is_line_byte bytes
line_passes [] line = tt
line_passes (b ∷ bytes) line = (ap not (ne_eqb b 10 line.0), line_passes bytes line.1)

-- a piece that begins with `#` has no line feed
comment_piece : (kind : Option TokenKind) (bytes : List ℕ) → 0 ≡ class_of_kind kind → IsPiece (record { kind = kind; bytes = 35 ∷ bytes }) → EachPasses is_line_byte (35 ∷ bytes)
comment_piece None bytes same piece =
    ⊎_elim
    (λ (blank : (is_space 35 ≡ true) × (bytes ≡ [])). let never : is_space 35 ≡ true = blank.0 in cc)
    (λ comment. (refl, line_passes bytes comment.1))
    piece
comment_piece (Some (kinds.Name name)) bytes same piece = absurd (omega arith)
comment_piece (Some (kinds.Word word)) bytes same piece = absurd (omega arith)
comment_piece (Some (kinds.Scale scale)) bytes same piece = absurd (omega arith)
comment_piece (Some (kinds.Number number)) bytes same piece = absurd (omega arith)
comment_piece (Some (kinds.Symbol symbol)) bytes same piece = absurd (omega arith)

comment_from_hash : (kind : Option TokenKind) (b : ℕ) (bytes : List ℕ) → b ≡ 35 → IsPiece (record { kind = kind; bytes = b ∷ bytes }) → EachPasses is_line_byte (b ∷ bytes)
comment_from_hash kind b bytes hash piece =
    let piece_35 = subst (λ (d : ℕ). IsPiece (record { kind = kind; bytes = d ∷ bytes })) hash piece in
    subst (λ (d : ℕ). EachPasses is_line_byte (d ∷ bytes)) (sym hash)
    (comment_piece kind bytes (class_of_piece kind 35 bytes piece_35) piece_35)

line_from_passes : (bytes : List ℕ) → EachPasses is_line_byte bytes → AllByRecursion (λ b. b ≡ 10 → ⊥) bytes
line_from_passes [] line = tt
line_from_passes (b ∷ bytes) line = (eqb-false b 10 (not-true (eqb b 10) line.0), line_from_passes bytes line.1)

-- the pieces at the front of a text begin with its first byte
pub at_front : (Runs : List ℕ → Type 0) (b : ℕ) (text : List ℕ) → Runs [] → ((kind : Option TokenKind) (bytes : List ℕ) → IsPiece (record { kind = kind; bytes = b ∷ bytes }) → Runs (b ∷ bytes)) → (kind : Option TokenKind) (bytes after : List ℕ) → IsPiece (record { kind = kind; bytes = bytes }) → b ∷ text ≡ bytes ++ after → Runs bytes
at_front Runs b text none some kind [] after piece front = none
at_front Runs b text none some kind (c ∷ bytes) after piece front =
    let first : c ≡ b = cc in
    subst (λ (d : ℕ). Runs (d ∷ bytes)) (sym first) (some kind bytes (subst (λ (d : ℕ). IsPiece (record { kind = kind; bytes = d ∷ bytes })) first piece))

-- the pieces at the front of a text that begins as a name does, with a digit or with `#`
pub name_fronts : (b : ℕ) (text : List ℕ) → is_name_start b ≡ true → (other : Piece) (after : List ℕ) → IsPiece other → b ∷ text ≡ other.bytes ++ after → EachPasses is_name_byte other.bytes
name_fronts b text start other after =
    at_front (EachPasses is_name_byte) b text tt
    (λ kind bytes piece. name_piece kind b bytes (class_of-name_start b start) (class_of_piece kind b bytes piece) piece)
    other.kind other.bytes after

pub digit_fronts : (b : ℕ) (text : List ℕ) → is_ascii_digit b ≡ true → (other : Piece) (after : List ℕ) → IsPiece other → b ∷ text ≡ other.bytes ++ after → EachPasses is_ascii_digit other.bytes
digit_fronts b text digit other after =
    at_front (EachPasses is_ascii_digit) b text tt
    (λ kind bytes piece. digit_piece kind b bytes (class_of-digit b digit) (class_of_piece kind b bytes piece) piece)
    other.kind other.bytes after

pub comment_fronts : (b : ℕ) (text : List ℕ) → b ≡ 35 → (other : Piece) (after : List ℕ) → IsPiece other → b ∷ text ≡ other.bytes ++ after → EachPasses is_line_byte other.bytes
comment_fronts b text hash other after =
    at_front (EachPasses is_line_byte) b text tt
    (λ kind bytes piece. comment_from_hash kind b bytes hash piece)
    other.kind other.bytes after

pub Begins-name : (text : List ℕ) (kind : TokenKind) (n : ℕ) → n ≡ length (take_while is_name_byte text) → 0 < length text → is_name_start (get_or text 0 0) ≡ true → IsToken kind (take n text) → Begins text (record { kind = Some kind; bytes = take n text }) (drop n text)
Begins-name [] kind n is nonempty start token = absurd (omega arith)
Begins-name (b ∷ text) kind n is nonempty start token =
    Begins-run is_name_byte (b ∷ text) (Some kind) n is token (name_fronts b text start)

pub Begins-digits : (text : List ℕ) (kind : TokenKind) (n : ℕ) → n ≡ length (take_while is_ascii_digit text) → 0 < length text → is_ascii_digit (get_or text 0 0) ≡ true → IsToken kind (take n text) → Begins text (record { kind = Some kind; bytes = take n text }) (drop n text)
Begins-digits [] kind n is nonempty digit token = absurd (omega arith)
Begins-digits (b ∷ text) kind n is nonempty digit token =
    Begins-run is_ascii_digit (b ∷ text) (Some kind) n is token (digit_fronts b text digit)

comment_run : (b : ℕ) (text : List ℕ) → b ≡ 35 → IsPiece (record { kind = None; bytes = take_while is_line_byte (b ∷ text) })
comment_run b text hash =
    let test : is_line_byte b ≡ true = ap is_line_byte hash in
    rw (test, one-add) (inr (hash, line_from_passes (take_while is_line_byte text) (EachPasses-take_while is_line_byte text)))

pub Begins-comment : (text : List ℕ) (n : ℕ) → n ≡ length (take_while is_line_byte text) → 0 < length text → get_or text 0 0 ≡ 35 → Begins text (record { kind = None; bytes = take n text }) (drop n text)
Begins-comment [] n is nonempty hash = absurd (omega arith)
Begins-comment (b ∷ text) n is nonempty hash =
    Begins-run is_line_byte (b ∷ text) None n is
    (subst (λ (bytes : List ℕ). IsPiece (record { kind = None; bytes = bytes })) (sym (take-run is_line_byte (b ∷ text) n is)) (comment_run b text hash))
    (comment_fronts b text hash)

pub IsNameLike-front : (text : List ℕ) (n : ℕ) → n ≡ length (take_while is_name_byte text) → 0 < length text → is_name_start (get_or text 0 0) ≡ true → IsNameLike (take n text)
IsNameLike-front [] n is nonempty start = absurd (omega arith)
IsNameLike-front (b ∷ text) n is nonempty start =
    let test : is_name_byte b ≡ true = name_byte_from_start b start in
    rw (take-run is_name_byte (b ∷ text) n is, test, one-add) (start, EachPasses-take_while is_name_byte text)

digits_from_passes : (bytes : List ℕ) → EachPasses is_ascii_digit bytes → AllDigits 10 bytes
digits_from_passes [] digits = tt
digits_from_passes (b ∷ bytes) digits = (digit_value_below b digits.0, digits_from_passes bytes digits.1)

pub IsNumeral-front : (text : List ℕ) (n : ℕ) → n ≡ length (take_while is_ascii_digit text) → 0 < length text → is_ascii_digit (get_or text 0 0) ≡ true → IsNumeral 10 (take n text)
IsNumeral-front [] n is nonempty digit = absurd (omega arith)
IsNumeral-front (b ∷ text) n is nonempty digit =
    let test : is_ascii_digit b ≡ true = digit in
    rw (take-run is_ascii_digit (b ∷ text) n is, test, one-add) (omega arith, (digit_value_below b digit, digits_from_passes _ (EachPasses-take_while is_ascii_digit text)))
