-- A text splits into pieces in one way.
use Rattle.std.proofs.Common.{◌≡◌, ℕ, ◌<◌, false, eqb, List, [], ◌∷◌, ◌++◌, length, get_or, take, drop, Option, Some, None, Result, Ok, Err, sym, refl, ap, ◌∙◌, subst, ◌⊎◌, inl, inr, ⊎_elim, length-append, arith}
use Rattle.std.specs.Prelude.{IfSome}
use Rattle.std.specs.Fmt.{decimal}
use Rattle.std.proofs.lemmas.Fmt.{decimal_injective}
use Rattle.std.proofs.lemmas.List.{take_at, drop_at}
use Rattle.kern_token.specs.declared.fault.KernFault.{KernFault}
use Rattle.kern_token.specs.declared.fault.KernFault.TheVariants as faults
use Rattle.kern_token.specs.declared.token.Token.{Token}
use Rattle.kern_token.specs.declared.token.TokenKind.{TokenKind}
use Rattle.kern_token.specs.declared.token.TokenKind.TheVariants as kinds
use Rattle.kern_token.specs.declared.token.Word.{Word}
use Rattle.kern_token.specs.declared.token.Word.TheVariants as words
use Rattle.kern_token.specs.Pieces.{Piece, Begins, IsPiece, IsScale}
use Rattle.kern_token.specs.Reading.{IsInLimit, Splits, place_after, tokens_of, Spells, BeginsBadly, BeginsTooLarge, IsFaultAt, HasFirstTokenFault, Reads}
use Rattle.kern_token.specs.Spelling.{word_text}
use Rattle.kern_token.proofs.Tables.{same_word, same_symbol}
use Rattle.kern_token.proofs.FirstBytes.{class_of_kind, class_of_piece, IsPiece-nonempty}

-- no word begins with `S`
word_no_scale : (word : Word) → eqb (get_or (word_text word) 0 35) 83 ≡ false
word_no_scale words.Epi = refl
word_no_scale words.Epj = refl
word_no_scale words.Force = refl
word_no_scale words.Param = refl
word_no_scale words.Num = refl
word_no_scale words.Vec = refl
word_no_scale words.Sum = refl
word_no_scale words.Max = refl
word_no_scale words.Min = refl
word_no_scale words.If = refl
word_no_scale words.Else = refl
word_no_scale words.To = refl
word_no_scale words.Muldiv = refl
word_no_scale words.Isqrt = refl
word_no_scale words.Abs = refl

word_or_scale : {X : Type 0} (word : Word) (scale : ℕ) (bytes : List ℕ) → bytes ≡ word_text word → IsScale scale bytes → X
word_or_scale word scale bytes is_word is_scale =
    let first = ap (λ (xs : List ℕ). eqb (get_or xs 0 35) 83) (sym is_word ∙ is_scale.spelled) in
    let other = word_no_scale word in
    cc

-- bytes are a piece of one kind
same_kind : (a b : Option TokenKind) (bytes : List ℕ) → class_of_kind a ≡ class_of_kind b → IsPiece (record { kind = a; bytes = bytes }) → IsPiece (record { kind = b; bytes = bytes }) → a ≡ b
same_kind None None bytes same p q = refl
same_kind None (Some (kinds.Name n)) bytes same p q = absurd (omega arith)
same_kind None (Some (kinds.Word n)) bytes same p q = absurd (omega arith)
same_kind None (Some (kinds.Scale n)) bytes same p q = absurd (omega arith)
same_kind None (Some (kinds.Number n)) bytes same p q = absurd (omega arith)
same_kind None (Some (kinds.Symbol n)) bytes same p q = absurd (omega arith)
same_kind (Some (kinds.Name m)) (Some (kinds.Name n)) bytes same p q = ap (λ name. Some (kinds.Name name)) (p.0 ∙ sym q.0)
same_kind (Some (kinds.Name m)) (Some (kinds.Word n)) bytes same p q = absurd (p.1.no_word n q)
same_kind (Some (kinds.Name m)) (Some (kinds.Scale n)) bytes same p q = absurd (p.1.no_scale n q)
same_kind (Some (kinds.Name m)) other bytes same p q = absurd (omega arith)
same_kind (Some (kinds.Word m)) (Some (kinds.Name n)) bytes same p q = absurd (q.1.no_word m p)
same_kind (Some (kinds.Word m)) (Some (kinds.Word n)) bytes same p q = ap (λ word. Some (kinds.Word word)) (same_word m n (sym p ∙ q))
same_kind (Some (kinds.Word m)) (Some (kinds.Scale n)) bytes same p q = word_or_scale m n bytes p q
same_kind (Some (kinds.Word m)) other bytes same p q = absurd (omega arith)
same_kind (Some (kinds.Scale m)) (Some (kinds.Name n)) bytes same p q = absurd (q.1.no_scale m p)
same_kind (Some (kinds.Scale m)) (Some (kinds.Word n)) bytes same p q = word_or_scale n m bytes q p
same_kind (Some (kinds.Scale m)) (Some (kinds.Scale n)) bytes same p q =
    let spelled : 83 ∷ decimal m ≡ 83 ∷ decimal n = sym p.spelled ∙ q.spelled in
    let digits : decimal m ≡ decimal n = cc in
    ap (λ scale. Some (kinds.Scale scale)) (decimal_injective m n (omega (arith, p.limit)) (omega (arith, q.limit)) digits)
same_kind (Some (kinds.Scale m)) other bytes same p q = absurd (omega arith)
same_kind (Some (kinds.Number m)) (Some (kinds.Number n)) bytes same p q = ap (λ number. Some (kinds.Number number)) (p.1 ∙ sym q.1)
same_kind (Some (kinds.Number m)) other bytes same p q = absurd (omega arith)
same_kind (Some (kinds.Symbol m)) (Some (kinds.Symbol n)) bytes same p q = ap (λ symbol. Some (kinds.Symbol symbol)) (same_symbol m n (sym p ∙ q))
same_kind (Some (kinds.Symbol m)) other bytes same p q = absurd (omega arith)

-- what begins a text, and what follows
pub record IsSame (piece other : Piece) (rest after : List ℕ) : Type 0 where
  pub piece_is : piece ≡ other
  pub rest_is : rest ≡ after

same_kind_at : (a b : Option TokenKind) (bytes : List ℕ) → IsPiece (record { kind = a; bytes = bytes }) → IsPiece (record { kind = b; bytes = bytes }) → a ≡ b
same_kind_at a b [] p q = absurd (omega (arith, IsPiece-nonempty a [] p))
same_kind_at a b (c ∷ bytes) p q =
    same_kind a b (c ∷ bytes) (sym (class_of_piece a c bytes p) ∙ class_of_piece b c bytes q) p q

same_front : (text : List ℕ) (piece other : Piece) (rest after : List ℕ) → Begins text piece rest → Begins text other after → IsSame piece other rest after
same_front text piece other rest after p q =
    let one = p.longest other after q.whole q.front in
    let two = q.longest piece rest p.whole p.front in
    let size : length piece.bytes ≡ length other.bytes = omega arith in
    let split : piece.bytes ++ rest ≡ other.bytes ++ after = sym p.front ∙ q.front in
    let bytes : piece.bytes ≡ other.bytes =
    sym (take_at piece.bytes rest (length other.bytes) size) ∙ ap (take (length other.bytes)) split ∙ take_at other.bytes after (length other.bytes) refl in
    let kind : piece.kind ≡ other.kind =
    same_kind_at piece.kind other.kind other.bytes (subst (λ (bs : List ℕ). IsPiece (record { kind = piece.kind; bytes = bs })) bytes p.whole) q.whole in
    record {
      piece_is = λ i. record { kind = kind i; bytes = bytes i };
      rest_is = sym (drop_at piece.bytes rest (length other.bytes) size) ∙ ap (drop (length other.bytes)) split ∙ drop_at other.bytes after (length other.bytes) refl;
    }

-- no piece that may be read begins the text
abbrev Stops : List ℕ → Type 0
Stops text = (piece : Piece) (after : List ℕ) → Begins text piece after → IfSome piece.kind IsInLimit → ⊥

stops_at_end : Stops []
stops_at_end piece after begins in_limit =
    let some = IsPiece-nonempty piece.kind piece.bytes begins.whole in
    let none = ap length begins.front in
    omega (arith, length-append piece.bytes after)

stops_at_bad : (text : List ℕ) → BeginsBadly text → Stops text
stops_at_bad text bad piece after begins in_limit = bad.none_fits piece after begins.whole begins.front

stops_at_large : (text : List ℕ) → BeginsTooLarge text → Stops text
stops_at_large text large piece after begins in_limit =
    let same = same_front text piece (record { kind = Some (kinds.Number large.number); bytes = large.bytes }) after large.rest begins large.begins in
    let small = subst (λ (p : Piece). IfSome p.kind IsInLimit) same.piece_is in_limit in
    omega (arith, small, large.too_large)

-- the pieces before a place that stops, and the rest there
record IsSameSplit (pieces others : List Piece) (rest after : List ℕ) : Type 0 where
  pub pieces_are : pieces ≡ others
  pub rest_is : rest ≡ after

same_split : (pieces others : List Piece) (text rest after : List ℕ) → Splits text pieces rest → Splits text others after → Stops rest → Stops after → IsSameSplit pieces others rest after
same_split [] [] text rest after p q stops_rest stops_after = record { pieces_are = refl; rest_is = sym p ∙ q }
same_split [] (other ∷ others) text rest after p q stops_rest stops_after =
    absurd (stops_rest other q.0 (subst (λ t. Begins t other q.0) p q.1) q.2)
same_split (piece ∷ pieces) [] text rest after p q stops_rest stops_after =
    absurd (stops_after piece p.0 (subst (λ t. Begins t piece p.0) q p.1) p.2)
same_split (piece ∷ pieces) (other ∷ others) text rest after p q stops_rest stops_after =
    let same = same_front text piece other p.0 q.0 p.1 q.1 in
    let others_split = same_split pieces others q.0 rest after (subst (λ t. Splits t pieces rest) same.rest_is p.3) q.3 stops_rest stops_after in
    record { pieces_are = λ i. same.piece_is i ∷ others_split.pieces_are i; rest_is = others_split.rest_is }

-- a fault stops the reading, and doesn't stand at the end
fault_stops : (fault : KernFault) (place : ℕ) (text : List ℕ) → IsFaultAt fault place text → Stops text × (0 < length text)
fault_stops (faults.BadByte at) place text is = (stops_at_bad text is.1, is.1.nonempty)
fault_stops (faults.NumberTooLarge at) place text is =
    let large = is.1 in
    let some = IsPiece-nonempty (Some (kinds.Number large.number)) large.bytes large.begins.whole in
    (stops_at_large text large, omega (arith, length-append large.bytes large.rest, ap length large.begins.front))
fault_stops (faults.Unexpected at) place text is = absurd is
fault_stops (faults.TooDeep at) place text is = absurd is
fault_stops (faults.TooManyNodes at) place text is = absurd is
fault_stops faults.Memory place text is = absurd is

bad_or_large : (text : List ℕ) → BeginsBadly text → BeginsTooLarge text → ⊥
bad_or_large text bad large =
    bad.none_fits (record { kind = Some (kinds.Number large.number); bytes = large.bytes }) large.rest large.begins.whole large.begins.front

same_fault : (a b : KernFault) (place : ℕ) (text : List ℕ) → IsFaultAt a place text → IsFaultAt b place text → a ≡ b
same_fault (faults.BadByte a) (faults.BadByte b) place text p q = ap faults.BadByte (p.0 ∙ sym q.0)
same_fault (faults.BadByte a) (faults.NumberTooLarge b) place text p q = absurd (bad_or_large text p.1 q.1)
same_fault (faults.NumberTooLarge a) (faults.BadByte b) place text p q = absurd (bad_or_large text q.1 p.1)
same_fault (faults.NumberTooLarge a) (faults.NumberTooLarge b) place text p q = ap faults.NumberTooLarge (p.0 ∙ sym q.0)
same_fault (faults.BadByte a) other place text p q = absurd q
same_fault (faults.NumberTooLarge a) other place text p q = absurd q
same_fault (faults.Unexpected a) other place text p q = absurd p
same_fault (faults.TooDeep a) other place text p q = absurd p
same_fault (faults.TooManyNodes a) other place text p q = absurd p
same_fault faults.Memory other place text p q = absurd p

spelled_or_faulty : (text : List ℕ) (tokens : List Token) (fault : KernFault) → Spells text tokens → HasFirstTokenFault text fault → ⊥
spelled_or_faulty text tokens fault p q =
    let stops = fault_stops fault (place_after 0 q.pieces) q.rest q.fault_is in
    let same = same_split p.pieces q.pieces text [] q.rest p.whole q.before stops_at_end stops.0 in
    omega (arith, stops.1, ap length same.rest_is)

pub same_reading : (text : List ℕ) (a b : Result (List Token) KernFault) → Reads text a → Reads text b → a ≡ b
same_reading text (Ok tokens) (Ok others) p q =
    let same = same_split p.pieces q.pieces text [] [] p.whole q.whole stops_at_end stops_at_end in
    ap Ok (p.tokens_are ∙ ap (tokens_of 0) same.pieces_are ∙ sym q.tokens_are)
same_reading text (Ok tokens) (Err fault) p q = absurd (spelled_or_faulty text tokens fault p q)
same_reading text (Err fault) (Ok tokens) p q = absurd (spelled_or_faulty text tokens fault q p)
same_reading text (Err a) (Err b) p q =
    let p_stops = fault_stops a (place_after 0 p.pieces) p.rest p.fault_is in
    let q_stops = fault_stops b (place_after 0 q.pieces) q.rest q.fault_is in
    let same = same_split p.pieces q.pieces text p.rest q.rest p.before q.before p_stops.0 q_stops.0 in
    let moved = subst (λ (ps : List Piece). IsFaultAt a (place_after 0 ps) q.rest) same.pieces_are (subst (λ (t : List ℕ). IsFaultAt a (place_after 0 p.pieces) t) same.rest_is p.fault_is) in
    ap Err (same_fault a b (place_after 0 q.pieces) q.rest moved q.fault_is)

-- a fault that is right is the one reading
pub gives_fault : (text : List ℕ) (fault : KernFault) → (fault ≡ faults.Memory) ⊎ HasFirstTokenFault text fault → (reading : Result (List Token) KernFault) → Reads text reading → (fault ≡ faults.Memory) ⊎ (reading ≡ Err fault)
gives_fault text fault faulty reading reads =
    ⊎_elim inl (λ first. inr (same_reading text reading (Err fault) reads first)) faulty
