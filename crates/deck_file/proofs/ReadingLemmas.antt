-- A text has one reading.
use Rattle.std.proofs.Common.{◌≡◌, ◌∙◌, ◌⊎◌, inl, inr, ℕ, Bool, true, false, refl, sym, ap, subst, true≢false, List, [], ◌∷◌, ◌++◌, Option, Some, None, Result, Ok, Err, append_assoc}
use Rattle.std.specs.Prelude.{IfErr, IfOk, IsSome}
use Rattle.text_lines.specs.Lines.{FieldLine, field_lines}
use Rattle.deck_file.specs.declared.deck.Deck.{Deck}
use Rattle.deck_file.specs.declared.fault.DeckFault.{DeckFault}
use Rattle.deck_file.specs.declared.fault.DeckFault.TheVariants as faults
use Rattle.deck_file.specs.declared.keyword.Keyword.{Keyword}
use Rattle.deck_file.specs.Deck.{deck_of}
use Rattle.deck_file.specs.Keywords.{keyword_text}
use Rattle.deck_file.specs.Reading.{GivesDeckUnlessMemory, HasKey, HasFaultyLine, HasFirstDeckFault, IsFaultAfter, ReadsDeck, SpellsDeck}
use Rattle.deck_file.specs.Settings.{GiveSettings, IsNext, KeyValue, setting_fields, is_of_form, value_in}
use Rattle.deck_file.proofs.KeywordLemmas.{key_from, key_from-keyword_text, key_from-sound, keyword_text-injective}

-- ---- one line

same_key : (line : FieldLine) (a b : Keyword) (xs ys : List (List ℕ)) → line.fields ≡ keyword_text a ∷ xs → line.fields ≡ keyword_text b ∷ ys
    → a ≡ b
same_key line a b xs ys p q =
    let lists : ◌≡◌ {A = List (List ℕ)} (keyword_text a ∷ xs) (keyword_text b ∷ ys) = sym p ∙ q in
    let texts : keyword_text a ≡ keyword_text b = cc in
    keyword_text-injective a b texts

pub same_rest : (first : List ℕ) (xs ys : List (List ℕ)) → ◌≡◌ {A = List (List ℕ)} (first ∷ xs) (first ∷ ys) → xs ≡ ys
same_rest first xs ys e = cc

same_value : (a b : List ℕ) (x y : List ℕ) → ◌≡◌ {A = List (List ℕ)} (a ∷ x ∷ []) (b ∷ y ∷ []) → x ≡ y
same_value a b x y e = cc

one_setting : (line : FieldLine) (s t : KeyValue) → line.fields ≡ setting_fields s → line.fields ≡ setting_fields t → s ≡ t
one_setting line s t p q =
    let key = same_key line s.key t.key _ _ p q in
    let value = same_value _ _ s.value t.value (sym p ∙ q) in
    λ i. record { key = key i; value = value i }

some_and_none : {X : Type 0} (o : Option X) → IsSome o → o ≡ None → ⊥
some_and_none None some none = cc
some_and_none (Some x) some none = cc

-- a line that is a setting has no fault
no_fault : (settings : List KeyValue) (line : FieldLine) (s : KeyValue) (fault : DeckFault) → IsNext settings line s → IsFaultAfter settings line fault → ⊥
no_fault settings line s (faults.UnknownKey at) n f = f.1 s.key (s.value ∷ [], n.fields)
no_fault settings line s (faults.Twice at) n f =
    let key = same_key line f.1.0 s.key _ _ f.1.1.1 n.fields in
    some_and_none _ (subst (λ k. IsSome (value_in settings k)) key f.1.2) n.first
no_fault settings line s (faults.Value at) n f =
    let key = same_key line f.1.0 s.key _ _ f.1.1.1 n.fields in
    true≢false (sym n.form ∙ ap (λ k. is_of_form k s.value) (sym key)
    ∙ f.1.3 s.value (n.fields ∙ ap (λ k. keyword_text k ∷ s.value ∷ []) (sym key)))
no_fault settings line s (faults.Missing key) n f = f
no_fault settings line s faults.Reuse n f = f
no_fault settings line s faults.Memory n f = f

-- a line has one fault
clash : (settings : List KeyValue) (line : FieldLine) (a b : Keyword) → HasKey line a → HasKey line b → IsSome (value_in settings a) → value_in settings b ≡ None → ⊥
clash settings line a b p q some none =
    some_and_none _ (subst (λ k. IsSome (value_in settings k)) (same_key line a b _ _ p.1 q.1) some) none

one_fault : (settings : List KeyValue) (line : FieldLine) (a b : DeckFault) → IsFaultAfter settings line a → IsFaultAfter settings line b → a ≡ b
one_fault settings line (faults.UnknownKey a) (faults.UnknownKey b) f g = ap faults.UnknownKey (f.0 ∙ sym g.0)
one_fault settings line (faults.UnknownKey a) (faults.Twice b) f g = absurd (f.1 g.1.0 g.1.1)
one_fault settings line (faults.UnknownKey a) (faults.Value b) f g = absurd (f.1 g.1.0 g.1.1)
one_fault settings line (faults.UnknownKey a) (faults.Missing key) f g = absurd g
one_fault settings line (faults.UnknownKey a) faults.Reuse f g = absurd g
one_fault settings line (faults.UnknownKey a) faults.Memory f g = absurd g
one_fault settings line (faults.Twice a) (faults.UnknownKey b) f g = absurd (g.1 f.1.0 f.1.1)
one_fault settings line (faults.Twice a) (faults.Twice b) f g = ap faults.Twice (f.0 ∙ sym g.0)
one_fault settings line (faults.Twice a) (faults.Value b) f g = absurd (clash settings line f.1.0 g.1.0 f.1.1 g.1.1 f.1.2 g.1.2)
one_fault settings line (faults.Twice a) (faults.Missing key) f g = absurd g
one_fault settings line (faults.Twice a) faults.Reuse f g = absurd g
one_fault settings line (faults.Twice a) faults.Memory f g = absurd g
one_fault settings line (faults.Value a) (faults.UnknownKey b) f g = absurd (g.1 f.1.0 f.1.1)
one_fault settings line (faults.Value a) (faults.Twice b) f g = absurd (clash settings line g.1.0 f.1.0 g.1.1 f.1.1 g.1.2 f.1.2)
one_fault settings line (faults.Value a) (faults.Value b) f g = ap faults.Value (f.0 ∙ sym g.0)
one_fault settings line (faults.Value a) (faults.Missing key) f g = absurd g
one_fault settings line (faults.Value a) faults.Reuse f g = absurd g
one_fault settings line (faults.Value a) faults.Memory f g = absurd g
one_fault settings line (faults.Missing key) b f g = absurd f
one_fault settings line faults.Reuse b f g = absurd f
one_fault settings line faults.Memory b f g = absurd f

-- ---- lines one after another

Gives-one : (start : List KeyValue) (lines : List FieldLine) (a b : List KeyValue) → GiveSettings start lines a → GiveSettings start lines b → a ≡ b
Gives-one start [] a b p q = sym p ∙ q
Gives-one start (line ∷ lines) a b p q =
    let same = one_setting line p.0 q.0 p.1.fields q.1.fields in
    Gives-one (start ++ q.0 ∷ []) lines a b (subst (λ s. GiveSettings (start ++ s ∷ []) lines a) same p.2) q.2

-- a line after these lines has the fault, and none before it has one
abbrev Stops : List KeyValue → List FieldLine → DeckFault → Type 0
Stops start [] fault = ⊥
Stops start (line ∷ lines) fault = IsFaultAfter start line fault ⊎ ((s : KeyValue) × IsNext start line s × Stops (start ++ s ∷ []) lines fault)

stops_at : (start : List KeyValue) (before : List FieldLine) (line : FieldLine) (after : List FieldLine) (settings : List KeyValue) (fault : DeckFault)
    → GiveSettings start before settings → IsFaultAfter settings line fault → Stops start (before ++ line ∷ after) fault
stops_at start [] line after settings fault given f = inl (subst (λ s. IsFaultAfter s line fault) (sym given) f)
stops_at start (next ∷ before) line after settings fault given f =
    inr (given.0, given.1, stops_at (start ++ given.0 ∷ []) before line after settings fault given.2 f)

stops : (text : List ℕ) (fault : DeckFault) → HasFaultyLine text fault → Stops [] (field_lines text) fault
stops text fault h = subst (λ lines. Stops [] lines fault) (sym h.lines) (stops_at [] h.before h.line h.after h.settings fault h.given h.fault_is)

gives_or_stops : (start : List KeyValue) (lines : List FieldLine) (settings : List KeyValue) (fault : DeckFault) → GiveSettings start lines settings
    → Stops start lines fault → ⊥
gives_or_stops start [] settings fault given f = f
gives_or_stops start (line ∷ lines) settings fault given (inl f) = no_fault start line given.0 fault given.1 f
gives_or_stops start (line ∷ lines) settings fault given (inr f) =
    let same = one_setting line f.0 given.0 f.1.fields given.1.fields in
    gives_or_stops (start ++ given.0 ∷ []) lines settings fault given.2 (subst (λ s. Stops (start ++ s ∷ []) lines fault) same f.2)

Stops-one : (start : List KeyValue) (lines : List FieldLine) (a b : DeckFault) → Stops start lines a → Stops start lines b → a ≡ b
Stops-one start [] a b p q = absurd p
Stops-one start (line ∷ lines) a b (inl f) (inl g) = one_fault start line a b f g
Stops-one start (line ∷ lines) a b (inl f) (inr q) = absurd (no_fault start line q.0 a q.1 f)
Stops-one start (line ∷ lines) a b (inr p) (inl g) = absurd (no_fault start line p.0 b p.1 g)
Stops-one start (line ∷ lines) a b (inr p) (inr q) =
    let same = one_setting line p.0 q.0 p.1.fields q.1.fields in
    Stops-one (start ++ q.0 ∷ []) lines a b (subst (λ s. Stops (start ++ s ∷ []) lines a) same p.2) q.2

-- ---- the whole text

same_end : (text : List ℕ) (a b : Result Deck DeckFault) (s t : List KeyValue) → GiveSettings [] (field_lines text) s → GiveSettings [] (field_lines text) t
    → deck_of s ≡ a → deck_of t ≡ b → a ≡ b
same_end text a b s t p q x y = sym x ∙ ap deck_of (Gives-one [] (field_lines text) s t p q) ∙ y

pub one_reading : (text : List ℕ) (a b : Result Deck DeckFault) → ReadsDeck text a → ReadsDeck text b → a ≡ b
one_reading text (Ok a) (Ok b) p q = same_end text (Ok a) (Ok b) p.settings q.settings p.given q.given p.deck_is q.deck_is
one_reading text (Ok a) (Err g) p (inl q) = absurd (gives_or_stops [] (field_lines text) p.settings g p.given (stops text g q))
one_reading text (Ok a) (Err g) p (inr q) = same_end text (Ok a) (Err g) p.settings q.settings p.given q.given p.deck_is q.fault_is
one_reading text (Err f) (Ok b) (inl p) q = absurd (gives_or_stops [] (field_lines text) q.settings f q.given (stops text f p))
one_reading text (Err f) (Ok b) (inr p) q = same_end text (Err f) (Ok b) p.settings q.settings p.given q.given p.fault_is q.deck_is
one_reading text (Err f) (Err g) (inl p) (inl q) = ap Err (Stops-one [] (field_lines text) f g (stops text f p) (stops text g q))
one_reading text (Err f) (Err g) (inl p) (inr q) = absurd (gives_or_stops [] (field_lines text) q.settings f q.given (stops text f p))
one_reading text (Err f) (Err g) (inr p) (inl q) = absurd (gives_or_stops [] (field_lines text) p.settings g p.given (stops text g q))
one_reading text (Err f) (Err g) (inr p) (inr q) = same_end text (Err f) (Err g) p.settings q.settings p.given q.given p.fault_is q.fault_is

-- ---- one more line

pub Gives-more : (start : List KeyValue) (before : List FieldLine) (settings : List KeyValue) (line : FieldLine) (s : KeyValue)
    → GiveSettings start before settings → IsNext settings line s → GiveSettings start (before ++ line ∷ []) (settings ++ s ∷ [])
Gives-more start [] settings line s given n = (s, subst (λ before. IsNext before line s) (sym given) n, ap (λ before. before ++ s ∷ []) given)
Gives-more start (next ∷ before) settings line s given n = (given.0, given.1, Gives-more (start ++ given.0 ∷ []) before settings line s given.2 n)

-- ---- every text has a reading

abbrev key_of : List (List ℕ) → Option Keyword
key_of [] = None
key_of (field ∷ fields) = key_from field

key_of-HasKey : (line : FieldLine) (key : Keyword) → HasKey line key → key_of line.fields ≡ Some key
key_of-HasKey line key has = ap key_of has.1 ∙ key_from-keyword_text key

has_key : (line : FieldLine) (fields : List (List ℕ)) (key : Keyword) → line.fields ≡ fields → key_of fields ≡ Some key → HasKey line key
has_key line [] key is found = cc
has_key line (field ∷ fields) key is found = (fields, is ∙ ap (λ text. text ∷ fields) (key_from-sound field key found))

-- the line is the next setting or has a fault
abbrev Judged : List KeyValue → FieldLine → Type 0
Judged settings line = ((s : KeyValue) × IsNext settings line s) ⊎ ((fault : DeckFault) × IsFaultAfter settings line fault)

judged_value : (settings : List KeyValue) (line : FieldLine) (key : Keyword) (values : List (List ℕ)) → line.fields ≡ keyword_text key ∷ values
    → value_in settings key ≡ None → Judged settings line
judged_value settings line key [] is none =
    inr (faults.Value line.number, (refl, (key, ([], is), none, λ value e. let bad : ◌≡◌ {A = List (List ℕ)} (keyword_text key ∷ []) (keyword_text key ∷ value ∷ []) = sym is ∙ e in cc)))
judged_value settings line key (value ∷ other ∷ values) is none =
    inr (faults.Value line.number, (refl, (key, (value ∷ other ∷ values, is), none, λ v e. let bad : ◌≡◌ {A = List (List ℕ)} (keyword_text key ∷ value ∷ other ∷ values) (keyword_text key ∷ v ∷ []) = sym is ∙ e in cc)))
judged_value settings line key (value ∷ []) is none = go (is_of_form key value) refl
  where
    go : (b : Bool) → is_of_form key value ≡ b → Judged settings line
    go true form = inl (record { key = key; value = value }, record { fields = is; first = none; form = form })
    go false form = inr (
      faults.Value line.number,
      (
        refl,
        (
          key,
          (value ∷ [], is),
          none,
          λ v e.
              let lists : ◌≡◌ {A = List (List ℕ)} (keyword_text key ∷ value ∷ []) (keyword_text key ∷ v ∷ []) = sym is ∙ e in
              ap (is_of_form key) (sym (same_value _ _ value v lists)) ∙ form,
        ),
      ),
    )

judged_key : (settings : List KeyValue) (line : FieldLine) (key : Keyword) → HasKey line key → (value : Option (List ℕ)) → value_in settings key ≡ value
    → Judged settings line
judged_key settings line key has (Some value) is = inr (faults.Twice line.number, (refl, (key, has, subst IsSome (sym is) refl)))
judged_key settings line key has None is = judged_value settings line key has.0 has.1 is

judged : (settings : List KeyValue) (line : FieldLine) → Judged settings line
judged settings line = go (key_of line.fields) refl
  where
    go : (key : Option Keyword) → key_of line.fields ≡ key → Judged settings line
    go None none = inr (faults.UnknownKey line.number, (refl, λ key has. let bad = sym none ∙ key_of-HasKey line key has in cc))
    go (Some key) found = judged_key settings line key (has_key line line.fields key refl found) (value_in settings key) refl

abbrev Ended : List KeyValue → List FieldLine → Type 0
Ended start lines = ((settings : List KeyValue) × GiveSettings start lines settings)
    ⊎ ((before : List FieldLine) × (line : FieldLine) × (after : List FieldLine) × (lines ≡ before ++ line ∷ after)
    × ((settings : List KeyValue) × GiveSettings start before settings × ((fault : DeckFault) × IsFaultAfter settings line fault)))

ended : (start : List KeyValue) (lines : List FieldLine) → Ended start lines
ended start [] = inl (start, refl)
ended start (line ∷ lines) = go (judged start line) (λ s. ended (start ++ s ∷ []) lines)
  where
    later : (s : KeyValue) → IsNext start line s → Ended (start ++ s ∷ []) lines → Ended start (line ∷ lines)
    later s n (inl given) = inl (given.0, (s, n, given.1))
    later s n (inr f) = inr (line ∷ f.0, f.1, f.2, ap (λ rest. line ∷ rest) f.3, (f.4.0, (s, n, f.4.1), f.4.2))

    go : Judged start line → ((s : KeyValue) → Ended (start ++ s ∷ []) lines) → Ended start (line ∷ lines)
    go (inl next) rest = later next.0 next.1 (rest next.0)
    go (inr f) rest = inr ([], line, lines, refl, (start, refl, f))

pub some_reading : (text : List ℕ) → (reading : Result Deck DeckFault) × ReadsDeck text reading
some_reading text = go (ended [] (field_lines text))
  where
    finished : (settings : List KeyValue) → GiveSettings [] (field_lines text) settings → (end : Result Deck DeckFault) → deck_of settings ≡ end
        → (reading : Result Deck DeckFault) × ReadsDeck text reading
    finished settings given (Ok deck) is = (Ok deck, record { settings = settings; given = given; deck_is = is })
    finished settings given (Err fault) is = (Err fault, inr (record { settings = settings; given = given; fault_is = is }))

    go : Ended [] (field_lines text) → (reading : Result Deck DeckFault) × ReadsDeck text reading
    go (inl given) = finished given.0 given.1 (deck_of given.0) refl
    go (inr f) = (
      Err f.4.2.0,
      inl (record {
        before = f.0;
        line = f.1;
        after = f.2;
        lines = f.3;
        settings = f.4.0;
        given = f.4.1;
        fault_is = f.4.2.1;
      }),
    )

-- ---- an answer that is right is the only one

pub exact_answer : (text : List ℕ) (answer : Result Deck DeckFault) → IfOk answer (SpellsDeck text)
    → IfErr answer (λ fault. (fault ≡ faults.Memory) ⊎ HasFirstDeckFault text fault) → (reading : Result Deck DeckFault) → ReadsDeck text reading
    → GivesDeckUnlessMemory answer reading
exact_answer text (Ok deck) ok err reading reads = one_reading text reading (Ok deck) reads ok
exact_answer text (Err fault) ok (inl memory) reading reads = inl memory
exact_answer text (Err fault) ok (inr first) reading reads = inr (one_reading text reading (Err fault) reads first)

-- one line more is read
pub lines_more : (lines before : List FieldLine) (line : FieldLine) (ahead : List FieldLine) → lines ≡ before ++ line ∷ ahead
    → lines ≡ (before ++ line ∷ []) ++ ahead
lines_more lines before line ahead e = e ∙ sym (append_assoc before (line ∷ []) ahead)
