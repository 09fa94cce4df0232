-- The numbers of assigned names.
use Rattle.std.proofs.Common.{◌≡◌, ℕ, zero, suc, ◌<◌, ◌≤◌, Bool, true, false, cond, ◌||◌, List, [], ◌∷◌, ◌++◌, length, get_or, Option, Some, None, filter, bytes_eq, refl, sym, ap, ◌∙◌, subst, arith, ⊎_elim, length-append, append_assoc}
use Rattle.std.specs.Prelude.{◌==◌, nat_lt, position, unwrap_or}
use Rattle.std.specs.List.{list_any, position_or_len}
use Rattle.std.proofs.lemmas.Bool.{cases_lt}
use Rattle.std.proofs.lemmas.Bool.Decides.{nat_tests}
use Rattle.std.proofs.lemmas.List.{append-nil}
use Rattle.std.proofs.lemmas.List.Quantifiers.{position-Some}
use Rattle.std.proofs.lemmas.List.Sums.{fails_before_first}
use Rattle.std.proofs.lemmas.Slice.Eq.{bytes_eq-Decides}
use Rattle.kern_tree.specs.declared.kernel.Kind.{Kind}
use Rattle.kern_tree.specs.declared.kernel.Kind.TheVariants as kinds
use Rattle.kern_types.specs.declared.scope.Variable.{Variable}
use Rattle.kern_types.specs.NameLists.{is_among, common}
use Rattle.kern_types.specs.Scopes.{name_at, names_at, IsNumber, AreNumbers, StandFor, Grows, Scope}
use Rattle.kern_types.specs.Statements.{with_assigned}

pub named_same : (a b : List ℕ) → bytes_eq a b ≡ true → a ≡ b
named_same a b e = (bytes_eq-Decides a b).0 e

own_name : (a : List ℕ) → bytes_eq a a ≡ true
own_name a = (bytes_eq-Decides a a).1 refl

not_true : (b : Bool) → (b ≡ true → ⊥) → b ≡ false
not_true true h = absurd (h refl)
not_true false h = refl

apart_turned : (a b : List ℕ) → bytes_eq a b ≡ false → bytes_eq b a ≡ false
apart_turned a b e = not_true (bytes_eq b a) (λ f. let yes : bytes_eq a b ≡ true = (bytes_eq-Decides a b).1 (sym (named_same b a f)) in let no : ⊥ = cc in no)

-- ---- more assignments

same_name_at : (earlier more : List Variable) (n : ℕ) → n < length earlier → name_at (earlier ++ more) n ≡ name_at earlier n
same_name_at [] more n h = absurd (omega (arith, h))
same_name_at (v ∷ earlier) more zero h = refl
same_name_at (v ∷ earlier) more (suc n) h = same_name_at earlier more n (omega (arith, h))

still_number : (earlier more : List Variable) (n : ℕ) → IsNumber earlier n → IsNumber (earlier ++ more) n
still_number earlier more n h = record {
  within = omega (arith, h.within, length-append earlier more);
  first = λ k l.
      let within : k < length earlier = omega (arith, l, h.within) in
      ap (λ name. bytes_eq name (name_at (earlier ++ more) n)) (same_name_at earlier more k within)
      ∙ ap (bytes_eq (name_at earlier k)) (same_name_at earlier more n h.within) ∙ h.first k l;
}

pub still_numbers : (earlier more : List Variable) (numbers : List ℕ) → AreNumbers earlier numbers → AreNumbers (earlier ++ more) numbers
still_numbers earlier more [] h = tt
still_numbers earlier more (n ∷ numbers) h = (still_number earlier more n h.0, still_numbers earlier more numbers h.1)

pub same_names : (earlier more : List Variable) (numbers : List ℕ) → AreNumbers earlier numbers → names_at (earlier ++ more) numbers ≡ names_at earlier numbers
same_names earlier more [] h = refl
same_names earlier more (n ∷ numbers) h = λ i. same_name_at earlier more n h.0.within i ∷ same_names earlier more numbers h.1 i

pub stand_still : (earlier later : List Variable) (numbers : List ℕ) (names : List (List ℕ)) → Grows earlier later → StandFor earlier numbers names → StandFor later numbers names
stand_still earlier later numbers names grows h = record {
  are_numbers = subst (λ (all : List Variable). AreNumbers all numbers) (sym grows.is) (still_numbers earlier grows.more numbers h.are_numbers);
  are_named = h.are_named ∙ sym (same_names earlier grows.more numbers h.are_numbers) ∙ ap (λ (all : List Variable). names_at all numbers) (sym grows.is);
}

-- ---- the number of a name

abbrev nobody : Variable
nobody = record { name = []; kind = kinds.Num; scale = 0 }

named : (earlier : List Variable) (n : ℕ) → name_at earlier n ≡ (get_or earlier n nobody).name
named [] n = refl
named (v ∷ earlier) zero = refl
named (v ∷ earlier) (suc n) = named earlier n

abbrev pub has_name : List ℕ → Variable → Bool
has_name name variable = bytes_eq variable.name name

module _ (earlier : List Variable) (name : List ℕ) (n : ℕ) (found : position (has_name name) earlier ≡ Some n) where
  pub found_name : name_at earlier n ≡ name
  found_name = named_same (name_at earlier n) name (ap (λ x. bytes_eq x name) (named earlier n) ∙ (position-Some (has_name name) earlier n nobody found).1)

  pub found_number : IsNumber earlier n
  found_number =
      let all = position-Some (has_name name) earlier n nobody found in
      record {
        within = all.0;
        first = λ k l. ap (bytes_eq (name_at earlier k)) found_name ∙ ap (λ x. bytes_eq x name) (named earlier k) ∙ all.2 k l;
      }

-- ---- names by their numbers

module _ (earlier : List Variable) (m n : ℕ) (of_m : IsNumber earlier m) (of_n : IsNumber earlier n) where
  equal : (m == n) ≡ bytes_eq (name_at earlier m) (name_at earlier n)
  equal = ⊎_elim less (λ l. ⊎_elim more (λ k. same (omega (arith, l, k))) (cases_lt n m)) (cases_lt m n) where
    less : m < n → (m == n) ≡ bytes_eq (name_at earlier m) (name_at earlier n)
    less l = (let no : (m == n) ≡ false = grind (arith, nat_tests) in no) ∙ sym (of_n.first m l)

    more : n < m → (m == n) ≡ bytes_eq (name_at earlier m) (name_at earlier n)
    more l = (let no : (m == n) ≡ false = grind (arith, nat_tests) in no) ∙ sym (apart_turned (name_at earlier n) (name_at earlier m) (of_m.first n l))

    same : m ≡ n → (m == n) ≡ bytes_eq (name_at earlier m) (name_at earlier n)
    same e = (let yes : (m == n) ≡ true = grind (arith, nat_tests) in yes) ∙ sym (ap (λ k. bytes_eq (name_at earlier k) (name_at earlier n)) e ∙ own_name (name_at earlier n))

pub among_by_number : (earlier : List Variable) (numbers : List ℕ) (n : ℕ) → AreNumbers earlier numbers → IsNumber earlier n → list_any (λ other. other == n) numbers ≡ is_among (names_at earlier numbers) (name_at earlier n)
among_by_number earlier [] n h of_n = refl
among_by_number earlier (m ∷ numbers) n h of_n = λ i. equal earlier m n h.0 of_n i || among_by_number earlier numbers n h.1 of_n i

-- a name that isn't assigned is none of these
none_passes : (place size : ℕ) (b : Bool) → nat_lt place size ≡ b → cond b (Some place) None ≡ None → size ≤ place
none_passes place size true e f = absurd (let no : ⊥ = cc in no)
none_passes place size false e f = grind (arith, nat_tests)

passed_over : (earlier : List Variable) (name : List ℕ) (m : ℕ) → m < length earlier → position (has_name name) earlier ≡ None → bytes_eq (name_at earlier m) name ≡ false
passed_over earlier name m h none =
    let past = none_passes (position_or_len (has_name name) earlier) (length earlier) (nat_lt (position_or_len (has_name name) earlier) (length earlier)) refl none in
    ap (λ x. bytes_eq x name) (named earlier m) ∙ fails_before_first (has_name name) earlier m nobody (omega (arith, h, past))

pub among_none : (earlier : List Variable) (numbers : List ℕ) (name : List ℕ) → AreNumbers earlier numbers → position (has_name name) earlier ≡ None → is_among (names_at earlier numbers) name ≡ false
among_none earlier [] name h none = refl
among_none earlier (m ∷ numbers) name h none = λ i. passed_over earlier name m h.0.within none i || among_none earlier numbers name h.1 none i

-- ---- one assignment more

abbrev pub scope_of : List Variable → List (List ℕ) → Scope
scope_of earlier certain = record { earlier = earlier; certain = certain }

at_end : (earlier : List Variable) (v : Variable) → name_at (earlier ++ v ∷ []) (length earlier) ≡ v.name
at_end [] v = refl
at_end (w ∷ earlier) v = at_end earlier v

numbers_more : (earlier : List Variable) (numbers : List ℕ) (n : ℕ) → AreNumbers earlier numbers → IsNumber earlier n → AreNumbers earlier (numbers ++ n ∷ [])
numbers_more earlier [] n h k = (k, tt)
numbers_more earlier (m ∷ numbers) n h k = (h.0, numbers_more earlier numbers n h.1 k)

names_more : (earlier : List Variable) (numbers : List ℕ) (n : ℕ) → names_at earlier (numbers ++ n ∷ []) ≡ names_at earlier numbers ++ name_at earlier n ∷ []
names_more earlier [] n = refl
names_more earlier (m ∷ numbers) n = ap (λ names. name_at earlier m ∷ names) (names_more earlier numbers n)

module _ (earlier : List Variable) (numbers : List ℕ) (v : Variable) (are : AreNumbers earlier numbers) where
  abbrev later : List Variable
  later = earlier ++ v ∷ []

  new_name : (n : ℕ) (found : Option ℕ) → position (has_name v.name) earlier ≡ found → n ≡ unwrap_or found (length earlier) → name_at later n ≡ v.name
  new_name n (Some k) e f = ap (name_at later) f ∙ same_name_at earlier (v ∷ []) k (found_number earlier v.name k e).within ∙ found_name earlier v.name k e
  new_name n None e f = ap (name_at later) f ∙ at_end earlier v

  new_number : (n : ℕ) (found : Option ℕ) → position (has_name v.name) earlier ≡ found → n ≡ unwrap_or found (length earlier) → IsNumber later n
  new_number n (Some k) e f = subst (IsNumber later) (sym f) (still_number earlier (v ∷ []) k (found_number earlier v.name k e))
  new_number n None e f = subst (IsNumber later) (sym f) (record {
    within = omega (arith, length-append earlier (v ∷ []));
    first = λ k l. ap (λ name. bytes_eq name (name_at later (length earlier))) (same_name_at earlier (v ∷ []) k l) ∙ ap (bytes_eq (name_at earlier k)) (at_end earlier v) ∙ passed_over earlier v.name k l e;
  })

  module _ (n : ℕ) (number : n ≡ unwrap_or (position (has_name v.name) earlier) (length earlier)) where
    pub assigned_numbers : AreNumbers later (numbers ++ n ∷ [])
    assigned_numbers = numbers_more later numbers n (still_numbers earlier (v ∷ []) numbers are) (new_number n (position (has_name v.name) earlier) refl number)

    pub assigned_names : names_at later (numbers ++ n ∷ []) ≡ names_at earlier numbers ++ v.name ∷ []
    assigned_names =
        names_more later numbers n ∙ ap (λ names. names ++ name_at later n ∷ []) (same_names earlier (v ∷ []) numbers are)
        ∙ ap (λ name. names_at earlier numbers ++ name ∷ []) (new_name n (position (has_name v.name) earlier) refl number)

    pub assigned_scope : (pushed : List Variable) (pushed_numbers : List ℕ) (now : Scope) → pushed ≡ later → pushed_numbers ≡ numbers ++ n ∷ [] → scope_of earlier (names_at earlier numbers) ≡ now
        → scope_of pushed (names_at pushed pushed_numbers) ≡ with_assigned now v.name v.kind v.scale
    assigned_scope pushed pushed_numbers now e f is =
        (λ i. scope_of (e i) (names_at (e i) (f i))) ∙ ap (scope_of later) assigned_names ∙ ap (λ s. with_assigned s v.name v.kind v.scale) is

-- ---- scopes that grow

pub grown_none : (earlier : List Variable) → Grows earlier earlier
grown_none earlier = record { more = []; is = sym (append-nil earlier) }

pub grown_then : (a b c : List Variable) → Grows a b → Grows b c → Grows a c
grown_then a b c h k = record { more = h.more ++ k.more; is = k.is ∙ ap (λ l. l ++ k.more) h.is ∙ append_assoc a h.more k.more }

pub grown_assigned : (before after : Scope) (name : List ℕ) (kind : Kind) (scale : ℕ) → after ≡ with_assigned before name kind scale → Grows before.earlier after.earlier
grown_assigned before after name kind scale e = record { more = record { name = name; kind = kind; scale = scale } ∷ []; is = ap (λ (s : Scope). s.earlier) e }

-- the second block of an `if` goes from `between`, where the first ended in `first`, to `second`
pub ended_there : (first between second : Scope) (ended : List ℕ) → StandFor first.earlier ended first.certain → between.earlier ≡ first.earlier → Grows between.earlier second.earlier → StandFor second.earlier ended first.certain
ended_there first between second ended stand begun ran =
    stand_still first.earlier second.earlier ended first.certain (subst (λ (all : List Variable). Grows all second.earlier) begun ran) stand

pub both_grow : (scope first between second last : Scope) → Grows scope.earlier first.earlier → between.earlier ≡ first.earlier → Grows between.earlier second.earlier → last.earlier ≡ second.earlier → Grows scope.earlier last.earlier
both_grow scope first between second last ran begun ran_other ended =
    subst (Grows scope.earlier) (sym ended) (grown_then scope.earlier first.earlier second.earlier ran (subst (λ (all : List Variable). Grows all second.earlier) begun ran_other))

-- ---- joined blocks

kept : (earlier : List Variable) (numbers : List ℕ) (n : ℕ) (others : List ℕ) (b : Bool) → cond b (name_at earlier n ∷ names_at earlier others) (names_at earlier others) ≡ names_at earlier (cond b (n ∷ others) others)
kept earlier numbers n others true = refl
kept earlier numbers n others false = refl

pub common_by_number : (earlier : List Variable) (first numbers : List ℕ) → AreNumbers earlier first → AreNumbers earlier numbers
    → names_at earlier (filter (λ n. list_any (λ other. other == n) first) numbers) ≡ common (names_at earlier first) (names_at earlier numbers)
common_by_number earlier first [] h k = refl
common_by_number earlier first (n ∷ numbers) h k =
    sym (kept earlier numbers n (filter (λ m. list_any (λ other. other == m) first) numbers) (list_any (λ other. other == n) first))
    ∙ (λ i. cond (among_by_number earlier first n h k.0 i) (name_at earlier n ∷ common_by_number earlier first numbers h k.1 i) (common_by_number earlier first numbers h k.1 i))

some_numbers : (earlier : List Variable) (n : ℕ) (numbers : List ℕ) (b : Bool) → IsNumber earlier n → AreNumbers earlier numbers → AreNumbers earlier (cond b (n ∷ numbers) numbers)
some_numbers earlier n numbers true h k = (h, k)
some_numbers earlier n numbers false h k = k

pub kept_numbers : (earlier : List Variable) (test : ℕ → Bool) (numbers : List ℕ) → AreNumbers earlier numbers → AreNumbers earlier (filter test numbers)
kept_numbers earlier test [] h = tt
kept_numbers earlier test (n ∷ numbers) h = some_numbers earlier n (filter test numbers) (test n) h.0 (kept_numbers earlier test numbers h.1)
