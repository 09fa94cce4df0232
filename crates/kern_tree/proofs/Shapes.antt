-- Laws of rules: how far a rule reads, how two readings of the same tokens differ, and which nodes
-- a reading adds. Each way of making rules of rules keeps them.
use Rattle.std.proofs.Common.{◌≡◌, ℕ, ◌<◌, ◌≤◌, Bool, true, false, cond, not, ◌&&◌, ◌||◌, IsTrue, List, [], ◌∷◌, ◌++◌, length, sym, refl, ap, ◌∙◌, subst, ◌⊎◌, inl, inr, append_assoc, append-nil, length-append, flat_map, ap₂, arith}
use Rattle.kern_token.specs.declared.token.Token.{Token}
use Rattle.kern_token.specs.declared.token.TokenKind.{TokenKind}
use Rattle.kern_tree.specs.Rules.{Rule, pure, ◌>>=◌, ◌or◌, many, any, never, token}
use Rattle.kern_tree.proofs.Classes.{class, apart, covers, BeginsIn-covered, BeginsIn, BeginsIn-append, BeginsIn-left, BeginsIn-right, BeginsIn-apart, BeginsIn-longer, Placed, Placed-left, Placed-right, Placed-append}

-- Whether a rule can read nothing, the classes of tokens that it can begin with, and those of which
-- each token that can go on with a whole reading is.
pub record Shape : Type 0 where
  pub nullable : Bool
  pub first : List ℕ
  pub cont : List ℕ

-- what the rule can begin with
abbrev pub Begins : Shape → List Token → Type 0
Begins s ts = BeginsIn s.first ts ⊎ (IsTrue s.nullable × (ts ≡ []))

-- The rule has read these tokens, and would before any other rest. Beside the base, the nodes of the
-- value stand at places of these tokens.
pub record Reading {A : Type 0} (rule : Rule A) (s : Shape) (nodes : A → List ℕ) (base : List ℕ) (tokens : List Token) (value : A) (rest : List Token) : Type 0 where
  pub read : List Token
  pub split : tokens ≡ read ++ rest
  pub again : (other : List Token) → rule (read ++ other) value other
  pub begins : Begins s read
  pub added : List ℕ
  pub nodes_are : nodes value ≡ base ++ added
  pub placed : Placed added read

abbrev pub Sound : {A : Type 0} → Rule A → Shape → (A → List ℕ) → List ℕ → Type 0
Sound {A} rule s nodes base = (tokens : List Token) (value : A) (rest : List Token) → rule tokens value rest → Reading rule s nodes base tokens value rest

-- Two readings of the same tokens are the same, or the shorter is followed by a token that goes on.
pub data Compared {A : Type 0} (cont : List ℕ) (v w : A) (rest other : List Token) : Type 0 where
  same : v ≡ w → rest ≡ other → Compared cont v w rest other
  longer : length rest < length other → BeginsIn cont other → Compared cont v w rest other
  shorter : length other < length rest → BeginsIn cont rest → Compared cont v w rest other

abbrev pub Alike : {A : Type 0} → Rule A → Rule A → List ℕ → Type 0
Alike {A} one two cont = (tokens : List Token) (v w : A) (rest other : List Token) → one tokens v rest → two tokens w other → Compared cont v w rest other

-- The two rules, maybe of different depth, keep the laws.
pub record Good {A : Type 0} (one two : Rule A) (s : Shape) (nodes : A → List ℕ) (base : List ℕ) : Type 0 where
  pub sound_one : Sound one s nodes base
  pub sound_two : Sound two s nodes base
  pub alike : Alike one two s.cont

pub rest_no_longer : {A : Type 0} {rule : Rule A} {s : Shape} {nodes : A → List ℕ} {base : List ℕ} {tokens : List Token} {value : A} {rest : List Token} → Reading rule s nodes base tokens value rest → length rest ≤ length tokens
rest_no_longer {tokens = tokens} {rest = rest} r = omega (arith, ap (λ (ts : List Token). length ts) r.split, length-append r.read rest)

-- the same laws, with more tokens that may go on
compared_wider : {A : Type 0} (wide cont : List ℕ) (v w : A) (rest other : List Token) → IsTrue (covers wide cont) → Compared cont v w rest other → Compared wide v w rest other
compared_wider wide cont v w rest other fits (same e m) = same e m
compared_wider wide cont v w rest other fits (longer l b) = longer l (BeginsIn-covered wide cont other fits b)
compared_wider wide cont v w rest other fits (shorter l b) = shorter l (BeginsIn-covered wide cont rest fits b)

abbrev pub wider : Shape → List ℕ → Shape
wider s wide = record { nullable = s.nullable; first = s.first; cont = wide }

sound_wider : {A : Type 0} {rule : Rule A} {s : Shape} {nodes : A → List ℕ} {base : List ℕ} (wide : List ℕ) → Sound rule s nodes base → Sound rule (wider s wide) nodes base
sound_wider wide f tokens value rest h =
    let r = f tokens value rest h in
    record { read = r.read; split = r.split; again = r.again; begins = r.begins; added = r.added; nodes_are = r.nodes_are; placed = r.placed }

pub good_wider : {A : Type 0} {one two : Rule A} {s : Shape} {nodes : A → List ℕ} {base : List ℕ} (wide : List ℕ) → Good one two s nodes base → IsTrue (covers wide s.cont) → Good one two (wider s wide) nodes base
good_wider {s = s} wide f fits = record {
  sound_one = sound_wider wide f.sound_one;
  sound_two = sound_wider wide f.sound_two;
  alike = λ tokens v w rest other h k. compared_wider wide s.cont v w rest other fits (f.alike tokens v w rest other h k);
}

-- ---- nothing

abbrev pub pure_shape : Shape
pure_shape = record { nullable = true; first = []; cont = [] }

pub sound_pure : {A : Type 0} (value : A) (nodes : A → List ℕ) (base : List ℕ) → nodes value ≡ base → Sound (pure value) pure_shape nodes base
sound_pure value nodes base e tokens read rest h = record {
  read = [];
  split = h.1;
  again = λ other. (h.0, refl);
  begins = inr (refl, refl);
  added = [];
  nodes_are = ap nodes h.0 ∙ e ∙ sym (append-nil base);
  placed = tt;
}

pub good_pure : {A : Type 0} (value : A) (nodes : A → List ℕ) (base : List ℕ) → nodes value ≡ base → Good (pure value) (pure value) pure_shape nodes base
good_pure value nodes base e = record {
  sound_one = sound_pure value nodes base e;
  sound_two = sound_pure value nodes base e;
  alike = λ tokens v w rest other h k. same (h.0 ∙ sym k.0) (sym h.1 ∙ k.1);
}

-- ---- one after the other

abbrev pub then_shape : Shape → Shape → Shape
then_shape s t = record {
  nullable = s.nullable && t.nullable;
  first = cond s.nullable (s.first ++ t.first) s.first;
  cont = cond t.nullable (s.cont ++ t.cont) t.cont;
}

begins_then : (s t : Shape) (ss ts : List Token) → Begins s ss → Begins t ts → Begins (then_shape s t) (ss ++ ts)
begins_then s t ss ts (inl h) k = inl (either s.nullable (BeginsIn-append s.first ss ts h))
  where
    either : (b : Bool) → BeginsIn s.first (ss ++ ts) → BeginsIn (cond b (s.first ++ t.first) s.first) (ss ++ ts)
    either true i = BeginsIn-left s.first t.first (ss ++ ts) i
    either false i = i
begins_then s t ss ts (inr h) (inl k) = inl (either s.nullable h.0 (subst (λ us. BeginsIn t.first (us ++ ts)) (sym h.1) k))
  where
    either : (b : Bool) → IsTrue b → BeginsIn t.first (ss ++ ts) → BeginsIn (cond b (s.first ++ t.first) s.first) (ss ++ ts)
    either true e i = BeginsIn-right s.first t.first (ss ++ ts) i
    either false e i = absurd (let never : false ≡ true = e in cc)
begins_then s t ss ts (inr h) (inr k) = inr (both s.nullable t.nullable h.0 k.0, empty)
  where
    both : (a b : Bool) → IsTrue a → IsTrue b → IsTrue (a && b)
    both true b e f = f
    both false b e f = e

    empty : ss ++ ts ≡ []
    empty = ap (λ us. us ++ ts) h.1 ∙ k.1

goes_on_then : (s t : Shape) (rest : List Token) → IsTrue t.nullable → BeginsIn s.cont rest → BeginsIn (then_shape s t).cont rest
goes_on_then s t rest h i = either t.nullable h
  where
    either : (b : Bool) → IsTrue b → BeginsIn (cond b (s.cont ++ t.cont) t.cont) rest
    either true e = BeginsIn-left s.cont t.cont rest i
    either false e = absurd (let never : false ≡ true = e in cc)

goes_on_after : (s t : Shape) (rest : List Token) → BeginsIn t.cont rest → BeginsIn (then_shape s t).cont rest
goes_on_after s t rest i = either t.nullable
  where
    either : (b : Bool) → BeginsIn (cond b (s.cont ++ t.cont) t.cont) rest
    either true = BeginsIn-right s.cont t.cont rest i
    either false = i

-- what the rule reads are values of this sort
abbrev pub ReadsOnly : {A : Type 0} → Rule A → (A → Type 0) → Type 0
ReadsOnly {A} rule IsRead = (tokens : List Token) (value : A) (rest : List Token) → rule tokens value rest → IsRead value

pub sound_then : {A B : Type 0} (first : Rule A) (next : A → Rule B) (s t : Shape) (known : A → List ℕ) (nodes : B → List ℕ) (base : List ℕ) (IsRead : A → Type 0) → ReadsOnly first IsRead → Sound first s known [] → ((a : A) → IsRead a → Sound (next a) t nodes (base ++ known a)) → Sound (first >>= next) (then_shape s t) nodes base
sound_then first next s t known nodes base IsRead is_read f n tokens value rest h =
    let one = f tokens h.0 h.1 h.2 in
    let two = n h.0 (is_read tokens h.0 h.1 h.2) h.1 value rest h.3 in
    record {
      read = one.read ++ two.read;
      split = one.split ∙ ap (λ us. one.read ++ us) two.split ∙ sym (append_assoc one.read two.read rest);
      again = λ other. (h.0, two.read ++ other, subst (λ us. first us h.0 (two.read ++ other)) (sym (append_assoc one.read two.read other)) (one.again (two.read ++ other)), two.again other);
      begins = begins_then s t one.read two.read one.begins two.begins;
      added = one.added ++ two.added;
      nodes_are = two.nodes_are ∙ append_assoc base (known h.0) two.added ∙ ap (λ ns. base ++ (ns ++ two.added)) one.nodes_are;
      placed = Placed-append one.added two.added (one.read ++ two.read) (Placed-left one.added one.read two.read one.placed) (Placed-right two.added one.read two.read two.placed);
    }

-- the rule of what follows has read on where it can't begin, or nothing
read_nothing : {A : Type 0} {rule : Rule A} {t : Shape} {nodes : A → List ℕ} {base : List ℕ} {tokens : List Token} {value : A} {rest : List Token} (cont : List ℕ) → IsTrue (apart cont t.first) → BeginsIn cont tokens → Reading rule t nodes base tokens value rest → IsTrue t.nullable × (tokens ≡ rest)
read_nothing {t = t} {tokens = tokens} {rest = rest} cont ok h r = either r.begins
  where
    either : Begins t r.read → IsTrue t.nullable × (tokens ≡ rest)
    either (inl b) = absurd (BeginsIn-apart cont t.first tokens ok h (subst (λ ts. BeginsIn t.first ts) (sym r.split) (BeginsIn-append t.first r.read rest b)))
    either (inr b) = (b.0, r.split ∙ ap (λ ts. ts ++ rest) b.1)

compared_then : {A : Type 0} (s t : Shape) (v w : A) (rest other : List Token) → Compared t.cont v w rest other → Compared (then_shape s t).cont v w rest other
compared_then s t v w rest other (same e m) = same e m
compared_then s t v w rest other (longer l b) = longer l (goes_on_after s t other b)
compared_then s t v w rest other (shorter l b) = shorter l (goes_on_after s t rest b)

abbrev pub then_fits : Shape → Shape → Bool
then_fits s t = apart s.cont t.first

module _ {A B : Type 0} (first first' : Rule A) (next next' : A → Rule B) (s t : Shape) (known : A → List ℕ) (nodes : B → List ℕ) (base : List ℕ) (IsRead : A → Type 0) (is_read : ReadsOnly first IsRead) (is_read' : ReadsOnly first' IsRead) (f : Good first first' s known []) (n : (a : A) → IsRead a → Good (next a) (next' a) t nodes (base ++ known a)) (fits : IsTrue (then_fits s t)) where
  alike_then : Alike (first >>= next) (first' >>= next') (then_shape s t).cont
  alike_then tokens v w rest other h k = go (f.alike tokens h.0 k.0 h.1 k.1 h.2 k.2)
    where
      moved : h.0 ≡ k.0 → h.1 ≡ k.1 → next' h.0 h.1 w other
      moved e m = subst (λ ts. next' h.0 ts w other) (sym m) (subst (λ a. next' a k.1 w other) (sym e) k.3)

      mine : Reading (next h.0) t nodes (base ++ known h.0) h.1 v rest
      mine = (n h.0 (is_read tokens h.0 h.1 h.2)).sound_one h.1 v rest h.3

      yours : Reading (next' k.0) t nodes (base ++ known k.0) k.1 w other
      yours = (n k.0 (is_read' tokens k.0 k.1 k.2)).sound_two k.1 w other k.3

      farther : length h.1 < length k.1 → BeginsIn s.cont k.1 → IsTrue t.nullable × (k.1 ≡ other) → Compared (then_shape s t).cont v w rest other
      farther l b e = longer (omega (arith, rest_no_longer mine, ap (λ (ts : List Token). length ts) e.1)) (goes_on_then s t other e.0 (subst (λ ts. BeginsIn s.cont ts) e.1 b))

      nearer : length k.1 < length h.1 → BeginsIn s.cont h.1 → IsTrue t.nullable × (h.1 ≡ rest) → Compared (then_shape s t).cont v w rest other
      nearer l b e = shorter (omega (arith, rest_no_longer yours, ap (λ (ts : List Token). length ts) e.1)) (goes_on_then s t rest e.0 (subst (λ ts. BeginsIn s.cont ts) e.1 b))

      go : Compared s.cont h.0 k.0 h.1 k.1 → Compared (then_shape s t).cont v w rest other
      go (same e m) = compared_then s t v w rest other ((n h.0 (is_read tokens h.0 h.1 h.2)).alike h.1 v w rest other h.3 (moved e m))
      go (longer l b) = farther l b (read_nothing s.cont fits b yours)
      go (shorter l b) = nearer l b (read_nothing s.cont fits b mine)

  good_then_where : Good (first >>= next) (first' >>= next') (then_shape s t) nodes base
  good_then_where = record {
    sound_one = sound_then first next s t known nodes base IsRead is_read f.sound_one (λ a r. (n a r).sound_one);
    sound_two = sound_then first' next' s t known nodes base IsRead is_read' f.sound_two (λ a r. (n a r).sound_two);
    alike = alike_then;
  }

-- where the laws of what follows need a fact of what was read first
pub good_when : {A B : Type 0} {first first' : Rule A} {next next' : A → Rule B} {s t : Shape} {known : A → List ℕ} {nodes : B → List ℕ} {base : List ℕ} (IsRead : A → Type 0) → ReadsOnly first IsRead → ReadsOnly first' IsRead → Good first first' s known [] → ((a : A) → IsRead a → Good (next a) (next' a) t nodes (base ++ known a)) → IsTrue (then_fits s t) → Good (first >>= next) (first' >>= next') (then_shape s t) nodes base
good_when {first = first} {first' = first'} {next = next} {next' = next'} {s = s} {t = t} {known = known} {nodes = nodes} {base = base} IsRead is_read is_read' f n fits = good_then_where first first' next next' s t known nodes base IsRead is_read is_read' f n fits

pub good_then : {A B : Type 0} {first first' : Rule A} {next next' : A → Rule B} {s t : Shape} {known : A → List ℕ} {nodes : B → List ℕ} {base : List ℕ} → Good first first' s known [] → ((a : A) → Good (next a) (next' a) t nodes (base ++ known a)) → IsTrue (then_fits s t) → Good (first >>= next) (first' >>= next') (then_shape s t) nodes base
good_then {first = first} {first' = first'} {next = next} {next' = next'} {s = s} {t = t} {known = known} {nodes = nodes} {base = base} f n fits = good_then_where first first' next next' s t known nodes base (λ a. Unit {0}) (λ tokens a rest h. tt) (λ tokens a rest h. tt) f (λ a r. n a) fits

-- ---- either

abbrev pub or_shape : Shape → Shape → Shape
or_shape s t = record {
  nullable = s.nullable || t.nullable;
  first = s.first ++ t.first;
  cont = (s.cont ++ t.cont) ++ (cond s.nullable t.first [] ++ cond t.nullable s.first []);
}

abbrev pub or_fits : Shape → Shape → Bool
or_fits s t = apart s.first t.first && not (s.nullable && t.nullable)

begins_or_left : (s t : Shape) (ts : List Token) → Begins s ts → Begins (or_shape s t) ts
begins_or_left s t ts (inl h) = inl (BeginsIn-left s.first t.first ts h)
begins_or_left s t ts (inr h) = inr (either s.nullable h.0, h.1)
  where
    either : (b : Bool) → IsTrue b → IsTrue (b || t.nullable)
    either true e = refl
    either false e = absurd (let never : false ≡ true = e in cc)

begins_or_right : (s t : Shape) (ts : List Token) → Begins t ts → Begins (or_shape s t) ts
begins_or_right s t ts (inl h) = inl (BeginsIn-right s.first t.first ts h)
begins_or_right s t ts (inr h) = inr (either s.nullable h.0, h.1)
  where
    either : (b : Bool) → IsTrue t.nullable → IsTrue (b || t.nullable)
    either true e = refl
    either false e = e

module _ {A : Type 0} (left right : Rule A) (s t : Shape) (nodes : A → List ℕ) (base : List ℕ) where
  pub sound_or : Sound left s nodes base → Sound right t nodes base → Sound (left or right) (or_shape s t) nodes base
  sound_or f g tokens value rest (inl h) =
      let r = f tokens value rest h in
      record { read = r.read; split = r.split; again = λ other. inl (r.again other); begins = begins_or_left s t r.read r.begins; added = r.added; nodes_are = r.nodes_are; placed = r.placed }
  sound_or f g tokens value rest (inr h) =
      let r = g tokens value rest h in
      record { read = r.read; split = r.split; again = λ other. inr (r.again other); begins = begins_or_right s t r.read r.begins; added = r.added; nodes_are = r.nodes_are; placed = r.placed }

and_first : (a b : Bool) → IsTrue (a && b) → IsTrue a
and_first true b h = refl
and_first false b h = h

and_second : (a b : Bool) → IsTrue (a && b) → IsTrue b
and_second true b h = h
and_second false b h = absurd (let never : false ≡ true = h in cc)

not_both : (a b : Bool) → IsTrue (not (a && b)) → IsTrue a → IsTrue b → ⊥
not_both true true h i j = let never : false ≡ true = h in cc
not_both true false h i j = let never : false ≡ true = j in cc
not_both false b h i j = let never : false ≡ true = i in cc

compared_or_left : {A : Type 0} (s t : Shape) (v w : A) (rest other : List Token) → Compared s.cont v w rest other → Compared (or_shape s t).cont v w rest other
compared_or_left s t v w rest other (same e m) = same e m
compared_or_left s t v w rest other (longer l b) = longer l (BeginsIn-left (s.cont ++ t.cont) (cond s.nullable t.first [] ++ cond t.nullable s.first []) other (BeginsIn-left s.cont t.cont other b))
compared_or_left s t v w rest other (shorter l b) = shorter l (BeginsIn-left (s.cont ++ t.cont) (cond s.nullable t.first [] ++ cond t.nullable s.first []) rest (BeginsIn-left s.cont t.cont rest b))

compared_or_right : {A : Type 0} (s t : Shape) (v w : A) (rest other : List Token) → Compared t.cont v w rest other → Compared (or_shape s t).cont v w rest other
compared_or_right s t v w rest other (same e m) = same e m
compared_or_right s t v w rest other (longer l b) = longer l (BeginsIn-left (s.cont ++ t.cont) (cond s.nullable t.first [] ++ cond t.nullable s.first []) other (BeginsIn-right s.cont t.cont other b))
compared_or_right s t v w rest other (shorter l b) = shorter l (BeginsIn-left (s.cont ++ t.cont) (cond s.nullable t.first [] ++ cond t.nullable s.first []) rest (BeginsIn-right s.cont t.cont rest b))

-- one of the two rules has read nothing, and the other something
first_goes_on_left : (s t : Shape) (ts : List Token) → IsTrue s.nullable → BeginsIn t.first ts → BeginsIn (or_shape s t).cont ts
first_goes_on_left s t ts e h = BeginsIn-right (s.cont ++ t.cont) (cond s.nullable t.first [] ++ cond t.nullable s.first []) ts (BeginsIn-left (cond s.nullable t.first []) (cond t.nullable s.first []) ts (either s.nullable e))
  where
    either : (b : Bool) → IsTrue b → BeginsIn (cond b t.first []) ts
    either true e = h
    either false e = absurd (let never : false ≡ true = e in cc)

first_goes_on_right : (s t : Shape) (ts : List Token) → IsTrue t.nullable → BeginsIn s.first ts → BeginsIn (or_shape s t).cont ts
first_goes_on_right s t ts e h = BeginsIn-right (s.cont ++ t.cont) (cond s.nullable t.first [] ++ cond t.nullable s.first []) ts (BeginsIn-right (cond s.nullable t.first []) (cond t.nullable s.first []) ts (either t.nullable e))
  where
    either : (b : Bool) → IsTrue b → BeginsIn (cond b s.first []) ts
    either true e = h
    either false e = absurd (let never : false ≡ true = e in cc)

begins_of : {A : Type 0} {rule : Rule A} {s : Shape} {nodes : A → List ℕ} {base : List ℕ} {tokens : List Token} {value : A} {rest : List Token} → Reading rule s nodes base tokens value rest → (BeginsIn s.first tokens × (length rest < length tokens)) ⊎ (IsTrue s.nullable × (tokens ≡ rest))
begins_of {s = s} {tokens = tokens} {rest = rest} r = either r.begins
  where
    either : Begins s r.read → (BeginsIn s.first tokens × (length rest < length tokens)) ⊎ (IsTrue s.nullable × (tokens ≡ rest))
    either (inl b) = inl (subst (λ ts. BeginsIn s.first ts) (sym r.split) (BeginsIn-append s.first r.read rest b), omega (arith, BeginsIn-longer s.first r.read b, ap (λ (ts : List Token). length ts) r.split, length-append r.read rest))
    either (inr b) = inr (b.0, r.split ∙ ap (λ ts. ts ++ rest) b.1)

module _ {A : Type 0} (s t : Shape) (fits : IsTrue (or_fits s t)) (v w : A) (tokens rest other : List Token) where
  -- the left rule has read to rest, the right one to other
  crossed : (BeginsIn s.first tokens × (length rest < length tokens)) ⊎ (IsTrue s.nullable × (tokens ≡ rest)) → (BeginsIn t.first tokens × (length other < length tokens)) ⊎ (IsTrue t.nullable × (tokens ≡ other)) → Compared (or_shape s t).cont v w rest other
  crossed (inl h) (inl k) = absurd (BeginsIn-apart s.first t.first tokens (and_first (apart s.first t.first) (not (s.nullable && t.nullable)) fits) h.0 k.0)
  crossed (inl h) (inr k) = longer (omega (arith, h.1, ap (λ (ts : List Token). length ts) k.1)) (subst (λ ts. BeginsIn (or_shape s t).cont ts) k.1 (first_goes_on_right s t tokens k.0 h.0))
  crossed (inr h) (inl k) = shorter (omega (arith, k.1, ap (λ (ts : List Token). length ts) h.1)) (subst (λ ts. BeginsIn (or_shape s t).cont ts) h.1 (first_goes_on_left s t tokens h.0 k.0))
  crossed (inr h) (inr k) = absurd (not_both s.nullable t.nullable (and_second (apart s.first t.first) (not (s.nullable && t.nullable)) fits) h.0 k.0)

turned : {A : Type 0} {cont : List ℕ} {v w : A} {rest other : List Token} → Compared cont v w rest other → Compared cont w v other rest
turned (same e m) = same (sym e) (sym m)
turned (longer l b) = shorter l b
turned (shorter l b) = longer l b

module _ {A : Type 0} (left left' right right' : Rule A) (s t : Shape) (nodes : A → List ℕ) (base : List ℕ) (f : Good left left' s nodes base) (g : Good right right' t nodes base) (fits : IsTrue (or_fits s t)) where
  alike_or : Alike (left or right) (left' or right') (or_shape s t).cont
  alike_or tokens v w rest other (inl h) (inl k) = compared_or_left s t v w rest other (f.alike tokens v w rest other h k)
  alike_or tokens v w rest other (inr h) (inr k) = compared_or_right s t v w rest other (g.alike tokens v w rest other h k)
  alike_or tokens v w rest other (inl h) (inr k) = crossed s t fits v w tokens rest other (begins_of (f.sound_one tokens v rest h)) (begins_of (g.sound_two tokens w other k))
  alike_or tokens v w rest other (inr h) (inl k) = turned (crossed s t fits w v tokens other rest (begins_of (f.sound_two tokens w other k)) (begins_of (g.sound_one tokens v rest h)))

  both_good : Good (left or right) (left' or right') (or_shape s t) nodes base
  both_good = record {
    sound_one = sound_or left right s t nodes base f.sound_one g.sound_one;
    sound_two = sound_or left' right' s t nodes base f.sound_two g.sound_two;
    alike = alike_or;
  }

pub good_or : {A : Type 0} {left left' right right' : Rule A} {s t : Shape} {nodes : A → List ℕ} {base : List ℕ} → Good left left' s nodes base → Good right right' t nodes base → IsTrue (or_fits s t) → Good (left or right) (left' or right') (or_shape s t) nodes base
good_or {left = left} {left' = left'} {right = right} {right' = right'} {s = s} {t = t} {nodes = nodes} {base = base} f g fits = both_good left left' right right' s t nodes base f g fits

-- ---- any number

abbrev pub many_shape : Shape → Shape
many_shape s = record { nullable = true; first = s.first; cont = s.cont ++ s.first }

abbrev pub many_fits : Shape → Bool
many_fits s = apart s.cont s.first && not s.nullable

not_true : (b : Bool) → IsTrue (not b) → IsTrue b → ⊥
not_true true h i = let never : false ≡ true = h in cc
not_true false h i = let never : false ≡ true = i in cc

begins_solid : (s : Shape) (ts : List Token) → IsTrue (not s.nullable) → Begins s ts → BeginsIn s.first ts
begins_solid s ts solid (inl b) = b
begins_solid s ts solid (inr b) = absurd (not_true s.nullable solid b.0)

module _ {A : Type 0} (rule : Rule A) (s : Shape) (nodes : A → List ℕ) (solid : IsTrue (not s.nullable)) (f : Sound rule s nodes []) where
  pub sound_many : Sound (many rule) (many_shape s) (flat_map nodes) []
  sound_many tokens [] rest h = record {
    read = [];
    split = h;
    again = λ other. refl;
    begins = inr (refl, refl);
    added = [];
    nodes_are = refl;
    placed = tt;
  }
  sound_many tokens (value ∷ values) rest h =
      let one = f tokens value h.0 h.1 in
      let more = sound_many h.0 values rest h.2 in
      record {
        read = one.read ++ more.read;
        split = one.split ∙ ap (λ us. one.read ++ us) more.split ∙ sym (append_assoc one.read more.read rest);
        again = λ other. (more.read ++ other, subst (λ us. rule us value (more.read ++ other)) (sym (append_assoc one.read more.read other)) (one.again (more.read ++ other)), more.again other);
        begins = inl (BeginsIn-append s.first one.read more.read (begins_solid s one.read solid one.begins));
        added = one.added ++ more.added;
        nodes_are = ap (λ ns. ns ++ flat_map nodes values) one.nodes_are ∙ ap (λ ns. one.added ++ ns) more.nodes_are;
        placed = Placed-append one.added more.added (one.read ++ more.read) (Placed-left one.added one.read more.read one.placed) (Placed-right more.added one.read more.read more.placed);
      }

module _ {A : Type 0} (rule rule' : Rule A) (s : Shape) (nodes : A → List ℕ) (f : Good rule rule' s nodes []) (fits : IsTrue (many_fits s)) where
  pub solid_of : IsTrue (not s.nullable)
  solid_of = and_second (apart s.cont s.first) (not s.nullable) fits

  pub apart_of : IsTrue (apart s.cont s.first)
  apart_of = and_first (apart s.cont s.first) (not s.nullable) fits

  -- an item that a shorter one could have been, where what follows the shorter are items again
  stopped : {tokens : List Token} {values : List A} {rest : List Token} → BeginsIn s.cont tokens → Reading (many rule) (many_shape s) (flat_map nodes) [] tokens values rest → tokens ≡ rest
  stopped {tokens = tokens} {rest = rest} b r = either r.begins
    where
      either : Begins (many_shape s) r.read → tokens ≡ rest
      either (inl i) = absurd (BeginsIn-apart s.cont s.first tokens apart_of b (subst (λ ts. BeginsIn s.first ts) (sym r.split) (BeginsIn-append s.first r.read rest i)))
      either (inr i) = r.split ∙ ap (λ ts. ts ++ rest) i.1

compared_many : {A : Type 0} (s : Shape) (v w : A) (vs ws : List A) (rest other : List Token) → v ≡ w → Compared (many_shape s).cont vs ws rest other → Compared (many_shape s).cont (v ∷ vs) (w ∷ ws) rest other
compared_many s v w vs ws rest other e (same f m) = same (ap₂ (λ x xs. x ∷ xs) e f) m
compared_many s v w vs ws rest other e (longer l b) = longer l b
compared_many s v w vs ws rest other e (shorter l b) = shorter l b

module _ {A : Type 0} (rule rule' : Rule A) (s : Shape) (nodes : A → List ℕ) (f : Good rule rule' s nodes []) (fits : IsTrue (many_fits s)) where
  turned_good : Good rule' rule s nodes []
  turned_good = record { sound_one = f.sound_two; sound_two = f.sound_one; alike = λ tokens v w rest other h k. turned (f.alike tokens w v other rest k h) }

  solid : IsTrue (not s.nullable)
  solid = solid_of rule rule' s nodes f fits

  items : (tokens : List Token) (values : List A) (rest : List Token) → many rule tokens values rest → Reading (many rule) (many_shape s) (flat_map nodes) [] tokens values rest
  items = sound_many rule s nodes solid f.sound_one

  items' : (tokens : List Token) (values : List A) (rest : List Token) → many rule' tokens values rest → Reading (many rule') (many_shape s) (flat_map nodes) [] tokens values rest
  items' = sound_many rule' s nodes solid f.sound_two

  alike_many : Alike (many rule) (many rule') (many_shape s).cont
  alike_many tokens [] [] rest other h k = same refl (sym h ∙ k)
  alike_many tokens [] (w ∷ ws) rest other h k =
      let one = f.sound_two tokens w k.0 k.1 in
      let more = items' k.0 ws other k.2 in
      let b = begins_solid s one.read solid one.begins in
      shorter (omega (arith, BeginsIn-longer s.first one.read b, ap (λ (ts : List Token). length ts) one.split, length-append one.read k.0, rest_no_longer more, ap (λ (ts : List Token). length ts) h)) (subst (λ ts. BeginsIn (s.cont ++ s.first) ts) h (BeginsIn-right s.cont s.first tokens (subst (λ ts. BeginsIn s.first ts) (sym one.split) (BeginsIn-append s.first one.read k.0 b))))
  alike_many tokens (v ∷ vs) [] rest other h k =
      let one = f.sound_one tokens v h.0 h.1 in
      let more = items h.0 vs rest h.2 in
      let b = begins_solid s one.read solid one.begins in
      longer (omega (arith, BeginsIn-longer s.first one.read b, ap (λ (ts : List Token). length ts) one.split, length-append one.read h.0, rest_no_longer more, ap (λ (ts : List Token). length ts) k)) (subst (λ ts. BeginsIn (s.cont ++ s.first) ts) k (BeginsIn-right s.cont s.first tokens (subst (λ ts. BeginsIn s.first ts) (sym one.split) (BeginsIn-append s.first one.read h.0 b))))
  alike_many tokens (v ∷ vs) (w ∷ ws) rest other h k = go (f.alike tokens v w h.0 k.0 h.1 k.1) (λ m. alike_many h.0 vs ws rest other h.2 (subst (λ ts. many rule' ts ws other) (sym m) k.2))
    where
      farther : length h.0 < length k.0 → BeginsIn s.cont k.0 → k.0 ≡ other → Compared (s.cont ++ s.first) (v ∷ vs) (w ∷ ws) rest other
      farther l b e = longer (omega (arith, rest_no_longer (items h.0 vs rest h.2), ap (λ (ts : List Token). length ts) e)) (BeginsIn-left s.cont s.first other (subst (λ ts. BeginsIn s.cont ts) e b))

      nearer : length k.0 < length h.0 → BeginsIn s.cont h.0 → h.0 ≡ rest → Compared (s.cont ++ s.first) (v ∷ vs) (w ∷ ws) rest other
      nearer l b e = shorter (omega (arith, rest_no_longer (items' k.0 ws other k.2), ap (λ (ts : List Token). length ts) e)) (BeginsIn-left s.cont s.first rest (subst (λ ts. BeginsIn s.cont ts) e b))

      go : Compared s.cont v w h.0 k.0 → (h.0 ≡ k.0 → Compared (s.cont ++ s.first) vs ws rest other) → Compared (s.cont ++ s.first) (v ∷ vs) (w ∷ ws) rest other
      go (same e m) onwards = compared_many s v w vs ws rest other e (onwards m)
      go (longer l b) onwards = farther l b (stopped rule' rule s nodes turned_good fits b (items' k.0 ws other k.2))
      go (shorter l b) onwards = nearer l b (stopped rule rule' s nodes f fits b (items h.0 vs rest h.2))

  many_good : Good (many rule) (many rule') (many_shape s) (flat_map nodes) []
  many_good = record { sound_one = items; sound_two = items'; alike = alike_many }

pub good_many : {A : Type 0} {rule rule' : Rule A} {s : Shape} {nodes : A → List ℕ} → Good rule rule' s nodes [] → IsTrue (many_fits s) → Good (many rule) (many rule') (many_shape s) (flat_map nodes) []
good_many {rule = rule} {rule' = rule'} {s = s} {nodes = nodes} f fits = many_good rule rule' s nodes f fits

-- ---- by one of the rules

module _ {A : Type 0} (rules rules' : ℕ → Rule A) (s : Shape) (nodes : A → List ℕ) (base : List ℕ) (f : (m n : ℕ) → Good (rules m) (rules' n) s nodes base) where
  sound_any : Sound (any rules) s nodes base
  sound_any tokens value rest h =
      let r = (f h.0 0).sound_one tokens value rest h.1 in
      record { read = r.read; split = r.split; again = λ other. (h.0, r.again other); begins = r.begins; added = r.added; nodes_are = r.nodes_are; placed = r.placed }

  sound_any' : Sound (any rules') s nodes base
  sound_any' tokens value rest h =
      let r = (f 0 h.0).sound_two tokens value rest h.1 in
      record { read = r.read; split = r.split; again = λ other. (h.0, r.again other); begins = r.begins; added = r.added; nodes_are = r.nodes_are; placed = r.placed }

  pub good_any : Good (any rules) (any rules') s nodes base
  good_any = record { sound_one = sound_any; sound_two = sound_any'; alike = λ tokens v w rest other h k. (f h.0 k.0).alike tokens v w rest other h.1 k.1 }

module _ {A : Type 0} (rule : Rule A) (s : Shape) (nodes : A → List ℕ) (base : List ℕ) (f : Sound rule s nodes base) where
  pub never_good : Good never rule s nodes base
  never_good = record { sound_one = λ tokens value rest h. absurd h; sound_two = f; alike = λ tokens v w rest other h k. absurd h }

  pub good_never : Good rule never s nodes base
  good_never = record { sound_one = f; sound_two = λ tokens value rest h. absurd h; alike = λ tokens v w rest other h k. absurd k }

pub sound_never : {A : Type 0} (s : Shape) (nodes : A → List ℕ) (base : List ℕ) → Sound {A = A} never s nodes base
sound_never s nodes base tokens value rest h = absurd h

-- ---- one token

abbrev pub token_shape : ℕ → Shape
token_shape c = record { nullable = false; first = c ∷ []; cont = [] }

-- it is a node, or none
abbrev pub IsMark : List ℕ → ℕ → Type 0
IsMark nodes place = (nodes ≡ []) ⊎ (nodes ≡ place ∷ [])

pub same_front : {A : Type 0} (x y : A) (xs ys : List A) → x ∷ xs ≡ y ∷ ys → (x ≡ y) × (xs ≡ ys)
same_front x y xs ys e = (let f : x ≡ y = cc in f, let g : xs ≡ ys = cc in g)

module _ {A : Type 0} (kind : A → TokenKind) (place : A → ℕ) (c : ℕ) (nodes : A → List ℕ) (of_class : (value : A) → class (kind value) ≡ c) (marked : (value : A) → IsMark (nodes value) (place value)) (tells : (v w : A) → kind v ≡ kind w → place v ≡ place w → v ≡ w) where
  abbrev pub one_token : Rule A
  one_token tokens value rest = token (kind value) tokens (place value) rest

  sound_token : Sound one_token (token_shape c) nodes []
  sound_token tokens value rest h =
      let t : Token = record { kind = kind value; place = place value; end = h.0 } in
      let mark = added_by (marked value) in
      record {
        read = t ∷ [];
        split = h.1;
        again = λ other. (h.0, refl);
        begins = inl (inl (of_class value));
        added = mark.0;
        nodes_are = mark.1;
        placed = mark.2 h.0;
      }
    where
      added_by : IsMark (nodes value) (place value) → (added : List ℕ) × (nodes value ≡ [] ++ added) × ((end : ℕ) → Placed added (record { kind = kind value; place = place value; end = end } ∷ []))
      added_by (inl e) = ([], e, λ end. tt)
      added_by (inr e) = (place value ∷ [], e, λ end. (inl refl, tt))

  alike_token : Alike one_token one_token []
  alike_token tokens v w rest other h k =
      let fronts = same_front _ _ rest other (sym h.1 ∙ k.1) in
      same (tells v w (ap (λ (t : Token). t.kind) fronts.0) (ap (λ (t : Token). t.place) fronts.0)) fronts.1

  pub good_token : Good one_token one_token (token_shape c) nodes []
  good_token = record { sound_one = sound_token; sound_two = sound_token; alike = alike_token }
