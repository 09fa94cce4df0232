-- Readings that go on by one token.
use Rattle.std.proofs.Common.{◌≡◌, ℕ, ◌+◌, ◌<◌, ◌≤◌, List, [], ◌∷◌, ◌++◌, Bool, true, false, nat_lt, Option, Some, None, refl, sym, ap, ◌∙◌, arith}
use Rattle.kern_token.specs.declared.fault.KernFault.{KernFault}
use Rattle.kern_token.specs.declared.fault.KernFault.TheVariants as faults
use Rattle.kern_token.specs.declared.token.Symbol.{Symbol}
use Rattle.kern_token.specs.declared.token.Symbol.TheVariants as symbols
use Rattle.kern_token.specs.declared.token.Token.{Token}
use Rattle.kern_token.specs.declared.token.TokenKind.{TokenKind}
use Rattle.kern_token.specs.declared.token.TokenKind.TheVariants as kinds
use Rattle.kern_tree.specs.FirstFault.{brackets_after}
use Rattle.kern_parse.specs.inner.Found.{ReadsToken}
use Rattle.kern_parse.specs.inner.Leading.{reads_on, fault_of, Leads, Halts}
use Rattle.kern_parse.specs.inner.Reading.{Reading, next_kind, first_kind, Takes, TakesNode, IsFull}
use Rattle.kern_parse.specs.Required.{Part, move, plain_move, node_move, same_symbol, exactly_move, Refuses, moves}
use Rattle.kern_parse.proofs.Steps.{moves_first, reads_plain, reads_node, reads_full, reads_deep, shallow_test, few_test, full_test, deep_test}

some_is : {A : Type 0} {x y : A} → Some x ≡ Some y → x ≡ y
some_is h = cc

pub kind_is : (rest after : List Token) (token : Token) (kind : TokenKind) → rest ≡ token ∷ after → first_kind rest ≡ Some kind → token.kind ≡ kind
kind_is rest after token kind rest_is next = some_is (ap first_kind (sym rest_is) ∙ next)

-- the same reading, given by its parts
at_parts : (parts : List Part) (old : Reading) (end nodes depth : ℕ) (rest : List Token)
    → old.end ≡ end → old.nodes ≡ nodes → old.depth ≡ depth → old.rest ≡ rest → fault_of parts old ≡ reads_on end parts nodes depth rest
at_parts parts old end nodes depth rest end_is nodes_is depth_is rest_is =
    ap (λ e. reads_on e parts old.nodes old.depth old.rest) end_is
    ∙ ap (λ n. reads_on end parts n old.depth old.rest) nodes_is
    ∙ ap (λ d. reads_on end parts nodes d old.rest) depth_is
    ∙ ap (λ r. reads_on end parts nodes depth r) rest_is

module _ (part : Part) (thens : List Part) (kind : TokenKind) (old : Reading) (token : Token) (after : List Token)
    (rest : old.rest ≡ token ∷ after) (next : next_kind old ≡ Some kind) where
  at_token : (later : List Part) → fault_of (part ∷ later) old ≡ reads_on old.end (part ∷ later) old.nodes old.depth (token ∷ after)
  at_token later = at_parts (part ∷ later) old old.end old.nodes old.depth (token ∷ after) refl refl refl rest

  found : (later : List Part) (is_node : Bool) → move part kind ≡ Some (record { then = thens; is_node = is_node })
      → moves (part ∷ later) token.kind ≡ Some (record { then = thens ++ later; is_node = is_node })
  found later is_node is = moves_first part later token.kind (record { then = thens; is_node = is_node }) (ap (move part) (kind_is old.rest after token kind rest next) ∙ is)

  brackets : brackets_after old.depth token.kind ≡ brackets_after old.depth kind
  brackets = ap (brackets_after old.depth) (kind_is old.rest after token kind rest next)

  pub leads_plain : (new : Reading) → move part kind ≡ plain_move thens → after ≡ new.rest → new.end ≡ old.end → new.nodes ≡ old.nodes
      → brackets_after old.depth kind ≡ new.depth → new.depth ≤ 32 → Leads (part ∷ []) old thens new
  leads_plain new is rest_is end nodes depth shallow = record {
    goes = λ later. at_token later
        ∙ reads_plain old.end (part ∷ later) old.nodes old.depth token after (thens ++ later) (found later false is) (ap (nat_lt 32) (brackets ∙ depth) ∙ shallow_test new.depth shallow)
        ∙ sym (at_parts (thens ++ later) new old.end old.nodes (brackets_after old.depth token.kind) after end nodes (sym (brackets ∙ depth)) (sym rest_is));
  }

  pub leads_node : (new : Reading) → move part kind ≡ node_move thens → after ≡ new.rest → new.end ≡ old.end → new.nodes ≡ old.nodes + 1 → old.nodes < 512
      → brackets_after old.depth kind ≡ old.depth → new.depth ≡ old.depth → old.depth ≤ 32 → Leads (part ∷ []) old thens new
  leads_node new is rest_is end nodes few same depth shallow = record {
    goes = λ later. at_token later
        ∙ reads_node old.end (part ∷ later) old.nodes old.depth token after (thens ++ later) (found later true is) (ap (nat_lt 32) (brackets ∙ same) ∙ shallow_test old.depth shallow) (few_test old.nodes few)
        ∙ sym (at_parts (thens ++ later) new old.end (old.nodes + 1) (brackets_after old.depth token.kind) after end nodes (depth ∙ sym (brackets ∙ same)) (sym rest_is));
  }

  pub halts_full : move part kind ≡ node_move thens → 512 ≤ old.nodes → brackets_after old.depth kind ≡ old.depth → old.depth ≤ 32
      → Halts (part ∷ []) old (faults.TooManyNodes token.place)
  halts_full is full same shallow = record {
    halts = λ later. at_token later
        ∙ reads_full old.end (part ∷ later) old.nodes old.depth token after (thens ++ later) (found later true is) (ap (nat_lt 32) (brackets ∙ same) ∙ shallow_test old.depth shallow) (full_test old.nodes full);
  }

  pub halts_deep : move part kind ≡ plain_move thens → 33 ≤ brackets_after old.depth kind → Halts (part ∷ []) old (faults.TooDeep token.place)
  halts_deep is deep = record {
    halts = λ later. at_token later
        ∙ reads_deep old.end (part ∷ later) old.nodes old.depth token after (record { then = thens ++ later; is_node = false }) (found later false is)
        (ap (nat_lt 32) brackets ∙ deep_test (brackets_after old.depth kind) deep);
  }

-- ---- tokens as the reader takes them

pub takes_plain : (part : Part) (thens : List Part) (kind : TokenKind) (old : Reading) (place : ℕ) (new : Reading) → Takes old place new → next_kind old ≡ Some kind
    → move part kind ≡ plain_move thens → brackets_after old.depth kind ≡ old.depth → Leads (part ∷ []) old thens new
takes_plain part thens kind old place new t next is same =
    leads_plain part thens kind old t.token new.rest t.rest next new is refl t.end t.nodes (same ∙ sym t.depth) (omega (arith, t.shallow, t.depth))

pub takes_node : (part : Part) (thens : List Part) (kind : TokenKind) (old : Reading) (place : ℕ) (new : Reading) → TakesNode old place new → next_kind old ≡ Some kind
    → move part kind ≡ node_move thens → brackets_after old.depth kind ≡ old.depth → Leads (part ∷ []) old thens new
takes_node part thens kind old place new t next is same =
    leads_node part thens kind old t.token new.rest t.rest next new is refl t.end t.nodes t.few same t.depth t.shallow

pub full_halts : (part : Part) (thens : List Part) (kind : TokenKind) (old : Reading) (fault : KernFault) → IsFull old fault → next_kind old ≡ Some kind
    → move part kind ≡ node_move thens → brackets_after old.depth kind ≡ old.depth → Halts (part ∷ []) old fault
full_halts part thens kind old fault t next is same =
    rw t.fault_is (halts_full part thens kind old t.token t.after t.rest next is t.full same t.shallow)

-- ---- a certain symbol

pub same_symbol-refl : (s : Symbol) → same_symbol s s ≡ true
same_symbol-refl symbols.Plus = refl
same_symbol-refl symbols.Minus = refl
same_symbol-refl symbols.Star = refl
same_symbol-refl symbols.Slash = refl
same_symbol-refl symbols.OpenRound = refl
same_symbol-refl symbols.CloseRound = refl
same_symbol-refl symbols.OpenCurly = refl
same_symbol-refl symbols.CloseCurly = refl
same_symbol-refl symbols.Comma = refl
same_symbol-refl symbols.Semicolon = refl
same_symbol-refl symbols.Colon = refl
same_symbol-refl symbols.Dot = refl
same_symbol-refl symbols.Assign = refl
same_symbol-refl symbols.Add = refl
same_symbol-refl symbols.Lt = refl
same_symbol-refl symbols.Le = refl
same_symbol-refl symbols.Gt = refl
same_symbol-refl symbols.Ge = refl
same_symbol-refl symbols.Eq = refl
same_symbol-refl symbols.Ne = refl
same_symbol-refl symbols.And = refl
same_symbol-refl symbols.Or = refl
same_symbol-refl symbols.Not = refl

pub same_symbol-true : (s t : Symbol) → same_symbol s t ≡ true → s ≡ t
same_symbol-true symbols.Plus symbols.Plus h = refl
same_symbol-true symbols.Minus symbols.Minus h = refl
same_symbol-true symbols.Star symbols.Star h = refl
same_symbol-true symbols.Slash symbols.Slash h = refl
same_symbol-true symbols.OpenRound symbols.OpenRound h = refl
same_symbol-true symbols.CloseRound symbols.CloseRound h = refl
same_symbol-true symbols.OpenCurly symbols.OpenCurly h = refl
same_symbol-true symbols.CloseCurly symbols.CloseCurly h = refl
same_symbol-true symbols.Comma symbols.Comma h = refl
same_symbol-true symbols.Semicolon symbols.Semicolon h = refl
same_symbol-true symbols.Colon symbols.Colon h = refl
same_symbol-true symbols.Dot symbols.Dot h = refl
same_symbol-true symbols.Assign symbols.Assign h = refl
same_symbol-true symbols.Add symbols.Add h = refl
same_symbol-true symbols.Lt symbols.Lt h = refl
same_symbol-true symbols.Le symbols.Le h = refl
same_symbol-true symbols.Gt symbols.Gt h = refl
same_symbol-true symbols.Ge symbols.Ge h = refl
same_symbol-true symbols.Eq symbols.Eq h = refl
same_symbol-true symbols.Ne symbols.Ne h = refl
same_symbol-true symbols.And symbols.And h = refl
same_symbol-true symbols.Or symbols.Or h = refl
same_symbol-true symbols.Not symbols.Not h = refl
same_symbol-true _ _ h = cc

pub exactly_is : (s : Symbol) → move (Part.Exactly s) (kinds.Symbol s) ≡ plain_move []
exactly_is s = ap exactly_move (same_symbol-refl s)

not_same : (s t : Symbol) (b : Bool) → same_symbol s t ≡ b → (kinds.Symbol t ≡ kinds.Symbol s → ⊥) → exactly_move b ≡ None
not_same s t true same other = absurd (other (ap kinds.Symbol (sym (same_symbol-true s t same))))
not_same s t false same other = refl

pub exactly_refused : (s : Symbol) (kind : TokenKind) → (kind ≡ kinds.Symbol s → ⊥) → move (Part.Exactly s) kind ≡ None
exactly_refused s (kinds.Symbol t) other = not_same s t (same_symbol s t) refl other
exactly_refused s _ other = refl

-- ---- one token that holds something

-- a token of the kind was read for the part
pub reads_at : (part : Part) (kind : TokenKind) (old : Reading) (token : Token) (new : Reading) → old.rest ≡ token ∷ new.rest → next_kind old ≡ Some kind
    → move part kind ≡ plain_move [] → new.end ≡ old.end → new.nodes ≡ old.nodes → brackets_after old.depth kind ≡ new.depth → new.depth ≤ 32 → ReadsToken part kind old new
reads_at part kind old token new rest next is end nodes depth shallow = record {
  place = token.place;
  spelled = (token.end, rest ∙ ap (λ k. record { kind = k; place = token.place; end = token.end } ∷ new.rest) (kind_is old.rest new.rest token kind rest next));
  leads = leads_plain part [] kind old token new.rest rest next new is refl end nodes depth shallow;
  depth = sym depth;
  shallow = shallow;
}

pub reads_token : (part : Part) (kind : TokenKind) (old : Reading) (place : ℕ) (new : Reading) → Takes old place new → next_kind old ≡ Some kind
    → move part kind ≡ plain_move [] → ((depth : ℕ) → brackets_after depth kind ≡ depth) → ReadsToken part kind old new
reads_token part kind old place new t next is same =
    reads_at part kind old t.token new t.rest next is t.end t.nodes (same old.depth ∙ sym t.depth) (omega (arith, t.shallow, t.depth))

pub exactly_refuses : (s : Symbol) (next : Option TokenKind) → (next ≡ Some (kinds.Symbol s) → ⊥) → Refuses (Part.Exactly s) next
exactly_refuses s None other = tt
exactly_refuses s (Some kind) other = exactly_refused s kind (λ e. other (ap Some e))
