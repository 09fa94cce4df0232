-- One token of a reading.
use Rattle.std.proofs.Common.{◌≡◌, ℕ, ◌+◌, ◌<◌, ◌≤◌, List, [], ◌∷◌, ◌++◌, Bool, true, false, ◌&&◌, cond, nat_le, nat_lt, Option, Some, None, refl, ap, ap₂, ◌∙◌, arith}
use Rattle.std.proofs.lemmas.Bool.Decides.{nat_tests}
use Rattle.kern_token.specs.declared.fault.KernFault.TheVariants as faults
use Rattle.kern_token.specs.declared.token.Token.{Token}
use Rattle.kern_token.specs.declared.token.TokenKind.{TokenKind}
use Rattle.kern_tree.specs.FirstFault.{brackets_after}
use Rattle.kern_parse.specs.inner.Leading.{nodes_after, step, reads_on, fault_of, Leads, Halts}
use Rattle.kern_parse.specs.inner.Reading.{Reading, first_kind, first_place, next_kind, next_place}
use Rattle.kern_parse.specs.Required.{Part, Move, move, is_optional, Refuses, moves, chosen, are_optional}

-- ---- what may come next

pub moves_first : (part : Part) (parts : List Part) (kind : TokenKind) (found : Move) → move part kind ≡ Some found
    → moves (part ∷ parts) kind ≡ Some (record { then = found.then ++ parts; is_node = found.is_node })
unfolding moves
moves_first part parts kind found is = ap (λ m. chosen m (is_optional part) parts (moves parts kind)) is

pub moves_refused : (part : Part) (parts : List Part) (kind : TokenKind) → move part kind ≡ None → is_optional part ≡ false
    → moves (part ∷ parts) kind ≡ None
unfolding moves
moves_refused part parts kind none required = ap₂ (λ m o. chosen m o parts (moves parts kind)) none required

pub moves_passed : (part : Part) (parts : List Part) (kind : TokenKind) → move part kind ≡ None → is_optional part ≡ true
    → moves (part ∷ parts) kind ≡ moves parts kind
unfolding moves
moves_passed part parts kind none optional = ap₂ (λ m o. chosen m o parts (moves parts kind)) none optional

pub moves_none : (kind : TokenKind) → moves [] kind ≡ None
unfolding moves
moves_none kind = refl

-- ---- a token that isn't a node's

module _ (end : ℕ) (parts : List Part) (nodes depth : ℕ) (token : Token) (rest : List Token) where
  pub reads_as : (deep full : Bool) (found : Option Move) → nat_lt 32 (brackets_after depth token.kind) ≡ deep → nat_le 512 nodes ≡ full → moves parts token.kind ≡ found
      → reads_on end parts nodes depth (token ∷ rest) ≡ step token.place deep full found (λ m. reads_on end m.then (nodes_after m.is_node nodes) (brackets_after depth token.kind) rest)
  unfolding reads_on
  reads_as deep full found deep_is full_is is =
      ap (λ d. step token.place d (nat_le 512 nodes) (moves parts token.kind) (λ m. reads_on end m.then (nodes_after m.is_node nodes) (brackets_after depth token.kind) rest)) deep_is
      ∙ ap (λ f. step token.place deep f (moves parts token.kind) (λ m. reads_on end m.then (nodes_after m.is_node nodes) (brackets_after depth token.kind) rest)) full_is
      ∙ ap (λ o. step token.place deep full o (λ m. reads_on end m.then (nodes_after m.is_node nodes) (brackets_after depth token.kind) rest)) is

  pub reads_refused : moves parts token.kind ≡ None → reads_on end parts nodes depth (token ∷ rest) ≡ Some (faults.Unexpected token.place)
  reads_refused none = reads_as (nat_lt 32 (brackets_after depth token.kind)) (nat_le 512 nodes) None refl refl none

  pub reads_deep : (found : Move) → moves parts token.kind ≡ Some found → nat_lt 32 (brackets_after depth token.kind) ≡ true → reads_on end parts nodes depth (token ∷ rest) ≡ Some (faults.TooDeep token.place)
  reads_deep found is deep = reads_as true (nat_le 512 nodes) (Some found) deep refl is

  pub reads_plain : (thens : List Part) → moves parts token.kind ≡ Some (record { then = thens; is_node = false }) → nat_lt 32 (brackets_after depth token.kind) ≡ false
      → reads_on end parts nodes depth (token ∷ rest) ≡ reads_on end thens nodes (brackets_after depth token.kind) rest
  reads_plain thens is shallow = reads_as false (nat_le 512 nodes) (Some (record { then = thens; is_node = false })) shallow refl is

  pub reads_node : (thens : List Part) → moves parts token.kind ≡ Some (record { then = thens; is_node = true }) → nat_lt 32 (brackets_after depth token.kind) ≡ false → nat_le 512 nodes ≡ false
      → reads_on end parts nodes depth (token ∷ rest) ≡ reads_on end thens (nodes + 1) (brackets_after depth token.kind) rest
  reads_node thens is shallow few = reads_as false false (Some (record { then = thens; is_node = true })) shallow few is

  pub reads_full : (thens : List Part) → moves parts token.kind ≡ Some (record { then = thens; is_node = true }) → nat_lt 32 (brackets_after depth token.kind) ≡ false → nat_le 512 nodes ≡ true
      → reads_on end parts nodes depth (token ∷ rest) ≡ Some (faults.TooManyNodes token.place)
  reads_full thens is shallow full = reads_as false true (Some (record { then = thens; is_node = true })) shallow full is

pub reads_end : (end : ℕ) (parts : List Part) (nodes depth : ℕ) → are_optional parts ≡ false → reads_on end parts nodes depth [] ≡ Some (faults.Unexpected end)
unfolding reads_on
reads_end end parts nodes depth required = ap (λ b. cond b None (Some (faults.Unexpected end))) required

pub required_first : (part : Part) (parts : List Part) → is_optional part ≡ false → are_optional (part ∷ parts) ≡ false
unfolding are_optional
required_first part parts required = ap (λ b. b && are_optional parts) required

pub optional_first : (part : Part) (parts : List Part) → is_optional part ≡ true → are_optional (part ∷ parts) ≡ are_optional parts
unfolding are_optional
optional_first part parts optional = ap (λ b. b && are_optional parts) optional

-- ---- readings

refused : (part : Part) (later : List Part) (end nodes depth : ℕ) (rest : List Token) → is_optional part ≡ false
    → Refuses part (first_kind rest)
    → reads_on end (part ∷ later) nodes depth rest ≡ Some (faults.Unexpected (first_place end rest))
refused part later end nodes depth [] required none = reads_end end (part ∷ later) nodes depth (required_first part later required)
refused part later end nodes depth (token ∷ rest) required none = reads_refused end (part ∷ later) nodes depth token rest (moves_refused part later token.kind none required)

-- the next token can't begin the part, which must be there
pub refuses : (part : Part) (reading : Reading) → is_optional part ≡ false → Refuses part (next_kind reading)
    → Halts (part ∷ []) reading (faults.Unexpected (next_place reading))
refuses part reading required none = record { halts = λ later. refused part later reading.end reading.nodes reading.depth reading.rest required none }

passed : (part : Part) (later : List Part) (end nodes depth : ℕ) (rest : List Token) → is_optional part ≡ true
    → Refuses part (first_kind rest)
    → reads_on end (part ∷ later) nodes depth rest ≡ reads_on end later nodes depth rest
unfolding reads_on
passed part later end nodes depth [] optional none = ap (λ b. cond b None (Some (faults.Unexpected end))) (optional_first part later optional)
passed part later end nodes depth (token ∷ rest) optional none =
    ap (λ found. step token.place (nat_lt 32 (brackets_after depth token.kind)) (nat_le 512 nodes) found (λ m. reads_on end m.then (nodes_after m.is_node nodes) (brackets_after depth token.kind) rest))
    (moves_passed part later token.kind none optional)

-- the next token can't begin the part, which need not be there
pub passes : (part : Part) (reading : Reading) → is_optional part ≡ true → Refuses part (next_kind reading)
    → Leads (part ∷ []) reading [] reading
passes part reading optional none = record { goes = λ later. passed part later reading.end reading.nodes reading.depth reading.rest optional none }

pub shallow_test : (n : ℕ) → n ≤ 32 → nat_lt 32 n ≡ false
shallow_test n h = grind (arith, nat_tests)

pub few_test : (n : ℕ) → n < 512 → nat_le 512 n ≡ false
few_test n h = grind (arith, nat_tests)

pub full_test : (n : ℕ) → 512 ≤ n → nat_le 512 n ≡ true
full_test n h = grind (arith, nat_tests)

pub deep_test : (n : ℕ) → 33 ≤ n → nat_lt 32 n ≡ true
deep_test n h = grind (arith, nat_tests)

-- from one reading to another, given by their parts
leads_by : (parts those : List Part) (old new : Reading) (end nodes depth : ℕ) (rest : List Token)
    → old.end ≡ end → old.nodes ≡ nodes → old.depth ≡ depth → old.rest ≡ rest
    → ((later : List Part) → reads_on end (parts ++ later) nodes depth rest ≡ fault_of (those ++ later) new) → Leads parts old those new
leads_by parts those old new end nodes depth rest end_is nodes_is depth_is rest_is goes = record {
  goes = λ later. (ap (λ e. reads_on e (parts ++ later) old.nodes old.depth old.rest) end_is
      ∙ ap (λ n. reads_on end (parts ++ later) n old.depth old.rest) nodes_is
      ∙ ap (λ d. reads_on end (parts ++ later) nodes d old.rest) depth_is
      ∙ ap (λ r. reads_on end (parts ++ later) nodes depth r) rest_is) ∙ goes later;
}
