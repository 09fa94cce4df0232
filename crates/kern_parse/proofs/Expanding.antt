-- A part that stands for others.
use Rattle.std.proofs.Common.{◌≡◌, ℕ, List, [], ◌∷◌, ◌++◌, false, ◌&&◌, cond, nat_le, nat_lt, Option, Some, None, refl, sym, ap, ap₂, ◌∙◌, append_assoc}
use Rattle.kern_token.specs.declared.fault.KernFault.TheVariants as faults
use Rattle.kern_token.specs.declared.token.Token.{Token}
use Rattle.kern_token.specs.declared.token.TokenKind.{TokenKind}
use Rattle.kern_tree.specs.FirstFault.{brackets_after}
use Rattle.kern_parse.specs.declared.operators.Level.{Level}
use Rattle.kern_parse.specs.declared.operators.Level.TheVariants as levels
use Rattle.kern_parse.specs.inner.Leading.{nodes_after, step, reads_on, Leads}
use Rattle.kern_parse.specs.inner.Reading.{Reading, first_kind, next_kind}
use Rattle.kern_parse.specs.Required.{Part, Move, move, and_then, is_optional, operand, moves, chosen, are_optional}

-- the same fault, where the next token leads to the same
same_fault : (ps qs : List Part) (end nodes depth : ℕ) (rest : List Token) → are_optional ps ≡ are_optional qs
    → ((kind : TokenKind) → first_kind rest ≡ Some kind → moves ps kind ≡ moves qs kind)
    → reads_on end ps nodes depth rest ≡ reads_on end qs nodes depth rest
unfolding reads_on
same_fault ps qs end nodes depth [] optional same = ap (λ b. cond b None (Some (faults.Unexpected end))) optional
same_fault ps qs end nodes depth (token ∷ rest) optional same =
    ap (λ found. step token.place (nat_lt 32 (brackets_after depth token.kind)) (nat_le 512 nodes) found (λ m. reads_on end m.then (nodes_after m.is_node nodes) (brackets_after depth token.kind) rest))
    (same token.kind refl)

pub leads_alike : (ps qs : List Part) (reading : Reading) → ((later : List Part) → are_optional (ps ++ later) ≡ are_optional (qs ++ later))
    → ((later : List Part) (kind : TokenKind) → next_kind reading ≡ Some kind → moves (ps ++ later) kind ≡ moves (qs ++ later) kind) → Leads ps reading qs reading
leads_alike ps qs reading optional same = record {
  goes = λ later. same_fault (ps ++ later) (qs ++ later) reading.end reading.nodes reading.depth reading.rest (optional later) (same later);
}

both_required : (p q : Part) (ps qs : List Part) → is_optional p ≡ false → is_optional q ≡ false → are_optional (p ∷ ps) ≡ are_optional (q ∷ qs)
unfolding are_optional
both_required p q ps qs hp hq = ap (λ b. b && are_optional ps) hp ∙ sym (ap (λ b. b && are_optional qs) hq)

chosen_alike : (found : Option Move) (between : List Part) (later : List Part) (one other : Option Move)
    → chosen (and_then found between) false later one ≡ chosen found false (between ++ later) other
chosen_alike None between later one other = refl
chosen_alike (Some m) between later one other = ap (λ ps. Some (record { then = ps; is_node = m.is_node })) (append_assoc m.then between later)

-- the part is another, and these after it
moves_alike : (p q : Part) (between later : List Part) (kind : TokenKind) → is_optional p ≡ false → is_optional q ≡ false → move p kind ≡ and_then (move q kind) between
    → moves (p ∷ later) kind ≡ moves (q ∷ between ++ later) kind
unfolding moves
moves_alike p q between later kind hp hq is =
    ap₂ (λ found o. chosen found o later (moves later kind)) is hp
    ∙ chosen_alike (move q kind) between later (moves later kind) (moves (between ++ later) kind)
    ∙ ap (λ o. chosen (move q kind) o (between ++ later) (moves (between ++ later) kind)) (sym hq)

pub stands_for : (p q : Part) (between : List Part) (reading : Reading) → is_optional p ≡ false → is_optional q ≡ false
    → ((kind : TokenKind) → next_kind reading ≡ Some kind → move p kind ≡ and_then (move q kind) between) → Leads (p ∷ []) reading (q ∷ between) reading
stands_for p q between reading hp hq is =
    leads_alike (p ∷ []) (q ∷ between) reading (λ later. both_required p q later (between ++ later) hp hq)
    (λ later kind next. moves_alike p q between later kind hp hq (is kind next))

with_nothing : (ps : List Part) → ps ++ [] ≡ ps
with_nothing [] = refl
with_nothing (p ∷ ps) = ap (λ qs. p ∷ qs) (with_nothing ps)

pub and_then_nothing : (found : Option Move) → and_then found [] ≡ found
and_then_nothing None = refl
and_then_nothing (Some m) = ap (λ ps. Some (record { then = ps; is_node = m.is_node })) (with_nothing m.then)

chain_move_is : (level : Level) (kind : TokenKind) → move (Part.Chain level) kind ≡ and_then (move (operand level) kind) (Part.More level ∷ [])
chain_move_is levels.Or kind = refl
chain_move_is levels.And kind = refl
chain_move_is levels.Sum kind = refl
chain_move_is levels.Product kind = refl

operand_required : (level : Level) → is_optional (operand level) ≡ false
operand_required levels.Or = refl
operand_required levels.And = refl
operand_required levels.Sum = refl
operand_required levels.Product = refl

pub chain_expands : (level : Level) (reading : Reading) → Leads (Part.Chain level ∷ []) reading (operand level ∷ Part.More level ∷ []) reading
chain_expands level reading = stands_for (Part.Chain level) (operand level) (Part.More level ∷ []) reading refl (operand_required level) (λ kind next. chain_move_is level kind)

pub rel_expands : (reading : Reading) → Leads (Part.Rel ∷ []) reading (Part.Chain levels.Sum ∷ Part.MoreRel ∷ []) reading
rel_expands reading = stands_for Part.Rel (Part.Chain levels.Sum) (Part.MoreRel ∷ []) reading refl refl (λ kind next. refl)

pub post_expands : (reading : Reading) → Leads (Part.Post ∷ []) reading (Part.Prim ∷ Part.MorePost ∷ []) reading
post_expands reading = stands_for Part.Post Part.Prim (Part.MorePost ∷ []) reading refl refl (λ kind next. refl)
