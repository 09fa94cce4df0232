-- The stacks of parts that a reading comes to: what follows a part begins with no token that could go on with it.
use Rattle.std.proofs.Common.{◌≡◌, ◌⊎◌, ℕ, ◌<◌, ◌≤◌, List, [], ◌∷◌, ◌++◌, Bool, true, false, IsTrue, Option, Some, None, IfSome, inl, inr, refl, sym, ◌∙◌, subst, append_assoc, arith}
use Rattle.kern_token.specs.declared.token.Symbol.{Symbol}
use Rattle.kern_token.specs.declared.token.Symbol.TheVariants as symbols
use Rattle.kern_token.specs.declared.token.TokenKind.{TokenKind}
use Rattle.kern_token.specs.declared.token.TokenKind.TheVariants as kinds
use Rattle.kern_token.specs.declared.token.Word.TheVariants as words
use Rattle.pf_geom.specs.declared.axis.Axis.{Axis}
use Rattle.kern_parse.specs.declared.operators.Level.{Level}
use Rattle.kern_parse.specs.declared.operators.Level.TheVariants as levels
use Rattle.kern_parse.specs.Required.{Part, Move, move, and_then, more_move, same_symbol, exactly_move, axis_at, axis_move, operand as operand_part, is_optional, moves}
use Rattle.kern_parse.proofs.Steps.{moves_refused, moves_passed}

-- how weakly what a token of this kind joins to an expression is bound; 8 for one that joins nothing
abbrev pub op_rank : TokenKind → ℕ
op_rank (kinds.Scale bits) = 1
op_rank (kinds.Symbol symbols.Dot) = 2
op_rank (kinds.Symbol symbols.Star) = 3
op_rank (kinds.Symbol symbols.Slash) = 3
op_rank (kinds.Symbol symbols.Plus) = 4
op_rank (kinds.Symbol symbols.Minus) = 4
op_rank (kinds.Symbol symbols.Lt) = 5
op_rank (kinds.Symbol symbols.Le) = 5
op_rank (kinds.Symbol symbols.Gt) = 5
op_rank (kinds.Symbol symbols.Ge) = 5
op_rank (kinds.Symbol symbols.Eq) = 5
op_rank (kinds.Symbol symbols.Ne) = 5
op_rank (kinds.Symbol symbols.And) = 6
op_rank (kinds.Symbol symbols.Or) = 7
op_rank _ = 8

abbrev pub level_rank : Level → ℕ
level_rank levels.Or = 7
level_rank levels.And = 6
level_rank levels.Sum = 4
level_rank levels.Product = 3

abbrev pub Begins : Part → TokenKind → Type 0
Begins part kind = (found : Move) × (move part kind ≡ Some found)

-- a token of this kind after the part could go on with it
abbrev pub GoesOnWith : Part → TokenKind → Type 0
GoesOnWith Part.Decls kind = Begins Part.Decls kind
GoesOnWith Part.Stmts kind = Begins Part.Stmts kind ⊎ Begins Part.ElseBlock kind
GoesOnWith Part.ElseBlock kind = Begins Part.ElseBlock kind
GoesOnWith (Part.Chain level) kind = op_rank kind ≤ level_rank level
GoesOnWith (Part.More level) kind = op_rank kind ≤ level_rank level
GoesOnWith Part.Rel kind = op_rank kind ≤ 5
GoesOnWith Part.MoreRel kind = op_rank kind ≤ 5
GoesOnWith Part.Unary kind = op_rank kind ≤ 2
GoesOnWith Part.Post kind = op_rank kind ≤ 2
GoesOnWith Part.MorePost kind = op_rank kind ≤ 2
GoesOnWith Part.Prim kind = op_rank kind ≤ 1
GoesOnWith Part.ScaleIfAny kind = op_rank kind ≤ 1
GoesOnWith _ kind = ⊥

-- these parts begin with no token that could go on with the part
abbrev pub Clear : Part → List Part → Type 0
Clear part parts = (kind : TokenKind) → GoesOnWith part kind → moves parts kind ≡ None

abbrev pub Ready : List Part → Type 0
Ready [] = Unit {0}
Ready (part ∷ parts) = Clear part parts × Ready parts

-- ---- what an optional part begins with goes on with it

some_of : {A : Type 0} (P : A → Type 0) (m : Option A) (found : A) → m ≡ Some found → IfSome m P → P found
some_of P m found e h = subst (λ o. IfSome o P) e h

more_ranks : (level : Level) (kind : TokenKind) → IfSome (more_move level kind) (λ found. op_rank kind ≤ level_rank level)
more_ranks levels.Or (kinds.Symbol symbols.Or) = omega arith
more_ranks levels.And (kinds.Symbol symbols.And) = omega arith
more_ranks levels.Sum (kinds.Symbol symbols.Plus) = omega arith
more_ranks levels.Sum (kinds.Symbol symbols.Minus) = omega arith
more_ranks levels.Product (kinds.Symbol symbols.Star) = omega arith
more_ranks levels.Product (kinds.Symbol symbols.Slash) = omega arith
more_ranks _ _ = tt

rel_ranks : (kind : TokenKind) → IfSome (move Part.MoreRel kind) (λ found. op_rank kind ≤ 5)
rel_ranks (kinds.Symbol symbols.Lt) = omega arith
rel_ranks (kinds.Symbol symbols.Le) = omega arith
rel_ranks (kinds.Symbol symbols.Gt) = omega arith
rel_ranks (kinds.Symbol symbols.Ge) = omega arith
rel_ranks (kinds.Symbol symbols.Eq) = omega arith
rel_ranks (kinds.Symbol symbols.Ne) = omega arith
rel_ranks _ = tt

post_ranks : (kind : TokenKind) → IfSome (move Part.MorePost kind) (λ found. op_rank kind ≤ 2)
post_ranks (kinds.Symbol symbols.Dot) = omega arith
post_ranks _ = tt

scale_ranks : (kind : TokenKind) → IfSome (move Part.ScaleIfAny kind) (λ found. op_rank kind ≤ 1)
scale_ranks (kinds.Scale bits) = omega arith
scale_ranks _ = tt

begun_goes_on : (part : Part) (kind : TokenKind) (found : Move) → IsTrue (is_optional part) → move part kind ≡ Some found → GoesOnWith part kind
begun_goes_on Part.Decls kind found optional e = (found, e)
begun_goes_on Part.Stmts kind found optional e = inl (found, e)
begun_goes_on Part.ElseBlock kind found optional e = (found, e)
begun_goes_on (Part.More level) kind found optional e = some_of (λ m. op_rank kind ≤ level_rank level) (more_move level kind) found e (more_ranks level kind)
begun_goes_on Part.MoreRel kind found optional e = some_of (λ m. op_rank kind ≤ 5) (move Part.MoreRel kind) found e (rel_ranks kind)
begun_goes_on Part.MorePost kind found optional e = some_of (λ m. op_rank kind ≤ 2) (move Part.MorePost kind) found e (post_ranks kind)
begun_goes_on Part.ScaleIfAny kind found optional e = some_of (λ m. op_rank kind ≤ 1) (move Part.ScaleIfAny kind) found e (scale_ranks kind)
begun_goes_on _ kind found optional e = absurd (let never : false ≡ true = optional in cc)

-- ---- what goes on with an expression begins nothing that may follow it

close_round : (kind : TokenKind) → op_rank kind ≤ 7 → move (Part.Exactly symbols.CloseRound) kind ≡ None
close_round (kinds.Symbol symbols.CloseRound) h = absurd (omega arith)
close_round _ h = refl

comma : (kind : TokenKind) → op_rank kind ≤ 7 → move (Part.Exactly symbols.Comma) kind ≡ None
comma (kinds.Symbol symbols.Comma) h = absurd (omega arith)
comma _ h = refl

semicolon : (kind : TokenKind) → op_rank kind ≤ 7 → move (Part.Exactly symbols.Semicolon) kind ≡ None
semicolon (kinds.Symbol symbols.Semicolon) h = absurd (omega arith)
semicolon _ h = refl

open_block : (kind : TokenKind) → op_rank kind ≤ 7 → move Part.Block kind ≡ None
open_block (kinds.Symbol symbols.OpenCurly) h = absurd (omega arith)
open_block _ h = refl

more_post : (kind : TokenKind) → op_rank kind ≤ 1 → move Part.MorePost kind ≡ None
more_post (kinds.Symbol symbols.Dot) h = absurd (omega arith)
more_post _ h = refl

more_rel : (kind : TokenKind) → op_rank kind ≤ 4 → move Part.MoreRel kind ≡ None
more_rel (kinds.Symbol symbols.Lt) h = absurd (omega arith)
more_rel (kinds.Symbol symbols.Le) h = absurd (omega arith)
more_rel (kinds.Symbol symbols.Gt) h = absurd (omega arith)
more_rel (kinds.Symbol symbols.Ge) h = absurd (omega arith)
more_rel (kinds.Symbol symbols.Eq) h = absurd (omega arith)
more_rel (kinds.Symbol symbols.Ne) h = absurd (omega arith)
more_rel _ h = refl

more_of : (level : Level) (kind : TokenKind) → op_rank kind < level_rank level → more_move level kind ≡ None
more_of levels.Or (kinds.Symbol symbols.Or) h = absurd (omega arith)
more_of levels.And (kinds.Symbol symbols.And) h = absurd (omega arith)
more_of levels.Sum (kinds.Symbol symbols.Plus) h = absurd (omega arith)
more_of levels.Sum (kinds.Symbol symbols.Minus) h = absurd (omega arith)
more_of levels.Product (kinds.Symbol symbols.Star) h = absurd (omega arith)
more_of levels.Product (kinds.Symbol symbols.Slash) h = absurd (omega arith)
more_of levels.Or _ h = refl
more_of levels.And _ h = refl
more_of levels.Sum _ h = refl
more_of levels.Product _ h = refl

clear_closed : (part closer : Part) (parts : List Part) → ((kind : TokenKind) → GoesOnWith part kind → move closer kind ≡ None) → is_optional closer ≡ false → Clear part (closer ∷ parts)
clear_closed part closer parts refuses required kind h = moves_refused closer parts kind (refuses kind h) required

clear_passed : (part passed : Part) (parts : List Part) → ((kind : TokenKind) → GoesOnWith part kind → move passed kind ≡ None) → is_optional passed ≡ true → Clear part parts → Clear part (passed ∷ parts)
clear_passed part passed parts refuses optional clear kind h = moves_passed passed parts kind (refuses kind h) optional ∙ clear kind h

-- ---- a move leaves a stack ready

abbrev Keeps : Part → Type 0
Keeps part = (kind : TokenKind) → IfSome (move part kind) (λ found. (parts : List Part) → Clear part parts → Ready parts → Ready (found.then ++ parts))

keeps_longer : (part longer : Part) (others : List Part) → Keeps part → ((kind : TokenKind) → move longer kind ≡ and_then (move part kind) others)
    → ((parts : List Part) → Clear longer parts → Ready parts → Clear part (others ++ parts) × Ready (others ++ parts)) → Keeps longer
keeps_longer part longer others keeps moves_are clear kind = subst (λ m. IfSome m (λ found. (parts : List Part) → Clear longer parts → Ready parts → Ready (found.then ++ parts))) (sym (moves_are kind)) (go (move part kind) (keeps kind))
  where
    go : (m : Option Move) → IfSome m (λ found. (parts : List Part) → Clear part parts → Ready parts → Ready (found.then ++ parts)) → IfSome (and_then m others) (λ found. (parts : List Part) → Clear longer parts → Ready parts → Ready (found.then ++ parts))
    go None h = tt
    go (Some found) h = λ parts c r. let k = clear parts c r in subst (λ (ps : List Part). Ready ps) (sym (append_assoc found.then others parts)) (h (others ++ parts) k.0 k.1)

in_brackets : (closer : Symbol) (parts : List Part) → ((kind : TokenKind) → op_rank kind ≤ 7 → move (Part.Exactly closer) kind ≡ None) → Ready parts → Ready (Part.Chain levels.Or ∷ Part.Exactly closer ∷ parts)
in_brackets closer parts refuses r = (clear_closed (Part.Chain levels.Or) (Part.Exactly closer) parts refuses refl, (λ kind h. absurd h, r))

keeps_prim : Keeps Part.Prim
keeps_prim (kinds.Number number) = λ parts c r. (c, r)
keeps_prim (kinds.Name name) = λ parts c r. r
keeps_prim (kinds.Word words.Isqrt) = λ parts c r. (λ kind h. absurd h, in_brackets symbols.CloseRound parts close_round r)
keeps_prim (kinds.Word words.Abs) = λ parts c r. (λ kind h. absurd h, in_brackets symbols.CloseRound parts close_round r)
keeps_prim (kinds.Word words.To) = λ parts c r. (λ kind h. absurd h, (λ kind h. absurd h, (λ kind h. absurd h, in_brackets symbols.CloseRound parts close_round r)))
keeps_prim (kinds.Word words.Min) = λ parts c r. (λ kind h. absurd h, in_brackets symbols.Comma _ comma (in_brackets symbols.CloseRound parts close_round r))
keeps_prim (kinds.Word words.Max) = λ parts c r. (λ kind h. absurd h, in_brackets symbols.Comma _ comma (in_brackets symbols.CloseRound parts close_round r))
keeps_prim (kinds.Word words.Muldiv) = λ parts c r. (λ kind h. absurd h, in_brackets symbols.Comma _ comma (in_brackets symbols.Comma _ comma (in_brackets symbols.CloseRound parts close_round r)))
keeps_prim (kinds.Word words.Vec) = λ parts c r. (λ kind h. absurd h, in_brackets symbols.Comma _ comma (in_brackets symbols.Comma _ comma (in_brackets symbols.CloseRound parts close_round r)))
keeps_prim (kinds.Symbol symbols.OpenRound) = λ parts c r. in_brackets symbols.CloseRound parts close_round r
keeps_prim _ = tt

keeps_post : Keeps Part.Post
keeps_post = keeps_longer Part.Prim Part.Post (Part.MorePost ∷ []) keeps_prim (λ kind. refl)
    (λ parts c r. (clear_passed Part.Prim Part.MorePost parts more_post refl (λ kind h. c kind (omega arith)), (c, r)))

keeps_unary : Keeps Part.Unary
keeps_unary (kinds.Symbol symbols.Minus) = λ parts c r. (c, r)
keeps_unary (kinds.Symbol symbols.Not) = λ parts c r. (c, r)
keeps_unary kind = keeps_post kind

keeps_product : Keeps (Part.Chain levels.Product)
keeps_product = keeps_longer Part.Unary (Part.Chain levels.Product) (Part.More levels.Product ∷ []) keeps_unary (λ kind. refl)
    (λ parts c r. (clear_passed Part.Unary (Part.More levels.Product) parts (λ kind h. more_of levels.Product kind (omega arith)) refl (λ kind h. c kind (omega arith)), (c, r)))

keeps_sum : Keeps (Part.Chain levels.Sum)
keeps_sum = keeps_longer (Part.Chain levels.Product) (Part.Chain levels.Sum) (Part.More levels.Sum ∷ []) keeps_product (λ kind. refl)
    (λ parts c r. (clear_passed (Part.Chain levels.Product) (Part.More levels.Sum) parts (λ kind h. more_of levels.Sum kind (omega arith)) refl (λ kind h. c kind (omega arith)), (c, r)))

keeps_rel : Keeps Part.Rel
keeps_rel = keeps_longer (Part.Chain levels.Sum) Part.Rel (Part.MoreRel ∷ []) keeps_sum (λ kind. refl)
    (λ parts c r. (clear_passed (Part.Chain levels.Sum) Part.MoreRel parts more_rel refl (λ kind h. c kind (omega arith)), (c, r)))

keeps_both : Keeps (Part.Chain levels.And)
keeps_both = keeps_longer Part.Rel (Part.Chain levels.And) (Part.More levels.And ∷ []) keeps_rel (λ kind. refl)
    (λ parts c r. (clear_passed Part.Rel (Part.More levels.And) parts (λ kind h. more_of levels.And kind (omega arith)) refl (λ kind h. c kind (omega arith)), (c, r)))

keeps_over : Keeps (Part.Chain levels.Or)
keeps_over = keeps_longer (Part.Chain levels.And) (Part.Chain levels.Or) (Part.More levels.Or ∷ []) keeps_both (λ kind. refl)
    (λ parts c r. (clear_passed (Part.Chain levels.And) (Part.More levels.Or) parts (λ kind h. more_of levels.Or kind (omega arith)) refl (λ kind h. c kind (omega arith)), (c, r)))

clear_operand : (level : Level) (parts : List Part) → Clear (Part.Chain level) parts → Clear (operand_part level) (Part.More level ∷ parts)
clear_operand levels.Or parts c = clear_passed (Part.Chain levels.And) (Part.More levels.Or) parts (λ kind h. more_of levels.Or kind (omega arith)) refl (λ kind h. c kind (omega arith))
clear_operand levels.And parts c = clear_passed Part.Rel (Part.More levels.And) parts (λ kind h. more_of levels.And kind (omega arith)) refl (λ kind h. c kind (omega arith))
clear_operand levels.Sum parts c = clear_passed (Part.Chain levels.Product) (Part.More levels.Sum) parts (λ kind h. more_of levels.Sum kind (omega arith)) refl (λ kind h. c kind (omega arith))
clear_operand levels.Product parts c = clear_passed Part.Unary (Part.More levels.Product) parts (λ kind h. more_of levels.Product kind (omega arith)) refl (λ kind h. c kind (omega arith))

keeps_more : (level : Level) → Keeps (Part.More level)
keeps_more levels.Or (kinds.Symbol symbols.Or) = λ parts c r. (clear_operand levels.Or parts c, (c, r))
keeps_more levels.And (kinds.Symbol symbols.And) = λ parts c r. (clear_operand levels.And parts c, (c, r))
keeps_more levels.Sum (kinds.Symbol symbols.Plus) = λ parts c r. (clear_operand levels.Sum parts c, (c, r))
keeps_more levels.Sum (kinds.Symbol symbols.Minus) = λ parts c r. (clear_operand levels.Sum parts c, (c, r))
keeps_more levels.Product (kinds.Symbol symbols.Star) = λ parts c r. (clear_operand levels.Product parts c, (c, r))
keeps_more levels.Product (kinds.Symbol symbols.Slash) = λ parts c r. (clear_operand levels.Product parts c, (c, r))
keeps_more _ _ = tt

clear_relation : (parts : List Part) → Clear Part.MoreRel parts → Clear (Part.Chain levels.Sum) parts
clear_relation parts c kind h = c kind (omega arith)

keeps_more_rel : Keeps Part.MoreRel
keeps_more_rel (kinds.Symbol symbols.Lt) = λ parts c r. (clear_relation parts c, r)
keeps_more_rel (kinds.Symbol symbols.Le) = λ parts c r. (clear_relation parts c, r)
keeps_more_rel (kinds.Symbol symbols.Gt) = λ parts c r. (clear_relation parts c, r)
keeps_more_rel (kinds.Symbol symbols.Ge) = λ parts c r. (clear_relation parts c, r)
keeps_more_rel (kinds.Symbol symbols.Eq) = λ parts c r. (clear_relation parts c, r)
keeps_more_rel (kinds.Symbol symbols.Ne) = λ parts c r. (clear_relation parts c, r)
keeps_more_rel _ = tt

keeps_more_post : Keeps Part.MorePost
keeps_more_post (kinds.Symbol symbols.Dot) = λ parts c r. (λ kind h. absurd h, (c, r))
keeps_more_post _ = tt

-- ---- declarations and statements

keeps_decls : Keeps Part.Decls
keeps_decls (kinds.Word words.Epi) = λ parts c r. (λ kind h. absurd h, (λ kind h. absurd h, (λ kind h. absurd h, (λ kind h. absurd h, (λ kind h. absurd h, (λ kind h. absurd h, (c, r)))))))
keeps_decls (kinds.Word words.Epj) = λ parts c r. (λ kind h. absurd h, (λ kind h. absurd h, (λ kind h. absurd h, (λ kind h. absurd h, (λ kind h. absurd h, (λ kind h. absurd h, (c, r)))))))
keeps_decls (kinds.Word words.Force) = λ parts c r. (λ kind h. absurd h, (λ kind h. absurd h, (λ kind h. absurd h, (λ kind h. absurd h, (λ kind h. absurd h, (c, r))))))
keeps_decls (kinds.Word words.Param) = λ parts c r. (λ kind h. absurd h, (λ kind h. absurd h, (λ kind h. absurd h, (λ kind h. absurd h, (λ kind h. absurd h, (c, r))))))
keeps_decls _ = tt

-- no statement begins with `else`
no_else : (kind : TokenKind) → Begins Part.ElseBlock kind → move Part.Stmts kind ≡ None
no_else (kinds.Word words.Else) h = refl
no_else (kinds.Symbol symbol) h = refl
no_else (kinds.Number number) h = refl
no_else (kinds.Scale bits) h = refl
no_else (kinds.Name name) h = absurd (let never : None ≡ Some h.0 = h.1 in cc)
no_else (kinds.Word words.If) h = absurd (let never : None ≡ Some h.0 = h.1 in cc)
no_else _ h = refl

keeps_stmts : Keeps Part.Stmts
keeps_stmts (kinds.Name name) = λ parts c r. (λ kind h. absurd h, (clear_closed (Part.Chain levels.Or) (Part.Exactly symbols.Semicolon) (Part.Stmts ∷ parts) semicolon refl, (λ kind h. absurd h, (c, r))))
keeps_stmts (kinds.Word words.If) = λ parts c r. (
  clear_closed (Part.Chain levels.Or) Part.Block (Part.ElseBlock ∷ Part.Stmts ∷ parts) open_block refl,
  (
    λ kind h. absurd h,
    (clear_passed Part.ElseBlock Part.Stmts parts no_else refl (λ kind h. c kind (inr h)), (c, r)),
  ),
)
keeps_stmts _ = tt

no_close : (kind : TokenKind) → GoesOnWith Part.Stmts kind → move (Part.Exactly symbols.CloseCurly) kind ≡ None
no_close (kinds.Symbol symbols.CloseCurly) (inl h) = absurd (let never : None ≡ Some h.0 = h.1 in cc)
no_close (kinds.Symbol symbols.CloseCurly) (inr h) = absurd (let never : None ≡ Some h.0 = h.1 in cc)
no_close _ h = refl

keeps_block : Keeps Part.Block
keeps_block (kinds.Symbol symbols.OpenCurly) = λ parts c r. (clear_closed Part.Stmts (Part.Exactly symbols.CloseCurly) parts no_close refl, (λ kind h. absurd h, r))
keeps_block _ = tt

keeps_else : Keeps Part.ElseBlock
keeps_else (kinds.Word words.Else) = λ parts c r. (λ kind h. absurd h, r)
keeps_else _ = tt

keeps_signed : Keeps Part.Signed
keeps_signed (kinds.Number number) = λ parts c r. r
keeps_signed (kinds.Symbol symbols.Minus) = λ parts c r. (λ kind h. absurd h, r)
keeps_signed _ = tt

keeps_exactly : (wanted : Symbol) → Keeps (Part.Exactly wanted)
keeps_exactly wanted (kinds.Symbol symbol) = go (same_symbol wanted symbol)
  where
    go : (b : Bool) → IfSome (exactly_move b) (λ found. (parts : List Part) → Clear (Part.Exactly wanted) parts → Ready parts → Ready (found.then ++ parts))
    go true = λ parts c r. r
    go false = tt
keeps_exactly wanted _ = tt

keeps_axis : Keeps Part.AxisName
keeps_axis (kinds.Name name) = go (axis_at name)
  where
    go : (along : Option Axis) → IfSome (axis_move along) (λ found. (parts : List Part) → Clear Part.AxisName parts → Ready parts → Ready (found.then ++ parts))
    go (Some along) = λ parts c r. r
    go None = tt
keeps_axis _ = tt

keeps_kind : Keeps Part.KindWord
keeps_kind (kinds.Word words.Num) = λ parts c r. r
keeps_kind (kinds.Word words.Vec) = λ parts c r. r
keeps_kind _ = tt

keeps_combine : Keeps Part.CombineWord
keeps_combine (kinds.Word words.Sum) = λ parts c r. r
keeps_combine (kinds.Word words.Max) = λ parts c r. r
keeps_combine (kinds.Word words.Min) = λ parts c r. r
keeps_combine _ = tt

keeps_scale : Keeps Part.Scale
keeps_scale (kinds.Scale bits) = λ parts c r. r
keeps_scale _ = tt

keeps_scale_if_any : Keeps Part.ScaleIfAny
keeps_scale_if_any (kinds.Scale bits) = λ parts c r. r
keeps_scale_if_any _ = tt

keeps_name : Keeps Part.Name
keeps_name (kinds.Name name) = λ parts c r. r
keeps_name _ = tt

keeps_number : Keeps Part.Number
keeps_number (kinds.Number number) = λ parts c r. r
keeps_number _ = tt

keeps_assign : Keeps Part.Assign
keeps_assign (kinds.Symbol symbols.Assign) = λ parts c r. r
keeps_assign (kinds.Symbol symbols.Add) = λ parts c r. r
keeps_assign _ = tt

keeps : (part : Part) → Keeps part
keeps Part.Decls = keeps_decls
keeps Part.Stmts = keeps_stmts
keeps Part.KindWord = keeps_kind
keeps Part.CombineWord = keeps_combine
keeps Part.Scale = keeps_scale
keeps Part.Name = keeps_name
keeps Part.Signed = keeps_signed
keeps Part.Number = keeps_number
keeps Part.Assign = keeps_assign
keeps Part.Block = keeps_block
keeps Part.ElseBlock = keeps_else
keeps (Part.Exactly wanted) = keeps_exactly wanted
keeps (Part.Chain levels.Or) = keeps_over
keeps (Part.Chain levels.And) = keeps_both
keeps (Part.Chain levels.Sum) = keeps_sum
keeps (Part.Chain levels.Product) = keeps_product
keeps (Part.More level) = keeps_more level
keeps Part.Rel = keeps_rel
keeps Part.MoreRel = keeps_more_rel
keeps Part.Unary = keeps_unary
keeps Part.Post = keeps_post
keeps Part.MorePost = keeps_more_post
keeps Part.Prim = keeps_prim
keeps Part.ScaleIfAny = keeps_scale_if_any
keeps Part.AxisName = keeps_axis

pub ready_after : (part : Part) (parts : List Part) (kind : TokenKind) (found : Move) → move part kind ≡ Some found → Ready (part ∷ parts) → Ready (found.then ++ parts)
ready_after part parts kind found e r = some_of (λ (m : Move). (ps : List Part) → Clear part ps → Ready ps → Ready (m.then ++ ps)) (move part kind) found e (keeps part kind) parts r.0 r.1

-- an optional part that is passed doesn't begin with what comes next
pub not_begun : (part : Part) (parts : List Part) (kind : TokenKind) (later : Move) → IsTrue (is_optional part) → Clear part parts → moves parts kind ≡ Some later → move part kind ≡ None
not_begun part parts kind later optional clear e = go (move part kind) refl
  where
    go : (m : Option Move) → move part kind ≡ m → move part kind ≡ None
    go None f = f
    go (Some found) f = absurd (let none : moves parts kind ≡ None = clear kind (begun_goes_on part kind found optional f) in let never : None ≡ Some later = sym none ∙ e in cc)
