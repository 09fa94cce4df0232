-- The whole reading of a kernel's tokens.
use Rattle.std.proofs.Common.{◌≡◌, ℕ, ◌-◌, List, [], ◌∷◌, Some, None, Result, Ok, Err, ◌⊎◌, refl, ◌∙◌, inl, inr}
use Rattle.std.specs.List.{AllByRecursion}
use Rattle.kern_token.specs.declared.fault.KernFault.{KernFault}
use Rattle.kern_token.specs.declared.fault.KernFault.TheVariants as faults
use Rattle.kern_token.specs.declared.token.Token.{Token}
use Rattle.kern_token.specs.declared.token.TokenKind.{TokenKind}
use Rattle.kern_token.specs.Reading.{Spells, StandsIn, GivesUnlessMemory, TokensAreInOrder, TokensStandInText}
use Rattle.kern_tree.specs.declared.kernel.Decl.{Decl}
use Rattle.kern_tree.specs.declared.kernel.Kernel.{Kernel}
use Rattle.kern_tree.specs.declared.stmt.Stmt.{Stmt}
use Rattle.kern_tree.specs.FirstFault.{IsKernelOf, HasFirstFault, Parses}
use Rattle.kern_tree.specs.Grammar.{decl, stmt, stmt_within, SpellsKernel}
use Rattle.kern_tree.specs.Rules.{Rule, many}
use Rattle.kern_tree.specs.OneAnswer.{OneAnswer}
use Rattle.kern_tree.specs.Unrolled.{TreesByForm}
use Rattle.kern_parse.specs.inner.Found.{ReadsRule}
use Rattle.kern_parse.specs.inner.Leading.{reads_on, Leads, Fails}
use Rattle.kern_parse.specs.inner.Reading.{Reading, AreInLimit, first_kind, next_kind, first_place, next_place}
use Rattle.kern_parse.specs.Required.{Part, are_optional}
use Rattle.kern_parse.specs.inner.Stmts.{ReadsStmts}
use Rattle.kern_parse.proofs.FirstFaults.{start, whole, fault_in_text}
use Rattle.kern_parse.proofs.Following.{leads_then, leads_first}
use Rattle.kern_parse.proofs.Steps.{reads_refused, moves_none}

-- the numbers of a text's tokens are in their limit
limits : (text : List ℕ) (tokens : List Token) → AllByRecursion (StandsIn text) tokens → AreInLimit tokens
limits text [] h = tt
limits text (token ∷ tokens) h = (h.0.in_limit, limits text tokens h.1)

pub in_limit : TokensStandInText → (text : List ℕ) (tokens : List Token) → Spells text tokens → AreInLimit tokens
in_limit stand text tokens h = limits text tokens (stand text tokens h)

many_wider : {A : Type 0} (one other : Rule A) → ((tokens : List Token) (value : A) (rest : List Token) → one tokens value rest → other tokens value rest)
    → (tokens : List Token) (values : List A) (rest : List Token) → many one tokens values rest → many other tokens values rest
many_wider one other wider tokens [] rest h = h
many_wider one other wider tokens (v ∷ values) rest h = (h.0, wider tokens v h.0 h.1, many_wider one other wider h.0 values rest h.2)

-- after the declarations and statements
pub read_leads : (tokens : List Token) (decls : List Decl) (mid : Reading) → ReadsRule (many decl) (Part.Decls ∷ []) (start tokens) decls mid
    → Leads (Part.Decls ∷ Part.Stmts ∷ []) (start tokens) (Part.Stmts ∷ []) mid
read_leads tokens decls mid read = leads_first Part.Decls (Part.Stmts ∷ []) read.leads

nothing_left : (end nodes depth : ℕ) (rest : List Token) → first_kind rest ≡ None → reads_on end [] nodes depth rest ≡ None
unfolding reads_on are_optional
nothing_left end nodes depth [] none = refl
nothing_left end nodes depth (token ∷ rest) none = cc

no_rest : (rest : List Token) → first_kind rest ≡ None → rest ≡ []
no_rest [] none = refl
no_rest (token ∷ rest) none = cc

something_left : (end nodes depth : ℕ) (rest : List Token) (kind : TokenKind) → first_kind rest ≡ Some kind → reads_on end [] nodes depth rest ≡ Some (faults.Unexpected (first_place end rest))
something_left end nodes depth [] kind some = cc
something_left end nodes depth (token ∷ rest) kind some = reads_refused end [] nodes depth token rest (moves_none token.kind)

pub kernel_read : TreesByForm → (tokens : List Token) (decls : List Decl) (body : List Stmt) (mid last : Reading) → ReadsRule (many decl) (Part.Decls ∷ []) (start tokens) decls mid → ReadsStmts mid body last → next_kind last ≡ None
    → IsKernelOf tokens (record { decls = decls; body = body })
kernel_read tree tokens decls body mid last declared stated none =
    let rest_is : last.rest ≡ [] = no_rest last.rest none in
    let body_is : many stmt mid.rest body last.rest =
    many_wider (stmt_within (32 - mid.depth)) stmt (λ toks value rest h. (32 - mid.depth, h)) mid.rest body last.rest stated.reads.spelled in
    let spelled : SpellsKernel tokens (record { decls = decls; body = body }) =
    (decls, mid.rest, declared.spelled, (body, last.rest, body_is, (refl, rest_is))) in
    let lead = leads_then (read_leads tokens decls mid declared) stated.reads.leads in
    whole tree tokens (record { decls = decls; body = body }) spelled (lead.goes [] ∙ nothing_left last.end last.nodes last.depth last.rest none)

pub rest_read : TreesByForm → TokensStandInText → TokensAreInOrder → (text : List ℕ) (tokens : List Token) (decls : List Decl) (body : List Stmt) (mid last : Reading) (kind : TokenKind) → Spells text tokens → ReadsRule (many decl) (Part.Decls ∷ []) (start tokens) decls mid → ReadsStmts mid body last
    → next_kind last ≡ Some kind → HasFirstFault tokens (faults.Unexpected (next_place last))
rest_read tree stand in_order text tokens decls body mid last kind h declared stated some =
    let lead = leads_then (read_leads tokens decls mid declared) stated.reads.leads in
    fault_in_text tree stand in_order text tokens (faults.Unexpected (next_place last)) h (lead.goes [] ∙ something_left last.end last.nodes last.depth last.rest kind some)

-- a fault in the parts of a kernel is its first
pub fault_read : TreesByForm → TokensStandInText → TokensAreInOrder → (text : List ℕ) (tokens : List Token) (found : KernFault) → Spells text tokens → Fails (Part.Decls ∷ Part.Stmts ∷ []) (start tokens) found
    → (found ≡ faults.Memory) ⊎ HasFirstFault tokens found
fault_read tree stand in_order text tokens found h (inl memory) = inl memory
fault_read tree stand in_order text tokens found h (inr halts) = inr (fault_in_text tree stand in_order text tokens found h (halts.halts []))

-- ---- the one answer

pub gives : OneAnswer → (tokens : List Token) (found : Kernel) (parsed : Result Kernel KernFault) → IsKernelOf tokens found → Parses tokens parsed → parsed ≡ Ok found
gives one tokens found parsed is parses = one tokens parsed (Ok found) parses is

pub gives_fault : OneAnswer → (tokens : List Token) (found : KernFault) (parsed : Result Kernel KernFault) → (found ≡ faults.Memory) ⊎ HasFirstFault tokens found → Parses tokens parsed
    → GivesUnlessMemory {X = Kernel} (λ kernel. kernel) (Err found) parsed
gives_fault one tokens found parsed (inl memory) parses = inl memory
gives_fault one tokens found parsed (inr first) parses = inr (one tokens parsed (Err found) parses first)
