use Rattle.std.proofs.Common.{◌≡◌, Some, refl, sym, ap, ◌∙◌, inr}
use Rattle.std.proofs.lemmas.Result.{err_from_is_err_and}
use Rattle.kern_token.specs.declared.token.Symbol.TheVariants as symbols
use Rattle.kern_token.specs.declared.token.TokenKind.TheVariants as kinds
use Rattle.kern_tree.specs.Grammar.{stmt_node}
use Rattle.kern_parse.specs.declared.operators.Level.TheVariants as levels
use Rattle.kern_parse.specs.Required.{Part}
use Rattle.kern_parse.proofs.Following.{leads_then, leads_first, fault_first, fault_then}
use Rattle.kern_parse.proofs.Statements.{name_leads, name_full, act_of, assignment_read}
use Rattle.kern_parse.proofs.reader.Reader.assignment.Goals as goal
use Rattle.kern_parse.proofs.reader.Reader.assignment.Goals.{then-contributes, else-contributes}

pub returns-in_err-place : goal.returns-in_err-place
returns-in_err-place c =
    let fault = err_from_is_err_and c.from_residual-in_err-place.result c.from_residual-in_err-place.ensures.1 in
    rw (fault.1, fault.2) (inr (name_full c.in_ok-name.name c.args.self.now _ (c.requires ∙ ap (λ n. Some (kinds.Name n)) (sym c.in_ok-name.ensures.cases)) c.in_err-place.ensures.err))

pub returns-in_err-contributes : goal.returns-in_err-contributes
returns-in_err-contributes c =
    let fault = err_from_is_err_and c.from_residual-in_err-contributes.result c.from_residual-in_err-contributes.ensures.1 in
    rw (fault.1, fault.2) (fault_then (name_leads c.in_ok-name.name c.args.self.now _ _ (c.requires ∙ ap (λ n. Some (kinds.Name n)) (sym c.in_ok-name.ensures.cases)) c.in_ok-place.ensures.ok) (fault_first Part.Assign _ c.in_err-contributes.ensures.err))

pub returns-in_err-value : goal.returns-in_err-value
returns-in_err-value c =
    let fault = err_from_is_err_and c.from_residual-in_err-value.result c.from_residual-in_err-value.ensures.1 in
    rw (fault.1, fault.2) (fault_then (leads_then (name_leads c.in_ok-name.name c.args.self.now _ _ (c.requires ∙ ap (λ n. Some (kinds.Name n)) (sym c.in_ok-name.ensures.cases)) c.in_ok-place.ensures.ok) (leads_first Part.Assign _ c.in_ok-contributes.ensures.ok.reads.leads)) (fault_first (Part.Chain levels.Or) _ c.in_err-value.ensures))

pub returns-in_err-symbol : goal.returns-in_err-symbol
returns-in_err-symbol c =
    let fault = err_from_is_err_and c.from_residual-in_err-symbol.result c.from_residual-in_err-symbol.ensures.1 in
    rw (fault.1, fault.2) (fault_then (leads_then (leads_then (name_leads c.in_ok-name.name c.args.self.now _ _ (c.requires ∙ ap (λ n. Some (kinds.Name n)) (sym c.in_ok-name.ensures.cases)) c.in_ok-place.ensures.ok) (leads_first Part.Assign _ c.in_ok-contributes.ensures.ok.reads.leads)) (leads_first (Part.Chain levels.Or) _ c.in_ok-value.ensures.reads.leads)) (fault_first (Part.Exactly symbols.Semicolon) _ (inr c.in_err-symbol.ensures.err)))

pub returns : goal.returns
returns c =
    let is : c.if-contributes.act ≡ act_of c.in_ok-contributes.contributes c.in_ok-name.name c.in_ok-value.value =
    elim c.if-contributes.branch [ then-contributes w ↦ rw (w.act-is, w.if-contributes.true) refl | else-contributes w ↦ rw (w.act-is, w.if-contributes.false) refl ] in
    assignment_read c.in_ok-contributes.contributes c.in_ok-name.name c.in_ok-value.value c.in_ok-place.place c.args.self.now _ _ _ _ _
    (c.requires ∙ ap (λ n. Some (kinds.Name n)) (sym c.in_ok-name.ensures.cases)) c.in_ok-place.ensures.ok c.in_ok-contributes.ensures.ok c.in_ok-value.ensures c.in_ok-symbol.ensures.ok
    (ap (stmt_node c.in_ok-place.place) is)
