use Rattle.std.proofs.Common.{inr}
use Rattle.std.proofs.lemmas.Result.{err_from_is_err_and}
use Rattle.kern_token.specs.declared.token.Symbol.TheVariants as symbols
use Rattle.kern_parse.specs.declared.declaration.Start.TheVariants as starts
use Rattle.kern_parse.specs.Required.{Part}
use Rattle.kern_parse.proofs.Declarations.{decl_leads, decl_full, force_read}
use Rattle.kern_parse.proofs.Following.{leads_then, leads_first, fault_first, fault_then}
use Rattle.kern_parse.proofs.reader.Reader.force.Goals as goal

pub returns-in_err-place : goal.returns-in_err-place
returns-in_err-place c =
    let fault = err_from_is_err_and c.from_residual.result c.from_residual.ensures.1 in
    rw (fault.1, fault.2) (inr (decl_full starts.Force c.args.self.now _ c.requires c.in_err-place.ensures.err))

pub returns-in_err-kind : goal.returns-in_err-kind
returns-in_err-kind c =
    let fault = err_from_is_err_and c.from_residual-in_err-kind.result c.from_residual-in_err-kind.ensures.1 in
    rw (fault.1, fault.2) (fault_then (decl_leads starts.Force c.args.self.now _ _ c.requires c.in_ok-place.ensures.ok) (fault_first Part.KindWord _ (c.in_err-kind.ensures)))

pub returns-in_err-scale : goal.returns-in_err-scale
returns-in_err-scale c =
    let fault = err_from_is_err_and c.from_residual-in_err-scale.result c.from_residual-in_err-scale.ensures.1 in
    rw (fault.1, fault.2) (fault_then (leads_then (decl_leads starts.Force c.args.self.now _ _ c.requires c.in_ok-place.ensures.ok) (leads_first Part.KindWord _ c.in_ok-kind.ensures.leads)) (fault_first Part.Scale _ (inr c.in_err-scale.ensures.err)))

pub returns-in_err-name : goal.returns-in_err-name
returns-in_err-name c =
    let fault = err_from_is_err_and c.from_residual-in_err-name.result c.from_residual-in_err-name.ensures.1 in
    rw (fault.1, fault.2) (fault_then (leads_then (leads_then (decl_leads starts.Force c.args.self.now _ _ c.requires c.in_ok-place.ensures.ok) (leads_first Part.KindWord _ c.in_ok-kind.ensures.leads)) (leads_first Part.Scale _ c.in_ok-scale.ensures.ok.leads)) (fault_first Part.Name _ (c.in_err-name.ensures.err)))

pub returns-in_err-combine : goal.returns-in_err-combine
returns-in_err-combine c =
    let fault = err_from_is_err_and c.from_residual-in_err-combine.result c.from_residual-in_err-combine.ensures.1 in
    rw (fault.1, fault.2) (fault_then (leads_then (leads_then (leads_then (decl_leads starts.Force c.args.self.now _ _ c.requires c.in_ok-place.ensures.ok) (leads_first Part.KindWord _ c.in_ok-kind.ensures.leads)) (leads_first Part.Scale _ c.in_ok-scale.ensures.ok.leads)) (leads_first Part.Name _ c.in_ok-name.ensures.ok.leads)) (fault_first Part.CombineWord _ (c.in_err-combine.ensures)))

pub returns-in_err-symbol : goal.returns-in_err-symbol
returns-in_err-symbol c =
    let fault = err_from_is_err_and c.from_residual-in_err-symbol.result c.from_residual-in_err-symbol.ensures.1 in
    rw (fault.1, fault.2) (fault_then (leads_then (leads_then (leads_then (leads_then (decl_leads starts.Force c.args.self.now _ _ c.requires c.in_ok-place.ensures.ok) (leads_first Part.KindWord _ c.in_ok-kind.ensures.leads)) (leads_first Part.Scale _ c.in_ok-scale.ensures.ok.leads)) (leads_first Part.Name _ c.in_ok-name.ensures.ok.leads)) (leads_first Part.CombineWord _ c.in_ok-combine.ensures.leads)) (fault_first (Part.Exactly symbols.Semicolon) _ (inr c.in_err-symbol.ensures.err)))

pub returns : goal.returns
returns c = force_read _ _ _ _ _ _ _ _ _ _ _ _ c.requires c.in_ok-place.ensures.ok c.in_ok-kind.ensures c.in_ok-scale.ensures.ok c.in_ok-name.ensures.ok c.in_ok-combine.ensures c.in_ok-symbol.ensures.ok
