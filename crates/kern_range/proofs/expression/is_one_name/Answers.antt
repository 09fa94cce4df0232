use Rattle.std.proofs.Common.{◌∙◌, ap, ap₂, sym}
use Rattle.std.specs.Option.{option_copied}
use Rattle.kern_range.specs.Nodes.{is_one_name, node_of}
use Rattle.kern_range.proofs.expression.is_one_name.Goals as goal

pub returns-in-Some-Some : goal.returns-in-Some-Some
returns-in-Some-Some c known =
    c.eq.ensures
    ∙ ap₂ is_one_name (ap option_copied (sym c.in-Some-Some.is-0) ∙ c.called.ensures known) (ap option_copied (sym c.in-Some-Some.is-1) ∙ c.called-2.ensures known)

pub returns-in_default : goal.returns-in_default
returns-in_default c known =
    ap₂ is_one_name (ap option_copied (sym c.in_default.is-0) ∙ c.called.ensures known) (ap option_copied (sym c.in_default.is-1) ∙ c.called-2.ensures known)

pub returns-in_default-2 : goal.returns-in_default-2
returns-in_default-2 c known =
    ap (λ name. is_one_name name (node_of known c.args.b.now).called) (ap option_copied (sym c.in_default.is-0) ∙ c.called.ensures known)
