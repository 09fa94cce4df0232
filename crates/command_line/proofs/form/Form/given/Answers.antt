use Rattle.std.proofs.Common.{◌∙◌, ap, Some}
use Rattle.clap.specs.Words.{app_of}
use Rattle.command_line.proofs.FormLemmas.{given-taken, simple_from_free}
use Rattle.command_line.proofs.form.Form.given.Goals as goal

pub returns-in-Ok : goal.returns-in-Ok
returns-in-Ok g c =
    let app = app_of c.args.self.command in
    ap Some (c.in-Ok.ensures.matches (simple_from_free app c.requires)).0 ∙ given-taken app _ (c.in-Ok.ensures.kinds c.requires)
