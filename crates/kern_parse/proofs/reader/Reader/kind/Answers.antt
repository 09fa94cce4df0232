use Rattle.std.proofs.Common.{refl, sym, ap, ◌∙◌, inr}
use Rattle.kern_parse.specs.inner.Decls.{kind_of}
use Rattle.kern_parse.specs.Required.{Part}
use Rattle.kern_parse.proofs.Declarations.{kind_read, no_kind}
use Rattle.kern_parse.proofs.Steps.{refuses}
use Rattle.kern_parse.proofs.reader.Reader.kind.Goals as goal

pub returns : goal.returns
returns c = kind_read c.in-Some.kind c.args.self.now _ _ (ap kind_of (sym c.next.ensures) ∙ sym c.in-Some.ensures) c.take.ensures

pub returns-in_default : goal.returns-in_default
returns-in_default c = rw c.unexpected.ensures (inr (refuses Part.KindWord c.args.self.now refl (no_kind _ (ap kind_of (sym c.next.ensures) ∙ sym c.in_default.ensures))))
