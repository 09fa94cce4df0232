use Rattle.std.proofs.Common.{refl, sym, ap, ◌∙◌, inr}
use Rattle.kern_parse.specs.inner.Decls.{combine_of}
use Rattle.kern_parse.specs.Required.{Part}
use Rattle.kern_parse.proofs.Declarations.{combine_read, no_combine}
use Rattle.kern_parse.proofs.Steps.{refuses}
use Rattle.kern_parse.proofs.reader.Reader.combine.Goals as goal

pub returns : goal.returns
returns c = combine_read c.in-Some.combine c.args.self.now _ _ (ap combine_of (sym c.next.ensures) ∙ sym c.in-Some.ensures) c.take.ensures

pub returns-in_default : goal.returns-in_default
returns-in_default c = rw c.unexpected.ensures (inr (refuses Part.CombineWord c.args.self.now refl (no_combine _ (ap combine_of (sym c.next.ensures) ∙ sym c.in_default.ensures))))
