use Rattle.std.proofs.Common.{inr, refl, ◌∙◌, sym}
use Rattle.kern_parse.specs.Required.{Part}
use Rattle.kern_parse.proofs.Leaves.{no_name, no_axis, axis_read}
use Rattle.kern_parse.proofs.Steps.{refuses}
use Rattle.kern_parse.proofs.reader.Reader.axis.Goals as goal

pub returns-in_default : goal.returns-in_default
returns-in_default c = rw c.unexpected.ensures (inr (refuses Part.AxisName c.args.self.now refl (no_name _ (rw (← c.next.ensures) c.in_default.ensures))))

pub returns-in_default-axis_of : goal.returns-in_default-axis_of
returns-in_default-axis_of c =
    rw c.unexpected-in_default-axis_of.ensures (inr (refuses Part.AxisName c.args.self.now refl
    (no_axis c.in-Some.name.now _ (sym c.next.ensures ∙ c.in-Some.ensures) (sym c.axis_of.ensures ∙ c.in_default-axis_of.is))))

pub returns : goal.returns
returns c = axis_read c.in-Some.name.now _ _ c.args.self.now _ (sym c.next.ensures ∙ c.in-Some.ensures) (sym c.axis_of.ensures ∙ c.in-Some-axis_of.is) c.take.ensures
