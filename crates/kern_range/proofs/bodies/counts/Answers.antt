use Rattle.std.proofs.Common.{◌∙◌, ap₂, sym, pos, lit<}
use Rattle.kern_range.specs.Intervals.{with_ends}
use Rattle.kern_range.proofs.IntervalLemmas.{exact-fits}
use Rattle.kern_range.proofs.bodies.counts.Goals as goal

pub returns : goal.returns
returns c = c.with_ends.ensures ∙ ap₂ with_ends (sym (exact-fits (pos 1) (record { sfits = lit< tt }))) c.count.ensures
