use Rattle.kern_range.specs.Bodies.{ranges_at_start}
use Rattle.kern_range.specs.Walks.{known_by}
use Rattle.kern_range.proofs.expression.Walk.have_one_name.Goals as goal

pub returns : goal.returns
returns c =
    c.is_one_name.ensures (known_by
    (ranges_at_start c.args.self.now.first.now c.args.self.now.others.now c.args.self.now.decls.now) c.args.self.now.names.now c.args.ranges.now)
