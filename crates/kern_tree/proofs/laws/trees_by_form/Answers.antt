use Rattle.kern_tree.proofs.NodeEquations as nodes
use Rattle.kern_tree.proofs.Unrolling.{expr_from_over, expr_to_over, stmt_from_over, stmt_to_over}
use Rattle.kern_tree.proofs.laws.trees_by_form.Goals as goal

pub returns : goal.returns
returns c = record {
  nodes = record {
    number = nodes.nodes-number;
    name = nodes.nodes-name;
    part = nodes.nodes-part;
    one = nodes.nodes-one;
    two = nodes.nodes-two;
    three = nodes.nodes-three;
    to = nodes.nodes-to;
    set = nodes.nodes-set;
    give = nodes.nodes-give;
    conditional = nodes.nodes-if;
  };
  expressions = record { onward = expr_to_over; back = expr_from_over };
  statements = record { onward = stmt_to_over; back = stmt_from_over };
}
