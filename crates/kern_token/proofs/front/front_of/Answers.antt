use Rattle.kern_token.proofs.RunLemmas.{Begins-comment, is_line_byte, run_inside}
use Rattle.kern_token.proofs.front.front_of.Goals as goal

pub returns-then-first-eq35-clause-ok : goal.returns-then-first-eq35-clause-ok
returns-then-first-eq35-clause-ok c = record {
  begins = Begins-comment c.args.text.now c.line_len.result c.line_len.ensures c.requires c.if-first-eq35.true;
  inside = run_inside is_line_byte c.args.text.now c.line_len.result c.line_len.ensures;
  in_limit = tt;
}
