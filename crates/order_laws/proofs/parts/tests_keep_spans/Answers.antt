use Rattle.order_laws.proofs.SpanLemmas.{tests_keep_spans}
use Rattle.order_laws.proofs.parts.tests_keep_spans.Goals as goal

pub returns : goal.returns
returns g c = tests_keep_spans
