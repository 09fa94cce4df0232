use Rattle.text_lines.proofs.WrittenLemmas.{field_lines-written}
use Rattle.text_lines.proofs.laws.written_lines_read_back.Goals as goal

pub returns : goal.returns
returns c = field_lines-written 1
