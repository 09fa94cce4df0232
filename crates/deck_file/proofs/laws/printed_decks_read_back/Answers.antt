use Rattle.deck_file.proofs.ReadBack.{read_back}
use Rattle.deck_file.proofs.laws.printed_decks_read_back.Goals as goal

pub returns : goal.returns
returns c = read_back c.numbers_read_back.ensures.digits c.written_lines_read_back.ensures
