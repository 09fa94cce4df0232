use Rattle.lane_code.proofs.Breaches.{each_is_fine}
use Rattle.lane_code.proofs.laws.each_instruction_is_fine.Goals as goal

pub returns : goal.returns
returns c = each_is_fine
