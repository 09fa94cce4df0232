use Rattle.kern_token.proofs.OneReading.{same_reading}
use Rattle.kern_token.proofs.SomeReading.{some_reading}
use Rattle.kern_token.proofs.laws.one_reading.Goals as goal

pub returns-clause-some : goal.returns-clause-some
returns-clause-some c = some_reading

pub returns-clause-one : goal.returns-clause-one
returns-clause-one c = same_reading
