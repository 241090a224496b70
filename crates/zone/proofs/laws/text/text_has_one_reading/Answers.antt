use Rattle.zone.proofs.OneFault.{one_reading}
use Rattle.zone.proofs.laws.text.text_has_one_reading.Goals as goal

pub returns : goal.returns
returns c = one_reading
