use Rattle.zone.proofs.OneFault.{one_fault}
use Rattle.zone.proofs.laws.text.one_zone_fault.Goals as goal

pub returns : goal.returns
returns c = one_fault
