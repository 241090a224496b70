use Rattle.zone.proofs.OneFault.{any_fault}
use Rattle.zone.proofs.laws.text.class_any_has_one_fault.Goals as goal

pub returns : goal.returns
returns c = any_fault
