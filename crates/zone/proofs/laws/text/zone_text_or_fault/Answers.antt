use Rattle.zone.proofs.Judged.{zone_or_fault}
use Rattle.zone.proofs.laws.text.zone_text_or_fault.Goals as goal

pub returns : goal.returns
returns c = zone_or_fault
