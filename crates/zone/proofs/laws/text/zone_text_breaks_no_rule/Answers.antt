use Rattle.zone.proofs.OneFault.{zone_no_fault}
use Rattle.zone.proofs.laws.text.zone_text_breaks_no_rule.Goals as goal

pub returns : goal.returns
returns c = zone_no_fault
