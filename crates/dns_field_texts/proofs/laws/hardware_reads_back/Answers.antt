use Rattle.dns_field_texts.proofs.HardwareText.{hardware_reads_back}
use Rattle.dns_field_texts.proofs.laws.hardware_reads_back.Goals as goal

pub returns : goal.returns
returns c = hardware_reads_back
