use Rattle.dns_field_texts.proofs.HardwareText.{hardware_one}
use Rattle.dns_field_texts.proofs.laws.hardware_text_is_of_one.Goals as goal

pub returns : goal.returns
returns c = hardware_one
