use Rattle.dns_field_texts.proofs.HardwareText.{Read}
use Rattle.dns_field_texts.proofs.hardware.append_hardware.Given as goal

abbrev pub invariant-loop-index : goal.invariant-loop-index
invariant-loop-index l = Read l.text l.count l.fn.octets.items l.octets.items l.index l.left
