use Rattle.std.proofs.Common.{take}
use Rattle.dns_scan.specs.Decoding.{HasRead}
use Rattle.dns_scan.specs.declared.encoding.base.Base.TheVariants.{SixtyFour}
use Rattle.dns_field_texts.proofs.base64.append_last.Given as goal

abbrev pub invariant-loop-octet : goal.invariant-loop-octet
invariant-loop-octet l = HasRead SixtyFour l.decoder (take l.octet-index l.text)
