use Rattle.dns_field_texts.proofs.DigitLanes.{eight_digits}
use Rattle.dns_field_texts.proofs.time.are_eight_digits.Goals as goal

pub returns : goal.returns
returns c = eight_digits c.args.octets.now c.requires c.type_inv.octets
