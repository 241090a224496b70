use Rattle.std.proofs.Common.{arith}
use Rattle.dns_field_texts.proofs.AppendedBase64.{four_digits}
use Rattle.dns_field_texts.proofs.base64.group_octets.Goals as goal

pub returns : goal.returns
returns c =
    four_digits c.args.first c.args.second c.args.third c.args.fourth _ _ _ (omega arith) (omega arith) (omega arith) (omega arith) (omega arith) (omega arith) (omega arith)
