use Rattle.std.proofs.Common.{arith}
use Rattle.dns_field_texts.proofs.AppendedBase64.{three_digits}
use Rattle.dns_field_texts.proofs.base64.two_octets.Goals as goal

pub returns : goal.returns
returns c = three_digits c.args.first c.args.second c.args.third _ _ (omega arith) (omega arith) (omega arith) (omega arith) (omega arith)
